-- The clauses of an alarm log in n steps of a network, by name: each alarm stands for one event that can be seen, each such event has one alarm, and pairs don't step back.
-- Observations beside the clauses of runs are as in Grastien, Anbulagan, Rintanen and Kelareva, "Diagnosis of discrete-event systems using satisfiability algorithms", 2007; the chains, by which a log grows, are our own.
use Rattle.std.specs.Prelude.{◌≡◌, ℕ, suc, ◌<◌, ◌≤◌, List, [], ◌∷◌, map, filter, length, if◌then◌else◌, Some, slice_get, is_some, Contains, IsTrue}
use Rattle.des_base.specs.Lists.{numbers_below}
use Rattle.des_net.specs.Network.{Net, label_of, observable_events}
use Rattle.log_order.specs.Log.{Log, is_doubtful}
use Rattle.card_counter.specs.Exclusions.{ExclusionClause, exclusion_clause, IsExclusionClause}
use Rattle.prop_core.specs.VariableNames.{Meaning, NamedLiteral, yes, no, asked, matches, done, closed, dropped, remaining, of_matches}
use Rattle.replay.specs.Explanation.{is_matching}

-- The chain of an event: the alarms that may stand for it, in the order of the log. An event that happens is passed along its chain until one of these alarms takes it.
abbrev pub chain : Net → Log → ℕ → List ℕ
chain net log e = filter (is_matching net log e) (numbers_below (length log.alarms))

-- the events that alarm i may stand for, by number
abbrev pub matching_events : Net → Log → ℕ → List ℕ
matching_events net log i = filter (λ e. is_matching net log e i) (numbers_below (length net.events))

-- the inputs of an "at most one": that alarm i stands for one of these events in step t, counted from 1
abbrev pub match_inputs : Net → Log → ℕ → ℕ → List Meaning
match_inputs net log i t = map (λ e. matches i e t) (matching_events net log i)

-- the alarms that are perhaps false, by number
abbrev pub doubtful_alarms : Log → List ℕ
doubtful_alarms log = filter (is_doubtful log) (numbers_below (length log.alarms))

-- Which clause of the log it is. Its step is the one after t steps, which meanings count as step t + 1; of a pair, t is a number of steps.
pub data LogClause : Type 0 where
  chain_closed : (e k t : ℕ) → LogClause
  takes_rest : (i e k t : ℕ) → LogClause
  uses_up : (i e k t : ℕ) → LogClause
  passes_on : (e k t : ℕ) → LogClause
  taken_or_passed : (i e k t : ℕ) → LogClause
  not_done_first : (i : ℕ) → LogClause
  stays_done : (i t : ℕ) → LogClause
  match_is_done : (i e t : ℕ) → LogClause
  matched_once : (i e t : ℕ) → LogClause
  match_is_real : (i e t : ℕ) → LogClause
  done_by_match : (i t : ℕ) → LogClause
  one_match : (i t : ℕ) → ExclusionClause → LogClause
  done_if_asked : (i : ℕ) → LogClause
  before_if_asked : (i j t : ℕ) → LogClause

-- these, or that alarm i is false if it is doubtful
abbrev pub or_false : Log → ℕ → List NamedLiteral → List NamedLiteral
or_false log i literals = if is_doubtful log i then yes (dropped i) ∷ literals else literals

-- the literals of a clause, by name; n, the number of all steps, is read by `done_if_asked` alone
abbrev pub log_clause : Net → Log → ℕ → LogClause → List NamedLiteral
-- where the chain of e is closed after k alarms, one of these has taken e
log_clause net log n (chain_closed e k t) = no (closed e k) ∷ no (remaining e k (suc t)) ∷ []
-- Alarm i, which has k before it in the chain, takes e only where these have passed it on,
log_clause net log n (takes_rest i e k t) = no (matches i e (suc t)) ∷ yes (remaining e k (suc t)) ∷ []
-- and doesn't pass it on;
log_clause net log n (uses_up i e k t) = no (matches i e (suc t)) ∷ no (remaining e (suc k) (suc t)) ∷ []
-- what k + 1 alarms have passed on k have;
log_clause net log n (passes_on e k t) = no (remaining e (suc k) (suc t)) ∷ yes (remaining e k (suc t)) ∷ []
-- and what comes to alarm i it takes or passes on.
log_clause net log n (taken_or_passed i e k t) = no (remaining e k (suc t)) ∷ yes (matches i e (suc t)) ∷ yes (remaining e (suc k) (suc t)) ∷ []
-- An alarm is done from its match on, and has one match. A false one has none, and is done from any step on, also from the start.
log_clause net log n (not_done_first i) = no (done i 0) ∷ or_false log i []
log_clause net log n (stays_done i t) = no (done i t) ∷ yes (done i (suc t)) ∷ []
log_clause net log n (match_is_done i e t) = no (matches i e (suc t)) ∷ yes (done i (suc t)) ∷ []
log_clause net log n (matched_once i e t) = no (matches i e (suc t)) ∷ no (done i t) ∷ []
log_clause net log n (match_is_real i e t) = no (matches i e (suc t)) ∷ no (dropped i) ∷ []
log_clause net log n (done_by_match i t) = no (done i (suc t)) ∷ yes (done i t) ∷ or_false log i (map (λ e. yes (matches i e (suc t))) (matching_events net log i))
log_clause net log n (one_match i t which) = exclusion_clause (of_matches i (suc t)) which
-- Where the log is asked for, each alarm is done at the end, and the first of a pair no later than the second.
log_clause net log n (done_if_asked i) = no asked ∷ yes (done i n) ∷ []
log_clause net log n (before_if_asked i j t) = no asked ∷ no (done j t) ∷ yes (done i t) ∷ []

-- alarm i is the one with k before it in the chain of e
abbrev pub IsLink : Net → Log → ℕ → ℕ → ℕ → Type 0
IsLink net log i e k = slice_get (chain net log e) k ≡ Some i

-- For which numbers it is written. A chain is closed after each number of alarms that it has ever had.
abbrev pub IsLogClause : Net → Log → ℕ → LogClause → Type 0
IsLogClause net log n (chain_closed e k t) = IsTrue (is_some (label_of net e)) × (k ≤ length (chain net log e)) × (t < n)
IsLogClause net log n (takes_rest i e k t) = IsLink net log i e k × (t < n)
IsLogClause net log n (uses_up i e k t) = IsLink net log i e k × (t < n)
IsLogClause net log n (passes_on e k t) = (k < length (chain net log e)) × (t < n)
IsLogClause net log n (taken_or_passed i e k t) = IsLink net log i e k × (t < n)
IsLogClause net log n (not_done_first i) = i < length log.alarms
IsLogClause net log n (stays_done i t) = (i < length log.alarms) × (t < n)
IsLogClause net log n (match_is_done i e t) = IsTrue (is_matching net log e i) × (t < n)
IsLogClause net log n (matched_once i e t) = IsTrue (is_matching net log e i) × (t < n)
IsLogClause net log n (match_is_real i e t) = IsTrue (is_matching net log e i) × IsTrue (is_doubtful log i) × (t < n)
IsLogClause net log n (done_by_match i t) = (i < length log.alarms) × (t < n)
IsLogClause net log n (one_match i t which) = (i < length log.alarms) × (t < n) × IsExclusionClause (match_inputs net log i (suc t)) which
IsLogClause net log n (done_if_asked i) = i < length log.alarms
IsLogClause net log n (before_if_asked i j t) = Contains log.pairs (i, j) × (t ≤ n)

-- What is assumed for this log: it is asked for, and the chain of each event that can be seen ends after its present alarms. Where a chain grows, its earlier end is assumed no more.
abbrev pub guard_literals : Net → Log → List NamedLiteral
guard_literals net log = yes asked ∷ map (λ e. yes (closed e (length (chain net log e)))) (observable_events net)
