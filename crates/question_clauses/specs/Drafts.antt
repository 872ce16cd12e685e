-- The clauses of an addition to a log as a list, in the order in which loops write them.
use Rattle.std.specs.Prelude.{◌≡◌, ℕ, suc, Bool, true, false, ◌+◌, ◌*◌, ◌≤◌, List, [], ◌∷◌, ◌++◌, map, flat_map, length}
use Rattle.des_base.specs.Lists.{numbers_below}
use Rattle.des_net.specs.Network.{Net, observable_events}
use Rattle.des_net.specs.QuestionSize.{observable_count}
use Rattle.log_order.specs.Log.{Log, Alarm, no_log}
use Rattle.question_clauses.specs.Additions.{Addition, alarm_added, pair_added, with_addition}
use Rattle.question_clauses.specs.LogClauses.{chain, matching_events, LogClause, log_clause, chain_closed, takes_rest, uses_up, passes_on, taken_or_passed, not_done_first, stays_done, match_is_done, matched_once, match_is_real, done_by_match, one_match, done_if_asked, before_if_asked}
use Rattle.question_clauses.specs.LogCodes.{IsNamedAdded, IsNamedFirst}
use Rattle.prop_core.specs.Clauses.{Clause}
use Rattle.prop_core.specs.NamedClauses.{IsCode}
use Rattle.card_counter.specs.Exclusions.{exclusion_list}
use Rattle.prop_core.specs.VariableNames.{Meaning, matches}
use Rattle.replay.specs.QuestionSize.{question_size}
use Rattle.prop_core.specs.Listings.{Listing, IsListed}

-- the events that a new alarm may stand for
abbrev pub taken_events : Net → Log → Alarm → List ℕ
taken_events net log new = matching_events net (with_addition log (alarm_added new)) (length log.alarms)

-- of alarm i, which comes after k alarms in the chain of event e, and the step after t steps
abbrev pub alarm_link_clauses : ℕ → ℕ → ℕ → ℕ → List LogClause
alarm_link_clauses i e k t = chain_closed e (suc k) t ∷ takes_rest i e k t ∷ uses_up i e k t ∷ passes_on e k t ∷ taken_or_passed i e k t
    ∷ match_is_done i e t ∷ matched_once i e t ∷ []

-- at most one of these events for alarm i in the step after t steps
abbrev pub match_clauses : ℕ → ℕ → List ℕ → List LogClause
match_clauses i t events = map (one_match i t) (exclusion_list (map (λ e. matches i e (suc t)) events))

-- of alarm i, which may stand for these events, and the step after t steps
abbrev pub done_clauses : ℕ → List ℕ → ℕ → List LogClause
done_clauses i events t = stays_done i t ∷ done_by_match i t ∷ match_clauses i t events

-- a link of each event that the alarm may stand for, and then what is written of the alarm alone
abbrev pub alarm_clauses : Net → Log → ℕ → Alarm → List LogClause
alarm_clauses net log n new =
    flat_map (λ e. flat_map (alarm_link_clauses (length log.alarms) e (length (chain net log e))) (numbers_below n)) (taken_events net log new)
    ++ not_done_first (length log.alarms) ∷ done_if_asked (length log.alarms)
    ∷ flat_map (done_clauses (length log.alarms) (taken_events net log new)) (numbers_below n)

-- if it is doubtful, that none of its matches goes with its being false
abbrev pub real_clauses : Bool → ℕ → List ℕ → ℕ → List LogClause
real_clauses false i events n = []
real_clauses true i events n = flat_map (λ e. map (λ t. match_is_real i e t) (numbers_below n)) events

-- all clauses of an addition: those of an alarm, or of a pair one for each number of steps from 0 to n
abbrev pub added_clauses : Net → Log → ℕ → Addition → List LogClause
added_clauses net log n (alarm_added new) = alarm_clauses net log n new ++ real_clauses new.doubtful (length log.alarms) (taken_events net log new) n
added_clauses net log n (pair_added i j) = map (λ t. before_if_asked i j t) (numbers_below (suc n))

-- the clauses of the empty log
abbrev pub first_clauses : Net → ℕ → List LogClause
first_clauses net n = flat_map (λ e. map (λ t. chain_closed e 0 t) (numbers_below n)) (observable_events net)

-- the clauses of an addition by name, as the log with the addition has them
abbrev pub added_list : Net → Log → ℕ → Addition → Listing
added_list net log n addition = map (log_clause net (with_addition log addition) n) (added_clauses net log n addition)

-- and those of the empty log by name
abbrev pub first_list : Net → ℕ → Listing
first_list net n = map (log_clause net no_log n) (first_clauses net n)

-- Clauses that are listed so are the code of the addition, or of the empty log.
abbrev pub DraftsAreCode : Type 0
DraftsAreCode = (net : Net) (n : ℕ) (meanings : List (ℕ × Meaning)) (clauses : List Clause) →
    ((log : Log) (addition : Addition) → IsListed meanings (added_list net log n addition) clauses → IsCode meanings (IsNamedAdded net log n addition) clauses)
    × (IsListed meanings (first_list net n) clauses → IsCode meanings (IsNamedFirst net n) clauses)

-- An addition has at most 12 clauses for each unit by which the size of the question grows, and 12.
abbrev pub DraftsAreSmall : Type 0
DraftsAreSmall = (net : Net) (log : Log) (n : ℕ) (addition : Addition) →
    length (added_clauses net log n addition) + 12 * question_size net log n ≤ 12 * question_size net (with_addition log addition) n + 12

-- The empty log has a clause for each event that can be seen, in each step.
abbrev pub FirstClausesAreFew : Type 0
FirstClausesAreFew = (net : Net) (n : ℕ) → length (first_clauses net n) ≡ observable_count net * n
