-- Logs that grow, and the clauses that each addition brings.
use Rattle.std.specs.Prelude.{◌≡◌, ℕ, suc, ◌<◌, ◌≤◌, List, [], ◌∷◌, ◌++◌, length, IsTrue, is_some}
use Rattle.des_net.specs.Network.{Net, label_of}
use Rattle.log_order.specs.Log.{Log, Alarm}
use Rattle.question_clauses.specs.LogClauses.{chain, match_inputs, LogClause, chain_closed, takes_rest, uses_up, passes_on, taken_or_passed, not_done_first, stays_done, match_is_done, matched_once, match_is_real, done_by_match, one_match, done_if_asked, before_if_asked}
use Rattle.card_counter.specs.Exclusions.{IsExclusionClause}
use Rattle.replay.specs.Explanation.{is_matching}

-- one alarm at the end, or one pair
pub data Addition : Type 0 where
  alarm_added : Alarm → Addition
  pair_added : (i j : ℕ) → Addition

-- the log with the addition behind what it has: a new alarm gets the next number, and a pair comes last, even if it stands there already
abbrev pub with_addition : Log → Addition → Log
with_addition log (alarm_added new) = record log { alarms = log.alarms ++ new ∷ [] }
with_addition log (pair_added i j) = record log { pairs = log.pairs ++ (i, j) ∷ [] }

-- the log after these additions, one after another
abbrev pub log_after : Log → List Addition → Log
log_after log [] = log
log_after log (addition ∷ additions) = log_after (with_addition log addition) additions

-- the new alarm, which gets the next number, may stand for event e
abbrev pub IsTaken : Net → Log → Alarm → ℕ → Type 0
IsTaken net log new e = IsTrue (is_matching net (with_addition log (alarm_added new)) e (length log.alarms))

-- the new alarm comes to the end of the chain of e, which had k alarms
abbrev pub IsNewLink : Net → Log → Alarm → ℕ → ℕ → ℕ → Type 0
IsNewLink net log new i e k = (i ≡ length log.alarms) × (k ≡ length (chain net log e)) × IsTaken net log new e

-- The clauses that a new alarm brings: none of events that it can't stand for.
abbrev pub IsAlarmClause : Net → Log → ℕ → Alarm → LogClause → Type 0
IsAlarmClause net log n new (chain_closed e k t) = (k ≡ suc (length (chain net log e))) × IsTaken net log new e × (t < n)
IsAlarmClause net log n new (takes_rest i e k t) = IsNewLink net log new i e k × (t < n)
IsAlarmClause net log n new (uses_up i e k t) = IsNewLink net log new i e k × (t < n)
IsAlarmClause net log n new (passes_on e k t) = (k ≡ length (chain net log e)) × IsTaken net log new e × (t < n)
IsAlarmClause net log n new (taken_or_passed i e k t) = IsNewLink net log new i e k × (t < n)
IsAlarmClause net log n new (not_done_first i) = i ≡ length log.alarms
IsAlarmClause net log n new (stays_done i t) = (i ≡ length log.alarms) × (t < n)
IsAlarmClause net log n new (match_is_done i e t) = (i ≡ length log.alarms) × IsTaken net log new e × (t < n)
IsAlarmClause net log n new (matched_once i e t) = (i ≡ length log.alarms) × IsTaken net log new e × (t < n)
IsAlarmClause net log n new (match_is_real i e t) = (i ≡ length log.alarms) × IsTaken net log new e × IsTrue new.doubtful × (t < n)
IsAlarmClause net log n new (done_by_match i t) = (i ≡ length log.alarms) × (t < n)
IsAlarmClause net log n new (one_match i t which) = (i ≡ length log.alarms) × (t < n) × IsExclusionClause (match_inputs net (with_addition log (alarm_added new)) i (suc t)) which
IsAlarmClause net log n new (done_if_asked i) = i ≡ length log.alarms
IsAlarmClause net log n new (before_if_asked i j t) = ⊥

-- the clauses that an addition brings
abbrev pub IsAddedClause : Net → Log → ℕ → Addition → LogClause → Type 0
IsAddedClause net log n (alarm_added new) which = IsAlarmClause net log n new which
IsAddedClause net log n (pair_added i j) which = (t : ℕ) × (t ≤ n) × (which ≡ before_if_asked i j t)

-- the clauses of the empty log: no event that can be seen happens where its chain, which has no alarm, is closed
abbrev pub IsFirstClause : Net → ℕ → LogClause → Type 0
IsFirstClause net n which = (e : ℕ) × (t : ℕ) × IsTrue (is_some (label_of net e)) × (t < n) × (which ≡ chain_closed e 0 t)
