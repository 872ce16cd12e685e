-- What a session refuses: what its log refuses, and else a question that would be too large.
use Rattle.std.specs.Prelude.{ℕ, Bool, false, not, List, length, Option, Some, None, nat_lt, if◌then◌else◌, option_map, option_and_then}
use Rattle.alarm_session.specs.declared.refusal.SessionRefusal.{SessionRefusal}
use Rattle.alarm_session.specs.declared.refusal.SessionRefusal.TheVariants.{Double, Unknown, Cycle, NoLabels, Limit, TooLarge, Memory}
use Rattle.des_base.specs.Names.{place_of}
use Rattle.des_net.specs.Network.{Net}
use Rattle.least_faults.specs.declared.TheConstants.{MOST_SIZE}
use Rattle.log_order.specs.Adding.{alarm_refusal, before_refusal, names_of, with_alarm, with_pair}
use Rattle.log_order.specs.Log.{Log, has_pair}
use Rattle.log_order.specs.declared.refusal.LogRefusal.{LogRefusal}
use Rattle.log_order.specs.declared.refusal.LogRefusal.TheVariants as of_log
use Rattle.replay.specs.QuestionSize.{question_size}

-- what the log refuses, as the session's own refusal
abbrev pub refusal_of : LogRefusal → SessionRefusal
refusal_of of_log.Double = Double
refusal_of of_log.Unknown = Unknown
refusal_of of_log.Cycle = Cycle
refusal_of of_log.NoLabels = NoLabels
refusal_of of_log.Limit = Limit
refusal_of of_log.Memory = Memory

-- a question of more than 20,000,000
abbrev pub large_refusal : ℕ → Option SessionRefusal
large_refusal size = if nat_lt MOST_SIZE size then Some (TooLarge size) else None

-- the log's refusal, and else that of the size with the addition
abbrev pub refusal_with : Option LogRefusal → ℕ → Option SessionRefusal
refusal_with None size = large_refusal size
refusal_with (Some refusal) size = Some (refusal_of refusal)

-- the number that is printed for a refusal; `Memory`, which isn't printed, has 0
abbrev pub refusal_number : SessionRefusal → ℕ
refusal_number Double = 1
refusal_number Unknown = 2
refusal_number Cycle = 3
refusal_number NoLabels = 4
refusal_number Limit = 5
refusal_number (TooLarge size) = 8
refusal_number Memory = 0

-- ---- of an alarm

-- why an alarm is refused, certain or doubtful: by the log, or since the question with it would be too large
abbrev pub refusal_of_alarm : Net → ℕ → Log → List ℕ → List (List ℕ) → Bool → Option SessionRefusal
refusal_of_alarm net n log name labels doubtful = refusal_with (alarm_refusal log name labels) (question_size net (with_alarm log name labels doubtful) n)

-- ---- of a pair, by the names of its alarms

-- the numbers of two alarms, where the log has both names
abbrev pub numbers_of : Log → List ℕ → List ℕ → Option (ℕ × ℕ)
numbers_of log first second = option_and_then (λ i. option_map (λ j. (i, j)) (place_of second (names_of log.alarms))) (place_of first (names_of log.alarms))

-- the log with a pair of numbers; if there is none, it stays
abbrev pub log_with : Log → Option (ℕ × ℕ) → Log
log_with log None = log
log_with log (Some pair) = record log { pairs = with_pair log.pairs pair.0 pair.1 }

-- the pair isn't there yet
abbrev pub is_new_pair : Log → Option (ℕ × ℕ) → Bool
is_new_pair log None = false
is_new_pair log (Some pair) = not (has_pair log.pairs pair.0 pair.1)

-- why the log refuses a pair of numbers, if it does; if there is none, an alarm is unknown
abbrev pub refusal_of_pair : Log → Option (ℕ × ℕ) → Option LogRefusal
refusal_of_pair log None = Some of_log.Unknown
refusal_of_pair log (Some pair) = before_refusal (length log.alarms) log.pairs pair.0 pair.1

-- why a pair is refused: by the log, or since the question with it would be too large
abbrev pub refusal_of_before : Net → ℕ → Log → List ℕ → List ℕ → Option SessionRefusal
refusal_of_before net n log first second = refusal_with (refusal_of_pair log (numbers_of log first second)) (question_size net (log_with log (numbers_of log first second)) n)
