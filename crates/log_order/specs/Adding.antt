-- What each call on a log refuses, what it adds, and what stays true of the log.
use Rattle.std.specs.Prelude.{ℕ, Bool, ◌≤◌, nat_le, nat_lt, ◌&&◌, ◌||◌, not, List, [], ◌∷◌, ◌++◌, map, length, Option, Some, None, is_some, if◌then◌else◌, bytes_eq}
use Rattle.std.specs.List.{list_any, AllByRecursion}
use Rattle.des_base.specs.Names.{place_of, AreNames}
use Rattle.log_order.specs.declared.TheConstants.{MOST_ALARMS, MOST_LABELS, MOST_PAIRS}
use Rattle.log_order.specs.declared.refusal.LogRefusal.{LogRefusal}
use Rattle.log_order.specs.declared.refusal.LogRefusal.TheVariants.{Double, Unknown, Cycle, NoLabels, Limit}
use Rattle.log_order.specs.Log.{Log, Alarm, IsValidLog, has_pair, closes_cycle, an_alarm}

-- the ids of alarms, in order
abbrev pub names_of : List Alarm → List (List ℕ)
names_of alarms = map (λ alarm. alarm.name) alarms

-- ---- an alarm

-- an alarm is refused if one has its name, if no label is given, or if there are as many as there may be or too many labels are given
unfoldable pub alarm_refusal : Log → List ℕ → List (List ℕ) → Option LogRefusal
alarm_refusal log name labels =
    if is_some (place_of name (names_of log.alarms)) then Some Double
    else if nat_le (length labels) 0 then Some NoLabels
    else if nat_le MOST_ALARMS (length log.alarms) || nat_lt MOST_LABELS (length labels) then Some Limit
    else None

-- the texts, and this one last if it isn't there
abbrev pub with_text : List (List ℕ) → List ℕ → List (List ℕ)
with_text texts text = if list_any (bytes_eq text) texts then texts else texts ++ text ∷ []

-- and each of the others, if it isn't there yet
abbrev pub with_texts : List (List ℕ) → List (List ℕ) → List (List ℕ)
with_texts texts [] = texts
with_texts texts (other ∷ others) = with_texts (with_text texts other) others

-- it is added last, with each of its labels once, at its first place
abbrev pub with_alarm : Log → List ℕ → List (List ℕ) → Bool → Log
with_alarm log name labels doubtful = record log { alarms = log.alarms ++ an_alarm name (with_texts [] labels) doubtful ∷ [] }

-- ---- a pair

-- a pair is refused if an alarm isn't there, if it closes a cycle, or if it is new and there are as many as there may be
unfoldable pub before_refusal : ℕ → List (ℕ × ℕ) → ℕ → ℕ → Option LogRefusal
before_refusal alarms pairs first second =
    if nat_lt first alarms && nat_lt second alarms then
    if closes_cycle pairs first second then Some Cycle
    else if not (has_pair pairs first second) && nat_le MOST_PAIRS (length pairs) then Some Limit
    else None
    else Some Unknown

-- it is added last if it is new
abbrev pub with_pair : List (ℕ × ℕ) → ℕ → ℕ → List (ℕ × ℕ)
with_pair pairs first second = if has_pair pairs first second then pairs else pairs ++ (first, second) ∷ []

-- ---- what is true of a log

-- an alarm has a label, each is a name and stands once, and they are no more than may be given
pub record IsAlarm (alarm : Alarm) : Type 0 where
  pub labels : AreNames alarm.labels
  pub some : 1 ≤ length alarm.labels
  pub few : length alarm.labels ≤ MOST_LABELS

-- a valid log whose alarms have names of their own, within the limits
pub record IsLog (log : Log) : Type 0 where
  pub valid : IsValidLog log
  pub names : AreNames (names_of log.alarms)
  pub alarms : AllByRecursion IsAlarm log.alarms
  pub few_alarms : length log.alarms ≤ MOST_ALARMS
  pub few_pairs : length log.pairs ≤ MOST_PAIRS
