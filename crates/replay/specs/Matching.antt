-- How the steps of a run are matched to the alarms of a log, by name.
use Rattle.std.specs.Prelude.{◌≡◌, ⊤, ℕ, ◌+◌, Bool, true, false, ◌&&◌, not, List, [], ◌∷◌, ◌++◌, filter_map, find, option_map, Option, None, Some, is_some, if◌then◌else◌, nat_lt, option_and_then, IfSome, IsSome}
use Rattle.std.specs.List.{AllByRecursion}
use Rattle.std.specs.Option.{option_map_or, option_to_list}
use Rattle.des_base.specs.Names.{place_of}
use Rattle.des_net.specs.Network.{Net, label_of}
use Rattle.log_order.specs.Log.{Log, is_doubtful, place_in}
use Rattle.log_order.specs.Adding.{names_of}
use Rattle.log_order.specs.Order.{first_below}
use Rattle.log_order.specs.Precedence.{is_in}
use Rattle.replay.specs.declared.run.RunStep.{RunStep}
use Rattle.replay.specs.declared.run.RunStep.TheVariants.{Happens, Dropped}
use Rattle.replay.specs.Explanation.{Entry, has_label}
use Rattle.replay.specs.Traced.{word_of}

-- the name of an alarm on a step
abbrev pub name_on : RunStep → Option (List ℕ)
name_on (Happens event alarm) = alarm
name_on (Dropped alarm) = Some alarm

-- An alarm on a step with an event is true, and one that stands alone is false.
abbrev pub is_real : RunStep → Bool
is_real (Happens event alarm) = true
is_real (Dropped alarm) = false

-- the number of the alarm that a step names, where the log has it
abbrev pub alarm_of : Log → RunStep → Option ℕ
alarm_of log step = option_and_then (λ name. place_of name (names_of log.alarms)) (name_on step)

-- the numbers of the alarms that a run names, in order
abbrev pub alarms_on : Log → List RunStep → List ℕ
alarms_on log run = filter_map (alarm_of log) run

-- the alarm that a step names, with whether it is true, where the log has it
abbrev pub entry_of : Log → RunStep → Option Entry
entry_of log step = option_map (λ alarm. record { alarm = alarm; real = is_real step }) (alarm_of log step)

-- the alarms that a run names, in order, each with whether it is true; names that the log hasn't are passed over
abbrev pub order_of : Log → List RunStep → List Entry
order_of log run = filter_map (entry_of log) run

-- a run's events, and its alarms: those to which the events that can be seen are matched, and the false ones
abbrev pub pair_of : Log → List RunStep → List ℕ × List Entry
pair_of log run = (word_of run, order_of log run)

-- an event has the name of an alarm where it can be seen, and nowhere else
abbrev pub IsNamedWhereSeen : Net → RunStep → Type 0
IsNamedWhereSeen net (Happens event alarm) = is_some alarm ≡ is_some (label_of net event)
IsNamedWhereSeen net (Dropped alarm) = ⊤

-- and the alarm on the step is the log's
pub record IsMatched (net : Net) (log : Log) (step : RunStep) : Type 0 where
  pub named : IsNamedWhereSeen net step
  pub known : IfSome (name_on step) (λ name. IsSome (place_of name (names_of log.alarms)))

-- exactly the events that can be seen have alarms, and all alarms of the run are in the log
abbrev pub IsWellMatched : Net → Log → List RunStep → Type 0
IsWellMatched net log run = AllByRecursion (IsMatched net log) run

-- ---- the first step whose alarm is wrong

-- an alarm of this name is there, may stand for the label, and isn't among the earlier ones
abbrev pub suits_name : Log → List ℕ → List ℕ → List ℕ → Bool
suits_name log earlier label name =
    option_map_or (λ alarm. has_label log alarm label && not (is_in earlier alarm)) (place_of name (names_of log.alarms)) false

-- an event that can be seen has a name that suits its label, and one that can't be seen has none
abbrev pub suits_label : Log → List ℕ → Option (List ℕ) → Option (List ℕ) → Bool
suits_label log earlier None None = true
suits_label log earlier None (Some name) = false
suits_label log earlier (Some label) None = false
suits_label log earlier (Some label) (Some name) = suits_name log earlier label name

-- an alarm of this name is there, is doubtful, and isn't among the earlier ones
abbrev pub suits_alone : Log → List ℕ → List ℕ → Bool
suits_alone log earlier name = option_map_or (λ alarm. is_doubtful log alarm && not (is_in earlier alarm)) (place_of name (names_of log.alarms)) false

-- the step's alarm suits its event, or may stand alone, where the steps before have these alarms
abbrev pub suits : Net → Log → List ℕ → RunStep → Bool
suits net log earlier (Happens event alarm) = suits_label log earlier (label_of net event) alarm
suits net log earlier (Dropped alarm) = suits_alone log earlier alarm

-- the alarms of the steps before, and the step's own
abbrev pub with_step : Log → List ℕ → RunStep → List ℕ
with_step log earlier step = earlier ++ option_to_list (alarm_of log step)

-- the first place, counted on from this one, whose alarm doesn't suit
abbrev pub bad_alarm_from : Net → Log → List ℕ → ℕ → List RunStep → Option ℕ
bad_alarm_from net log earlier at [] = None
bad_alarm_from net log earlier at (step ∷ run) =
    if suits net log earlier step then bad_alarm_from net log (with_step log earlier step) (at + 1) run else Some at

-- counted from 1
abbrev pub bad_alarm : Net → Log → List RunStep → Option ℕ
bad_alarm net log run = bad_alarm_from net log [] 1 run

-- ---- alarms without a place, and pairs the wrong way round

-- the least of `alarms` alarms that isn't in the order
abbrev pub missing_alarm : ℕ → List ℕ → Option ℕ
missing_alarm alarms order = first_below alarms (λ alarm. not (is_in order alarm))

-- the first pair whose first alarm doesn't stand before its second
abbrev pub wrong_pair : List ℕ → List (ℕ × ℕ) → Option (ℕ × ℕ)
wrong_pair order pairs = find (λ pair. not (nat_lt (place_in order pair.0) (place_in order pair.1))) pairs
