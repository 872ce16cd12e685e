-- An alarm of the log, as its code keeps it.
use Rattle.std.specs.Prelude.{ℕ, Bool, false, List, length}
use Rattle.std.specs.Option.{option_map_or}
use Rattle.log_encode.specs.declared.alarm_vars.AlarmVars.{AlarmVars}
use Rattle.log_encode.specs.declared.taken.Taken.{Taken}
use Rattle.log_encode.specs.AlarmVariables.{match_variable}
use Rattle.log_encode.specs.Written.{link_of}
use Rattle.log_order.specs.Log.{Alarm}

-- the alarm as the log has it, the events that it may stand for, each with the former end of its chain, and its first variable
pub record AlarmState : Type 0 where
  pub noted : Alarm
  pub takes : List Taken
  pub start : ℕ

-- where its variables stand, for `steps` steps
abbrev pub variables_of : ℕ → AlarmState → AlarmVars
variables_of steps alarm = record { start = alarm.start; links = length alarm.takes; steps = steps; doubtful = alarm.noted.doubtful }

-- it stands for the event in the step after t steps, by the truth of its variables
abbrev pub is_matched : ℕ → AlarmState → (ℕ → Bool) → ℕ → ℕ → Bool
is_matched steps alarm value e t = option_map_or (λ link. value (match_variable (variables_of steps alarm) link t)) (link_of alarm.takes e) false
