-- The end of a coded log, and what an alarm brings that is added there.
use Rattle.std.specs.Prelude.{◌≡◌, ℕ, ◌+◌, ◌≤◌, List, ◌++◌}
use Rattle.des_base.specs.declared.TheConstants.{VAR_LIMIT}
use Rattle.question_clauses.specs.Additions.{alarm_added}
use Rattle.log_encode.specs.CodedLog.{CodedLog, IsCodedLog, addition_width}
use Rattle.log_encode.specs.declared.alarm_vars.AlarmVars.{AlarmVars}
use Rattle.log_encode.specs.declared.draft.Change.{Change}
use Rattle.log_encode.specs.declared.draft.Change.TheVariants.{Alarm, Pair}
use Rattle.log_encode.specs.declared.log_end.LogEnd.{LogEnd}
use Rattle.log_encode.specs.declared.taken.Taken.{Taken}
use Rattle.log_encode.specs.View.{AreEnds, AreFalse}
use Rattle.log_encode.specs.Written.{guards_of, ends_after, dropped_written}
use Rattle.log_order.specs.Log.{Alarm as LogAlarm, an_alarm}

-- the end is that of the code
pub record IsLogEnd (code : CodedLog) (end : LogEnd) : Type 0 where
  pub of_net : end.net.now ≡ code.net
  pub on_grid : end.grid ≡ code.grid
  pub asking : end.asked ≡ code.asked
  pub coded : IsCodedLog code
  pub chains : AreEnds code end.ends.now (guards_of code.asked end.ends.now)
  pub false_ones : AreFalse code end.dropped.now

-- the alarm can be drafted there: its variables come after those of the code, within the limit
pub record CanDraft (code : CodedLog) (end : LogEnd) (new : LogAlarm) (first : ℕ) : Type 0 where
  pub here : IsLogEnd code end
  pub made : code.vars ≤ first
  pub few : first + addition_width code (alarm_added new) ≤ VAR_LIMIT

-- The change is an alarm with this id, these labels and these variables that may stand for these events, with the ends of chains, the guards and what says that alarms are false as they then are.
abbrev pub BringsAlarm : LogEnd → List ℕ → List (List ℕ) → List Taken → AlarmVars → Change → Type 0
BringsAlarm end id labels takes vars (Alarm alarm ends guards dropped) =
    (alarm ≡ record { noted = an_alarm id labels vars.doubtful; takes = takes; start = vars.start })
    × (ends.items ≡ ends_after vars 0 end.ends.now takes)
    × (guards.items ≡ guards_of end.asked ends.items)
    × (dropped.items ≡ end.dropped.now ++ dropped_written vars)
BringsAlarm end id labels takes vars (Pair i j) = ⊥
