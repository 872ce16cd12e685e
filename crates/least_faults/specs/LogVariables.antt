-- How many variables the code of a log has at most, apart from those of the steps.
use Rattle.std.specs.Prelude.{ℕ, ◌+◌, length, sum_by}
use Rattle.des_base.specs.Lists.{numbers_below}
use Rattle.des_net.specs.Network.{Net}
use Rattle.des_net.specs.QuestionSize.{observable_count}
use Rattle.log_encode.specs.AlarmVariables.{false_width}
use Rattle.log_order.specs.Log.{Log, is_doubtful}
use Rattle.replay.specs.QuestionSize.{alarm_variables, matching_count}

-- those of an alarm; a doubtful one has one more
abbrev pub own_variables : Net → Log → ℕ → ℕ → ℕ
own_variables net log n i = alarm_variables n (matching_count net log i) + false_width (is_doubtful log i)

-- those of the first k alarms
abbrev pub variables_of_first : Net → Log → ℕ → ℕ → ℕ
variables_of_first net log n k = sum_by (own_variables net log n) (numbers_below k)

-- those of all alarms
abbrev pub variables_of_alarms : Net → Log → ℕ → ℕ
variables_of_alarms net log n = variables_of_first net log n (length log.alarms)

-- those of all alarms and those of the empty log, which has one for each event that can be seen and one more
abbrev pub log_variables : Net → Log → ℕ → ℕ
log_variables net log n = 1 + observable_count net + variables_of_alarms net log n
