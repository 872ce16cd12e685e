-- the lines of the alarms so far
use Rattle.std.proofs.Common.{◌≡◌, ◌++◌, take}
use Rattle.std.specs.List.{flat_map}
use Rattle.log_csv.specs.PrintedLog.{alarm_line}
use Rattle.log_csv.proofs.print.print_alarms.Given as goal

abbrev pub invariant-loop-alarm : goal.invariant-loop-alarm
invariant-loop-alarm l = l.text.items ≡ l.initial.text.items ++ flat_map alarm_line (take l.alarm l.log.alarms)
