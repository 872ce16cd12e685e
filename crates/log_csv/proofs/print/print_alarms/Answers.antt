use Rattle.log_csv.proofs.PrintLemmas.{alarms-on}
use Rattle.log_csv.proofs.print.print_alarms.Goals as goal

pub loop-alarm-preserved : goal.loop-alarm-preserved
loop-alarm-preserved c = alarms-on _ _ _ _ _ _ _ _ c.is_maybe.ensures c.id.ensures c.labels.ensures c.loop-alarm.invariant c.in_ok-print_alarm.ensures
