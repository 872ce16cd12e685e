-- the alarms so far have their places, and the rest decide what comes
use Rattle.std.proofs.Common.{◌≡◌, ◌+◌, ◌++◌, drop, length}
use Rattle.replay.specs.Matching.{alarms_on, bad_alarm, bad_alarm_from}
use Rattle.replay.proofs.matching.place_alarms.Given as goal

abbrev pub invariant-loop-i : goal.invariant-loop-i
invariant-loop-i l = record {
  alarms : l.placing.alarms ≡ length l.log.alarms;
  bad : bad_alarm_from l.net l.log l.placing.order (l.i + 1) (drop l.i l.steps) ≡ bad_alarm l.net l.log l.steps;
  order : l.placing.order ++ alarms_on l.log (drop l.i l.steps) ≡ alarms_on l.log l.steps;
}
