use Rattle.std.proofs.Common.{◌≡◌, length}
use Rattle.least_faults.proofs.deadlines.devices.Given as goal

abbrev pub invariant-loop-alarm : goal.invariant-loop-alarm
invariant-loop-alarm l = length l.devices.items ≡ l.alarm
