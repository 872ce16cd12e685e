use Rattle.std.specs.Prelude.{◌-◌, length}
use Rattle.sat_order.proofs.Queues.{IsSought}
use Rattle.sat_order.proofs.queue.place_of.Given as goal

abbrev pub invariant-on : goal.invariant-on
invariant-on l = IsSought l.var l.runs l.place

abbrev pub decreases-on : goal.decreases-on
decreases-on l = length l.runs - l.place
