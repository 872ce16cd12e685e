use Rattle.sat_order.proofs.Queues.{IsBestBefore}
use Rattle.sat_order.proofs.queue.best.Given as goal

abbrev pub invariant-loop-run : goal.invariant-loop-run
invariant-loop-run l = IsBestBefore l.runs l.run-index l.best
