use Rattle.sat_order.proofs.Queues.{LetsWait-lowered}
use Rattle.sat_order.proofs.queue.lower.Goals as goal

pub returns : goal.returns
returns c = rw c.min-next.ensures (LetsWait-lowered c.args.var c.place_of-place.result c.args.runs.now (record { rank = 0; next = 0; end = 0 }) c.place_of-place.ensures.place)
