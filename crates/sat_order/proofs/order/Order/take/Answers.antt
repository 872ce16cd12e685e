use Rattle.sat_order.proofs.Ranks.{taken_by_rank}
use Rattle.sat_order.proofs.order.Order.take.Goals as goal

pub returns-clause-by_rank : goal.returns-clause-by_rank
returns-clause-by_rank g c = taken_by_rank _ _ c.args.self.now _ c.take.result c.self.view_is c.self.invariant c.take.ensures.next
