use Rattle.weight_counter.specs.Scales.{raised_clause, place_variable}
use Rattle.weight_counter.proofs.Written.{adds_more}
use Rattle.weight_counter.proofs.scale.Scale.raise_each.Goals as goal

pub loop-amount-preserved : goal.loop-amount-preserved
loop-amount-preserved c = adds_more (raised_clause (place_variable c.args.self.now) c.args.before c.args.x.now) _ _ _ c.loop-amount.amount 3 c.loop-amount.invariant c.raise.ensures
