use Rattle.weight_counter.specs.Scales.{kept_clause, place_variable}
use Rattle.weight_counter.proofs.Written.{adds_more}
use Rattle.weight_counter.proofs.scale.Scale.keep_each.Goals as goal

pub loop-amount-preserved : goal.loop-amount-preserved
loop-amount-preserved c = adds_more (kept_clause (place_variable c.args.self.now) c.args.before) _ _ _ c.loop-amount.amount 2 c.loop-amount.invariant c.keep.ensures
