use Rattle.weight_counter.specs.Scales.{alone_clause, place_variable}
use Rattle.weight_counter.proofs.Written.{adds_more}
use Rattle.weight_counter.proofs.scale.Scale.push_alone.Goals as goal

pub loop-amount-preserved : goal.loop-amount-preserved
loop-amount-preserved c = adds_more (alone_clause (place_variable c.args.self.now) c.args.place c.args.x.now.input) _ _ _ c.loop-amount.amount 2 c.loop-amount.invariant c.add_alone.ensures
