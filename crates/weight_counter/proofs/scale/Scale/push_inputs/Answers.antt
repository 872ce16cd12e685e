use Rattle.weight_counter.specs.Scales.{place_variable}
use Rattle.weight_counter.proofs.Written.{adds_input}
use Rattle.weight_counter.proofs.scale.Scale.push_inputs.Goals as goal

pub loop-place-preserved : goal.loop-place-preserved
loop-place-preserved c = adds_input (place_variable c.args.self.now) c.args.self.now.amounts c.args.inputs.now _ _ _ c.loop-place.place c.input_at-x.result.now c.input_at-x.ensures c.loop-place.invariant c.push_input.ensures
