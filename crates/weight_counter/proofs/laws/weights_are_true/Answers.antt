use Rattle.weight_counter.proofs.Weights.{weights_are_true}
use Rattle.weight_counter.proofs.laws.weights_are_true.Goals as goal

pub returns : goal.returns
returns c = weights_are_true
