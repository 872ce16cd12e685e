use Rattle.cost_least.proofs.Sums.{costs_are_weights}
use Rattle.cost_least.proofs.laws.costs_are_weights.Goals as goal

pub returns : goal.returns
returns c = costs_are_weights
