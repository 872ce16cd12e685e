use Rattle.cost_least.proofs.Pricing.{costs_are_told}
use Rattle.cost_least.proofs.laws.costs_are_told.Goals as goal

pub returns : goal.returns
returns c = costs_are_told
