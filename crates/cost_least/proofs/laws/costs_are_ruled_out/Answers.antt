use Rattle.cost_least.proofs.Asked.{costs_are_ruled_out}
use Rattle.cost_least.proofs.laws.costs_are_ruled_out.Goals as goal

pub returns : goal.returns
returns c = costs_are_ruled_out
