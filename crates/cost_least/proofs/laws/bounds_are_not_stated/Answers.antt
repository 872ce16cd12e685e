use Rattle.cost_least.proofs.Drawing.{bounds_are_not_stated}
use Rattle.cost_least.proofs.laws.bounds_are_not_stated.Goals as goal

pub returns : goal.returns
returns c = bounds_are_not_stated
