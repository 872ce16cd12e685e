use Rattle.cost_least.proofs.Asks.{scaled_parts_tell}
use Rattle.cost_least.proofs.laws.scaled_parts_tell.Goals as goal

pub returns : goal.returns
returns c = scaled_parts_tell
