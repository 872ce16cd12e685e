use Rattle.weight_counter.proofs.Small.{scales_are_small}
use Rattle.weight_counter.proofs.laws.scales_are_small.Goals as goal

pub returns : goal.returns
returns c = scales_are_small
