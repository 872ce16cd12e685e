use Rattle.weight_counter.proofs.Written.{scales_are_exact}
use Rattle.weight_counter.proofs.laws.scales_are_exact.Goals as goal

pub returns : goal.returns
returns c = scales_are_exact
