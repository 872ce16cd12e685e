use Rattle.run_decode.proofs.Growth.{instances_stay}
use Rattle.run_decode.proofs.laws.instances_stay.Goals as goal

pub returns : goal.returns
returns c = instances_stay
