use Rattle.run_decode.proofs.RunsGiven.{decoded_explains}
use Rattle.run_decode.proofs.laws.decoded_explains.Goals as goal

pub returns : goal.returns
returns c = decoded_explains
