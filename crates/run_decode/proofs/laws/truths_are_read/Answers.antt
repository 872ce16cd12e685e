use Rattle.run_decode.proofs.RunNames.{truths_are_read}
use Rattle.run_decode.proofs.laws.truths_are_read.Goals as goal

pub returns : goal.returns
returns c = truths_are_read
