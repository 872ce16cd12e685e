use Rattle.run_decode.proofs.Parts.{parts_are_assumed}
use Rattle.run_decode.proofs.laws.parts_are_assumed.Goals as goal

pub returns : goal.returns
returns c = parts_are_assumed
