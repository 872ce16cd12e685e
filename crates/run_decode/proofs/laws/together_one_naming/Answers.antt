use Rattle.run_decode.proofs.WholeNames.{together_one_naming}
use Rattle.run_decode.proofs.laws.together_one_naming.Goals as goal

pub returns : goal.returns
returns c = together_one_naming
