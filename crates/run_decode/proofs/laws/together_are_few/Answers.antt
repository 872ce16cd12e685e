use Rattle.run_decode.proofs.FewNames.{together_are_few}
use Rattle.run_decode.proofs.laws.together_are_few.Goals as goal

pub returns : goal.returns
returns c = together_are_few
