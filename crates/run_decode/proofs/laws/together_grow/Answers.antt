use Rattle.run_decode.proofs.WholeNames.{together_grow}
use Rattle.run_decode.proofs.laws.together_grow.Goals as goal

pub returns : goal.returns
returns c = together_grow
