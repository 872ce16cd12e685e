use Rattle.run_decode.proofs.WholeNames.{together_ask}
use Rattle.run_decode.proofs.laws.together_ask.Goals as goal

pub returns : goal.returns
returns c = together_ask
