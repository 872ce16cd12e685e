use Rattle.run_decode.proofs.RunNames.{beside_one_naming}
use Rattle.run_decode.proofs.laws.beside_one_naming.Goals as goal

pub returns : goal.returns
returns c = beside_one_naming
