use Rattle.log_encode.proofs.WrittenLemmas.{first_is_built}
use Rattle.log_encode.proofs.laws.first_is_built.Goals as goal

pub returns : goal.returns
returns c = first_is_built
