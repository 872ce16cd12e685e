use Rattle.log_encode.proofs.WrittenLemmas.{written_grows}
use Rattle.log_encode.proofs.laws.written_grows.Goals as goal

pub returns : goal.returns
returns c = written_grows
