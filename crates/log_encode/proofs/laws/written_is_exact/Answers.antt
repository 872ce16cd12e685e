use Rattle.log_encode.proofs.laws.written_is_exact.Goals as goal
use Rattle.log_encode.proofs.WrittenLemmas.{written_is_exact}

pub returns : goal.returns
returns c = written_is_exact
