use Rattle.run_decode.proofs.WholeClauses.{clauses_grow}
use Rattle.run_decode.proofs.laws.clauses_grow.Goals as goal

pub returns : goal.returns
returns c = clauses_grow
