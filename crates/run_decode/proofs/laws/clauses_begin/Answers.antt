use Rattle.run_decode.proofs.WholeClauses.{clauses_begin}
use Rattle.run_decode.proofs.laws.clauses_begin.Goals as goal

pub returns : goal.returns
returns c = clauses_begin
