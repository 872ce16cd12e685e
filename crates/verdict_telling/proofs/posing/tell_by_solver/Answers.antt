-- The question is built into an empty book.
use Rattle.std.proofs.Common.{ap, inl}
use Rattle.telling.proofs.Taking.{nothing_taken}
use Rattle.verdict_telling.proofs.posing.tell_by_solver.Goals as goal

pub returns-in-Err-clause-tells : goal.returns-in-Err-clause-tells
returns-in-Err-clause-tells g c = inl (record { question = inl (ap (λ (b : _). b.entries) c.new.ensures); put = nothing_taken _ })
