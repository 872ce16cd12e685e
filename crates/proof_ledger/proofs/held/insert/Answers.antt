use Rattle.std.proofs.Common.{ap}
use Rattle.std.specs.BTreeMap.{is_at}
use Rattle.std.specs.Map.{lookup}
use Rattle.std.specs.Ordering.{nat_cmp}
use Rattle.des_base.proofs.Results.{on_err}
use Rattle.proof_ledger.proofs.held.insert.Goals as goal

pub returns-in_err-insert-clause-failed : goal.returns-in_err-insert-clause-failed
returns-in_err-insert-clause-failed c = on_err c.from_residual.result _ (λ asked. ap (lookup (is_at (nat_cmp asked))) c.in_err-insert.ensures.err)
