use Rattle.std.proofs.Common.{ap, arith}
use Rattle.proof_ledger.proofs.Beginnings.{count_all}
use Rattle.proof_ledger.proofs.ledger.Ledger.entries.Goals as goal

pub returns-clause-count : goal.returns-clause-count
returns-clause-count c = omega (arith, c.len.ensures, count_all c.self.inside.first _ _ _ _ (ap (λ v. v.entries) c.self.view_is))
