use Rattle.std.proofs.Common.{ap}
use Rattle.proof_ledger.specs.Checking.{holds}
use Rattle.proof_ledger.proofs.Checks.{held_same}
use Rattle.proof_ledger.proofs.checker.Checker.new.Goals as goal

pub returns : goal.returns
returns c = ap holds (held_same _ _ c.in_ok-of_axioms.ensures)
