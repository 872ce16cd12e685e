use Rattle.std.proofs.Common.{◌≡◌, drop}
use Rattle.proof_ledger.specs.Checkers.{reached}
use Rattle.proof_ledger.specs.Checking.{check_proof, rest_gives}
use Rattle.proof_ledger.proofs.checker.check.Given as goal

-- the steps to come lead to the outcome of all
abbrev pub invariant-loop-step : goal.invariant-loop-step
invariant-loop-step l = rest_gives (reached l.checker) (drop l.step-index l.steps) ≡ check_proof l.fn.axioms.clauses l.fn.steps
