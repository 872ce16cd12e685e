use Rattle.std.proofs.Common.{◌≡◌, length}
use Rattle.proof_ledger.specs.Checkers.{reached}
use Rattle.proof_ledger.specs.Checking.{check_proof, rest_gives}
use Rattle.proof_text.specs.LratText.{lrat_fault_of, first_lrat_fault, proof_steps_of, proof_of}
use Rattle.proof_text.proofs.lrat_text.check_lrat.Given as goal

-- the faults of the lines to come are those of all, and their steps lead to the outcome of all
abbrev pub invariant-loop-line : goal.invariant-loop-line
invariant-loop-line l = record {
  faults : lrat_fault_of l.cnf.vars l.last l.lines ≡ first_lrat_fault l.cnf.vars (length l.cnf.clauses.clauses) l.bytes;
  outcome : rest_gives (reached l.checker) (proof_steps_of l.lines) ≡ check_proof l.cnf.clauses.clauses (proof_of l.bytes);
}

abbrev pub decreases-loop-line : goal.decreases-loop-line
decreases-loop-line l = length l.lines
