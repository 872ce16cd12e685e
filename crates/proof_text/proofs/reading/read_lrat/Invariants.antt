use Rattle.std.proofs.Common.{◌≡◌, ◌++◌, length}
use Rattle.proof_text.specs.LratText.{lrat_fault_of, first_lrat_fault, proof_steps_of, proof_of}
use Rattle.proof_text.proofs.reading.read_lrat.Given as goal

-- the faults of the lines to come are those of all, and the steps so far and those to come are all
abbrev pub invariant-loop-line : goal.invariant-loop-line
invariant-loop-line l = record {
  faults : lrat_fault_of l.vars l.last l.lines ≡ first_lrat_fault l.vars l.clauses l.bytes;
  steps : l.proof ++ proof_steps_of l.lines ≡ proof_of l.bytes;
}

abbrev pub decreases-loop-line : goal.decreases-loop-line
decreases-loop-line l = length l.lines
