use Rattle.std.specs.Prelude.{◌-◌, length}
use Rattle.sat_solve.specs.Solving.{AreTaken}
use Rattle.sat_solve.proofs.assumptions.next_assumption.Given as goal

abbrev pub invariant-next : goal.invariant-next
invariant-next l = AreTaken l.trail.literals l.assumptions l.taken

abbrev pub decreases-next : goal.decreases-next
decreases-next l = length l.assumptions - l.taken
