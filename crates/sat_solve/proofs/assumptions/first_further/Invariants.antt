use Rattle.sat_solve.specs.Solving.{HasAssumedDecisions}
use Rattle.sat_solve.proofs.assumptions.first_further.Given as goal

abbrev pub invariant-loop-place : goal.invariant-loop-place
invariant-loop-place l = HasAssumedDecisions l.trail l.assumptions l.place
