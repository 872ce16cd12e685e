use Rattle.std.specs.Prelude.{◌≡◌, length}
use Rattle.sat_solve.specs.Solving.{AreTrailValues}
use Rattle.sat_solve.proofs.finishing.keep_values.Given as goal

abbrev pub invariant-loop-var : goal.invariant-loop-var
invariant-loop-var l = record {
  room : length l.assignment ≡ length l.fn.assignment;
  values : AreTrailValues l.assignment l.trail.literals l.var;
}
