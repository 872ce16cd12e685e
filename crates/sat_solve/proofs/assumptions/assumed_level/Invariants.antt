use Rattle.std.specs.Prelude.{◌≡◌, ◌+◌, ◌≤◌, drop}
use Rattle.sat_solve.proofs.AssumedLevels.{assumed_of}
use Rattle.sat_solve.proofs.assumptions.assumed_level.Given as goal

abbrev pub invariant-loop-place : goal.invariant-loop-place
invariant-loop-place l = record {
  counted : l.level + assumed_of (drop l.place l.trail.literals) (drop l.place l.trail.reasons) l.assumptions ≡ assumed_of l.trail.literals l.trail.reasons l.assumptions;
  within : l.level ≤ l.place;
}
