use Rattle.std.specs.Prelude.{◌≡◌, ◌+◌, ◌≤◌, drop, length}
use Rattle.std.specs.List.{position_or_len}
use Rattle.sat_solve.specs.Advice.{can_be_decided}
use Rattle.sat_solve.proofs.first_tries.first_open.Given as goal

abbrev pub invariant-loop-place : goal.invariant-loop-place
invariant-loop-place l = record {
  within : l.place ≤ length l.lits;
  passed : l.place + position_or_len (can_be_decided l.trail.literals l.vars) (drop l.place l.lits) ≡ l.from + position_or_len (can_be_decided l.trail.literals l.vars) (drop l.from l.lits);
}
