use Rattle.std.specs.Prelude.{◌≡◌, ℕ, ◌<◌, ◌≤◌, true, length}
use Rattle.sat_order.specs.Rank.{KeepsRanks}
use Rattle.sat_order.specs.Waiting.{waits}
use Rattle.sat_prop.specs.TrailState.{literal_at}
use Rattle.sat_solve.specs.Solving.{KeepsWaiting}
use Rattle.sat_solve.proofs.backtracking.unassign_above.Given as goal

abbrev pub invariant-down : goal.invariant-down
invariant-down g l = record {
  upto : l.place ≤ length l.trail.literals;
  kept : KeepsRanks l.fn.order l.order;
  waiting : KeepsWaiting l.fn.order.waiting l.order.waiting;
  back : (place : ℕ) → l.place ≤ place → place < length l.trail.literals → waits l.order.waiting (literal_at l.trail.literals place).var ≡ true;
}

abbrev pub decreases-down : goal.decreases-down
decreases-down g l = l.place
