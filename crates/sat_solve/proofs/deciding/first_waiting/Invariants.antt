use Rattle.std.specs.Prelude.{length, count_by}
use Rattle.sat_order.specs.Rank.{KeepsRanks}
use Rattle.sat_solve.specs.Solving.{AreWaiting}
use Rattle.sat_solve.proofs.deciding.first_waiting.Given as goal

abbrev pub invariant-loop-var : goal.invariant-loop-var
invariant-loop-var g l = record {
  kept : KeepsRanks l.fn.order l.order;
  waiting : AreWaiting l.order.waiting l.trail.literals (length l.fn.order.waiting);
}

abbrev pub decreases-loop-var : goal.decreases-loop-var
decreases-loop-var g l = count_by (λ b. b) l.order.waiting
