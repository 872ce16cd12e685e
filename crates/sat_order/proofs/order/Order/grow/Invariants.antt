use Rattle.std.specs.Prelude.{◌≡◌, ◌≤◌, ◌+◌, ◌-◌, ◌++◌, length, max, replicate, true}
use Rattle.sat_order.specs.Rank.{IsRanked}
use Rattle.sat_order.proofs.order.Order.grow.Given as goal

abbrev pub invariant-loop-var : goal.invariant-loop-var
invariant-loop-var g l = record {
  rank : l.self-inside.rank ≡ l.fn.self.rank;
  ranked : IsRanked (goal.R-pre g) (goal.R-post g) l.fn.self → IsRanked (goal.R-pre g) (goal.R-post g) (record { rank = l.self-inside.rank; ranks = l.self-inside.queue.ranks; waiting = l.self-inside.queue.waiting });
  same : length l.self-inside.queue.waiting ≡ length l.self-inside.queue.ranks;
  count : length l.self-inside.queue.ranks ≡ l.var;
  upto : l.var ≤ max l.vars l.first;
  long : length l.fn.self.waiting ≤ l.var;
  waiting : l.self-inside.queue.waiting ≡ l.fn.self.waiting ++ replicate (l.var - length l.fn.self.waiting) true;
  room : l.vars ≤ l.var + l.self-inside.queue.spare;
}
