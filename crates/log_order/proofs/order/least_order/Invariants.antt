use Rattle.std.proofs.Common.{◌≡◌, ℕ, length}
use Rattle.log_order.specs.Precedence.{is_marked, is_in}
use Rattle.log_order.specs.Order.{taken_first}
use Rattle.log_order.proofs.order.least_order.Given as goal

abbrev pub invariant-loop : goal.invariant-loop
invariant-loop l = record {
  order : l.order.items ≡ taken_first l.count l.pairs l.counter;
  taken : (i : ℕ) → is_marked l.taken.items i ≡ is_in l.order.items i;
  long : length l.taken.items ≡ l.count;
}
