use Rattle.std.proofs.Common.{◌≡◌, [], length}
use Rattle.log_order.specs.Waiting.{AreBefore}
use Rattle.log_order.proofs.order.none_before.Given as goal

abbrev pub invariant-loop : goal.invariant-loop
invariant-loop l = record {
  long : length l.lists.items ≡ l.counter;
  none : AreBefore [] l.lists.items;
}
