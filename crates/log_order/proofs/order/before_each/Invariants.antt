use Rattle.std.proofs.Common.{◌≡◌, length, take}
use Rattle.log_order.specs.Waiting.{AreBefore}
use Rattle.log_order.proofs.order.before_each.Given as goal

abbrev pub invariant-loop-pair : goal.invariant-loop-pair
invariant-loop-pair l = record {
  long : length l.lists.items ≡ l.count;
  before : AreBefore (take l.pair-index l.pairs) l.lists.items;
}
