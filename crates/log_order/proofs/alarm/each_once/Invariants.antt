use Rattle.std.proofs.Common.{◌≡◌, ◌≤◌, [], drop, length}
use Rattle.des_base.specs.Names.{AreNames}
use Rattle.log_order.specs.Adding.{with_texts}
use Rattle.log_order.proofs.alarm.each_once.Given as goal

abbrev pub invariant-loop-label : goal.invariant-loop-label
invariant-loop-label l = record {
  rest : with_texts l.once.items (drop l.label-index l.labels) ≡ with_texts [] l.labels;
  names : AreNames l.once.items;
  few : length l.once.items ≤ l.label-index;
}
