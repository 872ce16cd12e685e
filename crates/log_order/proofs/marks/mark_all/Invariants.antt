use Rattle.std.proofs.Common.{◌≡◌, ◌||◌, ℕ, length, take}
use Rattle.log_order.specs.Precedence.{is_marked, is_in}
use Rattle.log_order.proofs.marks.mark_all.Given as goal

abbrev pub invariant-loop-number : goal.invariant-loop-number
invariant-loop-number l = record {
  long : length l.marks.items ≡ length l.initial.marks.items;
  marked : (i : ℕ) → is_marked l.marks.items i ≡ (is_marked l.initial.marks.items i || is_in (take l.number-index l.numbers) i);
}
