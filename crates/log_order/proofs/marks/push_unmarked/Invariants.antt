use Rattle.std.proofs.Common.{◌≡◌, ◌++◌, take, not}
use Rattle.std.specs.List.{filter}
use Rattle.log_order.specs.Precedence.{is_marked}
use Rattle.log_order.proofs.marks.push_unmarked.Given as goal

abbrev pub invariant-loop-number : goal.invariant-loop-number
invariant-loop-number l = l.into.items ≡ l.initial.into.items ++ filter (λ i. not (is_marked l.marks i)) (take l.number-index l.numbers)
