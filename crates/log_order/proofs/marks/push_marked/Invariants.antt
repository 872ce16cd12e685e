use Rattle.std.proofs.Common.{◌≡◌, ◌++◌, take}
use Rattle.std.specs.List.{filter}
use Rattle.log_order.specs.Precedence.{is_marked}
use Rattle.log_order.proofs.marks.push_marked.Given as goal

abbrev pub invariant-loop-number : goal.invariant-loop-number
invariant-loop-number l = l.into.items ≡ l.initial.into.items ++ filter (is_marked l.marks) (take l.number-index l.numbers)
