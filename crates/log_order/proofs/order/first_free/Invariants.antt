use Rattle.std.proofs.Common.{◌≡◌, None, not}
use Rattle.log_order.specs.Precedence.{is_marked}
use Rattle.log_order.specs.Order.{first_below}
use Rattle.log_order.specs.Waiting.{is_held_back_in}
use Rattle.log_order.proofs.order.first_free.Given as goal

abbrev pub invariant-loop-number : goal.invariant-loop-number
invariant-loop-number l = first_below l.number (λ i. not (is_held_back_in l.before (is_marked l.taken) i)) ≡ None
