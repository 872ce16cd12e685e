use Rattle.std.proofs.Common.{◌≡◌, ◌∙◌, sym, not, true}
use Rattle.log_order.specs.Precedence.{is_marked}
use Rattle.log_order.specs.Waiting.{is_held_back_in}
use Rattle.log_order.proofs.LeastOrder.{first_below-found}
use Rattle.log_order.proofs.order.first_free.Goals as goal

pub returns-then-is_free : goal.returns-then-is_free
returns-then-is_free c =
    let free : not (is_held_back_in c.args.before.now (is_marked c.args.taken.now) c.loop-number.number) ≡ true = sym c.is_free.ensures ∙ c.if-is_free.true in
    sym (first_below-found _ c.loop-number.number (λ i. not (is_held_back_in c.args.before.now (is_marked c.args.taken.now) i)) free c.loop-number.invariant c.loop-number-test.true)
