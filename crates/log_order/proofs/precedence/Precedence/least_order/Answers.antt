-- The order of the smallest free numbers is an order of all of them, since there is one.
use Rattle.std.proofs.Common.{◌≡◌, ◌∙◌, ap, sym, subst, List, ℕ}
use Rattle.log_order.specs.Log.{ListsOnce, Keeps}
use Rattle.log_order.specs.Order.{least_order}
use Rattle.log_order.specs.Precedence.{Precedence}
use Rattle.log_order.proofs.LeastOrder.{least_order-is}
use Rattle.log_order.proofs.precedence.Precedence.least_order.Goals as goal

order_is : (c : goal.In_ok-order) → c.in_ok-order.order.items ≡ least_order c.args.self.now.count c.args.self.now.pairs
order_is c = c.in_ok-order.ensures ∙ ap (λ n. least_order n c.as_slice.result.now) c.count.ensures.count
    ∙ ap (least_order c.args.self.now.count) (c.as_slice.ensures.value ∙ ap (λ (p : Precedence). p.pairs) c.self.view_is)

pub returns-clause-listed : goal.returns-clause-listed
returns-clause-listed c = subst (λ (xs : List ℕ). ListsOnce c.args.self.now.count xs) (sym (order_is c)) (least_order-is _ _ c.count.ensures.ordered).listed

pub returns-clause-kept : goal.returns-clause-kept
returns-clause-kept c = subst (λ (xs : List ℕ). Keeps xs c.args.self.now.pairs) (sym (order_is c)) (least_order-is _ _ c.count.ensures.ordered).kept
