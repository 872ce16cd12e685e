use Rattle.std.proofs.Common.{◌≡◌, ◌∙◌, ◌+◌, ℕ, suc, List, ap, sym, subst, arith}
use Rattle.log_order.specs.Order.{with_next, taken_first}
use Rattle.log_order.specs.Waiting.{AreBefore}
use Rattle.log_order.proofs.order.least_order.Goals as goal

pub loop-preserved : goal.loop-preserved
loop-preserved c =
    let before : AreBefore c.args.pairs.now c.as_slice.result.now = subst (λ (lists : List (List ℕ)). AreBefore c.args.pairs.now lists) (sym c.as_slice.ensures.value) c.in_ok-before.ensures.before in
    let next : suc c.loop.counter ≡ c.loop.counter + 1 = omega arith in
    record {
      order = c.in_ok-take_next.ensures.order c.args.pairs.now before
          ∙ ap (λ n. with_next n c.args.pairs.now c.loop.order.items) c.loop.invariant.long
          ∙ ap (λ o. with_next c.args.count c.args.pairs.now o) c.loop.invariant.order
          ∙ ap (λ k. taken_first c.args.count c.args.pairs.now k) next;
      taken = c.in_ok-take_next.ensures.taken;
      long = c.take_next.ensures.long ∙ c.loop.invariant.long;
    }
