-- The number that is found is the smallest free one.
use Rattle.std.proofs.Common.{◌≡◌, ◌∙◌, ◌<◌, Some, not, length, sym, subst, arith, ap, true, refl, slice_set}
use Rattle.std.proofs.lemmas.Grind.{common_steps}
use Rattle.std.specs.Prelude.{vec_len}
use Rattle.log_order.specs.Precedence.{is_in, is_marked}
use Rattle.log_order.specs.Waiting.{is_held_back_in}
use Rattle.log_order.proofs.LeastOrder.{first_below-some, with_next-some, taken-more}
use Rattle.log_order.proofs.WaitingLemmas.{first-is_held_back_in}
use Rattle.log_order.proofs.order.take_next.Goals as goal

within : (c : goal.After-index_mut-arg-1) → c.in-Some.next < length c.args.taken.now.items
within c = subst (λ n. c.in-Some.next < n) c.requires.long (first_below-some (length c.args.before.now) (λ i. not (is_held_back_in c.args.before.now (is_marked c.as_slice.result.now) i)) c.in-Some.next (sym c.first_free.ensures ∙ c.in-Some.is)).below

pub index_mut-requires : goal.index_mut-requires
index_mut-requires c =
    let below = within c in
    let long : length c.args.taken.now.items ≡ vec_len c.args.taken.now = grind (arith, common_steps) in
    subst (λ n. c.in-Some.next < n) long below

pub returns-clause-taken : goal.returns-clause-taken
returns-clause-taken c = λ i.
    let below : c.in-Some.next < length c.args.taken.now.items = subst (λ n. c.in-Some.next < n) c.requires.long (first_below-some (length c.args.before.now) (λ i. not (is_held_back_in c.args.before.now (is_marked c.as_slice.result.now) i)) c.in-Some.next (sym c.first_free.ensures ∙ c.in-Some.is)).below in
    taken-more c.args.order.now.items c.args.taken.now.items (slice_set c.args.taken.now.items c.in-Some.next true) c.in-Some.next i below refl c.requires.taken ∙ ap (λ xs. is_in xs i) (sym c.in_ok-push.ensures.items)

pub returns-clause-order : goal.returns-clause-order
returns-clause-order c = λ pairs before.
    c.in_ok-push.ensures.items
    ∙ sym (with_next-some (length c.args.taken.now.items) pairs c.args.order.now.items c.in-Some.next
    (first-is_held_back_in (length c.args.before.now) (length c.args.taken.now.items) pairs c.args.before.now c.args.order.now.items c.args.taken.now.items c.as_slice.result.now (Some c.in-Some.next) c.requires.long c.as_slice.ensures.value before c.requires.taken (sym c.first_free.ensures ∙ c.in-Some.is)))
