-- The pass goes on along the order, and at its end all is marked that is reached.
use Rattle.std.proofs.Common.{◌≡◌, ◌∙◌, ◌<◌, ◌≤◌, ◌+◌, Vec, Global, ℕ, Bool, true, false, List, length, get_or, replicate, slice_set, ap, sym, subst, arith}
use Rattle.std.proofs.lemmas.Grind.{common_steps}
use Rattle.std.proofs.lemmas.List.{get_or_default}
use Rattle.log_order.specs.Log.{reaches}
use Rattle.log_order.specs.Precedence.{Precedence, is_marked}
use Rattle.log_order.proofs.PassLemmas.{IsPassed-start, IsPassed-marked, IsPassed-unmarked, IsPassed-end, followers-known, list-at, IsPassed}
use Rattle.log_order.proofs.precedence.Precedence.reached.Goals as goal
use Rattle.log_order.proofs.precedence.Precedence.reached.Goals.{then-is_marked, else-is_marked}

at : (order : List ℕ) (read : List ℕ) (k : ℕ) → read ≡ order → k < length order → get_or read k 0 ≡ get_or order k (get_or read k 0)
at order read k e l = ap (λ xs. get_or xs k 0) e ∙ get_or_default order k 0 _ l

pub loop-number-init : goal.loop-number-init
loop-number-init c =
    let within : c.args.from < length c.self.inside.order.items = subst (λ (p : Precedence). c.args.from < p.count) (sym c.self.view_is) c.requires in
    let none : c.in_ok-marks.marks.items ≡ replicate (length c.self.inside.order.items) false = grind (arith, common_steps) in
    IsPassed-start c.self.inside.pairs.items c.self.inside.order.items c.args.from _ within (ap (λ ms. slice_set ms c.args.from true) none)

pub mark_all-requires : goal.mark_all-requires
mark_all-requires c =
    let order = c.self.inside.order.items in
    let e : c.deref-number-items.result.now ≡ c.self.inside.order.items = c.deref-number-items.ensures.value in
    let l : c.loop-number.number-index < length c.self.inside.order.items = subst (λ xs. c.loop-number.number-index < length xs) e c.loop-number-test.true in
    let there = list-at c.self.inside.pairs.items order c.self.inside.followers.items c.loop-number.number-index _ _ c.self.invariant.kept l (at order c.deref-number-items.result.now c.loop-number.number-index e l) c.index.ensures in
    followers-known c.self.inside.pairs.items order c.self.inside.followers.items _ (length c.loop-number.marks.items) c.as_slice-then-is_marked.result.now c.self.invariant.kept (c.as_slice-then-is_marked.ensures ∙ there) c.loop-number.invariant.long

pub loop-number-preserved : goal.loop-number-preserved
loop-number-preserved c =
    let pairs = c.self.inside.pairs.items in
    let order = c.self.inside.order.items in
    let lists = c.self.inside.followers.items in
    let k = c.loop-number.number-index in
    let e : c.deref-number-items.result.now ≡ c.self.inside.order.items = c.deref-number-items.ensures.value in
    let l : c.loop-number.number-index < length c.self.inside.order.items = subst (λ xs. c.loop-number.number-index < length xs) e c.loop-number-test.true in
    let here = at order c.deref-number-items.result.now k e l in
    let test : c.is_marked.result ≡ is_marked c.loop-number.marks.items (get_or c.deref-number-items.result.now c.loop-number.number-index 0) = c.is_marked.ensures ∙ ap (λ ms. is_marked ms (get_or c.deref-number-items.result.now c.loop-number.number-index 0)) c.as_slice.ensures.value in
    elim c.if-is_marked.branch [
      | then-is_marked w ↦
          let there = list-at pairs order lists k _ _ c.self.invariant.kept l here w.index.ensures in
          subst (λ ms. IsPassed c.self.inside.pairs.items c.self.inside.order.items c.args.from ms (c.loop-number.number-index + 1)) (ap (λ (v : Vec Bool Global). v.items) (sym w.marks-is))
          (IsPassed-marked pairs order lists c.args.from c.loop-number.marks.items _ k _ _ c.self.invariant.kept c.loop-number.invariant l here (sym test ∙ w.if-is_marked.true) (w.as_slice-then-is_marked.ensures ∙ there) w.mark_all.ensures.long w.mark_all.ensures.marks)
      | else-is_marked w ↦
          subst (λ ms. IsPassed c.self.inside.pairs.items c.self.inside.order.items c.args.from ms (c.loop-number.number-index + 1)) (ap (λ (v : Vec Bool Global). v.items) (sym w.marks-is))
          (IsPassed-unmarked pairs order lists c.args.from c.loop-number.marks.items k _ c.self.invariant.kept c.loop-number.invariant l here (sym test ∙ w.if-is_marked.false))
    ]

pub returns : goal.returns
returns c =
    let e : c.deref-number-items.result.now ≡ c.self.inside.order.items = c.deref-number-items.ensures.value in
    let l : length c.self.inside.order.items ≤ c.loop-number.number-index = subst (λ (xs : List ℕ). length xs ≤ c.loop-number.number-index) e c.loop-number-test.false in
    record {
      marks = λ i. IsPassed-end c.self.inside.pairs.items c.self.inside.order.items c.self.inside.followers.items c.args.from c.loop-number.marks.items c.loop-number.number-index c.self.invariant.kept c.loop-number.invariant l i
          ∙ ap (λ (p : Precedence). reaches p.pairs c.args.from i) c.self.view_is;
    }
