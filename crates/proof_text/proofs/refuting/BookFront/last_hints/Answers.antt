use Rattle.std.proofs.Common.{◌≡◌, ◌∙◌, ◌+◌, ◌-◌, ◌++◌, [], ◌∷◌, List, ℕ, sym, ap, arith}
use Rattle.std.specs.List.{range_with_len}
use Rattle.proof_text.proofs.Fronts.{range_more}
use Rattle.proof_text.proofs.refuting.BookFront.last_hints.Goals as goal

pub loop-before-preserved : goal.loop-before-preserved
loop-before-preserved c =
    let next : c.loop-before.before + 1 - c.args.axioms ≡ (c.loop-before.before - c.args.axioms) + 1 = omega (arith, c.loop-before.auto.before) in
    let here : c.args.axioms + 1 + (c.loop-before.before - c.args.axioms) ≡ c.loop-before.before + 1 = omega (arith, c.loop-before.auto.before) in
    c.in_ok-push.ensures.ok ∙ ap (λ (xs : List ℕ). xs ++ (c.loop-before.before + 1) ∷ []) c.loop-before.invariant
    ∙ ap (λ (k : ℕ). range_with_len (c.args.axioms + 1) (c.loop-before.before - c.args.axioms) ++ k ∷ []) (sym here)
    ∙ sym (range_more (c.args.axioms + 1) (c.loop-before.before - c.args.axioms)) ∙ ap (range_with_len (c.args.axioms + 1)) (sym next)
