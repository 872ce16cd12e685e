use Rattle.std.proofs.Common.{◌≡◌, ◌∙◌, ◌++◌, ◌∷◌, [], suc, ap, sym, append_assoc, map, ◌+◌, arith}
use Rattle.des_base.proofs.NumbersBelow.{map_numbers_more}
use Rattle.des_base.specs.Lists.{numbers_below}
use Rattle.fault_verdicts.proofs.literals.push_event.Goals as goal
use Rattle.fault_verdicts.specs.Judging.{signed_literal}
use Rattle.prop_core.specs.Grids.{grid_variable}

pub loop-step-preserved : goal.loop-step-preserved
loop-step-preserved c =
    let literal = signed_literal c.args.grid.now c.args.sign c.args.event in
    let next : c.loop-step.step + 1 ≡ suc c.loop-step.step = omega arith in
    let known : c.event.inside.0 ≡ c.args.event = c.event.view_is in
    let var : c.var.result ≡ grid_variable c.args.grid.now c.args.event (suc c.loop-step.step) = c.var.ensures.variable ∙ (λ i. grid_variable c.args.grid.now (known i) (next i)) in
    let lit : c.new.result ≡ literal c.loop-step.step = c.new.ensures ∙ (λ i. record { var = var i; positive = c.args.sign }) in
    c.in_ok-push.ensures.items ∙ (λ i. c.loop-step.invariant i ++ lit i ∷ [])
    ∙ append_assoc c.args.into.now.items (map literal (numbers_below c.loop-step.step)) (literal c.loop-step.step ∷ [])
    ∙ ap (λ xs. c.args.into.now.items ++ xs) (sym (map_numbers_more literal c.loop-step.step))
