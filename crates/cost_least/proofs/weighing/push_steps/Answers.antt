use Rattle.std.proofs.Common.{◌≡◌, ◌∙◌, ◌++◌, ◌∷◌, [], ℕ, suc, ap, sym, append_assoc, map, ◌+◌, arith, true}
use Rattle.des_base.proofs.NumbersBelow.{map_numbers_more}
use Rattle.des_base.specs.Lists.{numbers_below}
use Rattle.prop_core.specs.Grids.{grid_variable}
use Rattle.prop_core.specs.declared.lit.Lit.{Lit}
use Rattle.step_encode.specs.FaultInputs.{event_literal}
use Rattle.weight_counter.specs.declared.weighted.Weighted.{Weighted}
use Rattle.cost_least.proofs.weighing.push_steps.Goals as goal

pub loop-step-preserved : goal.loop-step-preserved
loop-step-preserved c =
    let f : ℕ → Weighted = λ t. record { input = event_literal c.args.grid c.args.event t; weight = c.args.cost } in
    let next : c.loop-step.step + 1 ≡ suc c.loop-step.step = omega arith in
    let var : c.var.result ≡ grid_variable c.args.grid c.args.event (suc c.loop-step.step) = c.var.ensures.variable ∙ ap (λ k. grid_variable c.args.grid c.args.event k) next in
    let lit : c.new.result ≡ event_literal c.args.grid c.args.event c.loop-step.step = c.new.ensures ∙ ap (λ v. let l : Lit = record { var = v; positive = true } in l) var in
    let put : Weighted = f c.loop-step.step in
    c.in_ok-push.ensures.items
    ∙ ap (λ xs. xs ++ (let w : Weighted = record { input = c.new.result; weight = c.args.cost } in w) ∷ []) c.loop-step.invariant
    ∙ ap (λ (l : Lit). (c.args.into.now.items ++ map f (numbers_below c.loop-step.step)) ++ (let w : Weighted = record { input = l; weight = c.args.cost } in w) ∷ []) lit
    ∙ append_assoc c.args.into.now.items (map f (numbers_below c.loop-step.step)) (put ∷ [])
    ∙ ap (λ xs. c.args.into.now.items ++ xs) (sym (map_numbers_more f c.loop-step.step))
