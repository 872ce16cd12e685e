use Rattle.std.proofs.Common.{ap, sym, subst, List, ◌∙◌}
use Rattle.weight_counter.specs.declared.weighted.Weighted.{Weighted}
use Rattle.cost_least.specs.Weighed.{HasPushed}
use Rattle.cost_least.proofs.Pushed.{pushed_none, pushed_other, pushed_fault}
use Rattle.cost_least.proofs.weighing.push_faults.Goals.{then-is_fault+in_ok-push_steps, else-is_fault}
use Rattle.cost_least.proofs.weighing.push_faults.Goals as goal

pub loop-number-init : goal.loop-number-init
loop-number-init g c = pushed_none _ _ _ _ _

pub loop-number-preserved : goal.loop-number-preserved
loop-number-preserved g c =
    elim c.if-is_fault.branch [
      | then-is_fault+in_ok-push_steps w ↦ pushed_fault (goal.C-post g) c.args.costs.now.cost c.args.net.now c.args.grid c.loop-number.number w.cost.result c.args.into.now.items c.loop-number.into.items c.if-is_fault.into.items c.loop-number.invariant
          (sym c.is_fault.ensures ∙ w.if-is_fault.true) w.cost.ensures.answer (ap (λ v. v.items) w.into-is ∙ w.in_ok-push_steps.ensures)
      | else-is_fault w ↦ pushed_other (goal.C-post g) c.args.costs.now.cost c.args.net.now c.args.grid c.loop-number.number c.args.into.now.items c.if-is_fault.into.items
          (subst (λ (xs : List Weighted). HasPushed (goal.C-post g) c.args.costs.now.cost c.args.net.now c.args.grid c.loop-number.number c.args.into.now.items xs) (sym (ap (λ v. v.items) w.into-is)) c.loop-number.invariant)
          (sym c.is_fault.ensures ∙ w.if-is_fault.false)
    ]
