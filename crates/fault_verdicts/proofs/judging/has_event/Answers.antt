use Rattle.std.proofs.Common.{◌≡◌, ◌∙◌, false, true, ap, arith, refl, subst, sym}
use Rattle.std.proofs.lemmas.List.{take_all}
use Rattle.fault_verdicts.proofs.Steps.{any_has, has_at, none_there}
use Rattle.fault_verdicts.proofs.judging.has_event.Goals as goal
use Rattle.fault_verdicts.specs.Judging.{has_this}
use Rattle.replay.specs.Traced.{event_of}

pub returns-then-is_of : goal.returns-then-is_of
returns-then-is_of c = (
  λ is. has_at c.args.steps.now _ _ c.args.event (omega arith) (ap (λ s. has_this c.args.event (event_of s)) (sym c.step-item.is) ∙ sym c.is_of.ensures ∙ c.if-is_of.true),
  λ in'. refl,
)

pub returns : goal.returns
returns c =
    let none = subst (λ steps. any_has c.args.event steps ≡ false) (take_all c.loop-step.step-index c.args.steps.now (omega (arith, c.loop-step-test.false))) c.loop-step.invariant in
    (λ is. by is, λ in'. absurd (none_there c.args.steps.now c.args.event none in'))
  where
    by : {A : Type 0} → false ≡ true → A
    by h = cc
