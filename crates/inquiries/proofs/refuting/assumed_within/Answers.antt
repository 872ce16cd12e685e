-- The guards, and then the literal for the bound.
use Rattle.std.proofs.Common.{◌∙◌, ◌<◌, IfSome, arith, length, refl, sym, subst}
use Rattle.least_faults.proofs.Assuming.{assumed_alone, assumed_bound}
use Rattle.least_faults.specs.Asking.{AreAssumed}
use Rattle.inquiries.proofs.refuting.assumed_within.Goals as goal
use Rattle.inquiries.proofs.refuting.assumed_within.Goals.{in-Some+in_ok-push, in_default}

pub returns : goal.returns
returns g c = elim c.match-counted.branch [
  | in-Some+in_ok-push w ↦
      let parts = c.args.parts.now in
      let less = subst (λ o. IfSome o (λ k. k < length parts.counter.columns)) (sym c.counted.ensures.bound ∙ w.in-Some.is) c.requires in
      subst (λ within. AreAssumed parts.counter parts within c.match-counted.assumed.items) (sym w.in-Some.is ∙ c.counted.ensures.bound)
      (assumed_bound parts parts w.in-Some.k c.guards.result.now w.bound_lit.result c.match-counted.assumed.items c.guards.ensures.whole c.guards.ensures.listed refl (omega (arith, less)) w.bound_lit.ensures.literal
      (grind (arith, w.assumed-is, w.in_ok-push.ensures.items, c.in_ok-extend_from_slice.ensures.items, c.new-assumed.ensures.items)))
  | in_default w ↦
      let parts = c.args.parts.now in
      subst (λ within. AreAssumed parts.counter parts within c.match-counted.assumed.items) (sym w.in_default.is ∙ c.counted.ensures.bound)
      (assumed_alone parts c.guards.result.now c.match-counted.assumed.items c.guards.ensures.whole c.guards.ensures.listed
      (grind (arith, w.assumed-is, c.in_ok-extend_from_slice.ensures.items, c.new-assumed.ensures.items)))
]
