-- The question is no larger than its question of costs, and it is built within at most MOST_STEPS steps.
use Rattle.std.proofs.Common.{◌≤◌, ℕ, arith, subst, sym}
use Rattle.cost_least.specs.Costs.{cost_size}
use Rattle.des_base.specs.declared.TheConstants.{MOST_STEPS}
use Rattle.least_faults.specs.declared.TheConstants.{MOST_SIZE}
use Rattle.calls_question.proofs.cost_calls.builds.Goals as goal

pub build-requires-clause-limits : goal.build-requires-clause-limits
build-requires-clause-limits g c = record { steps = c.requires.steps; size = (let size = c.requires.size in omega (arith, size)) }

pub weighs-requires-clause-steps : goal.weighs-requires-clause-steps
weighs-requires-clause-steps g c = subst (λ (n : ℕ). n ≤ MOST_STEPS) (sym c.in-Ok.ensures.built.steps) c.requires.steps

pub weighs-requires-clause-size : goal.weighs-requires-clause-size
weighs-requires-clause-size g c = subst (λ (n : ℕ). cost_size c.args.net.now c.args.log.now n ≤ MOST_SIZE) (sym c.in-Ok.ensures.built.steps) c.requires.size
