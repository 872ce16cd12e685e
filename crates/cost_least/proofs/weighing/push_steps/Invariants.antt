use Rattle.std.proofs.Common.{◌≡◌, ◌++◌, map}
use Rattle.des_base.specs.Lists.{numbers_below}
use Rattle.step_encode.specs.FaultInputs.{event_literal}
use Rattle.cost_least.proofs.weighing.push_steps.Given as goal

abbrev pub invariant-loop-step : goal.invariant-loop-step
invariant-loop-step l = l.into.items ≡ l.fn.into.items ++ map (λ t. record { input = event_literal l.grid l.event t; weight = l.cost }) (numbers_below l.step)
