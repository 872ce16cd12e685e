use Rattle.std.proofs.Common.{◌≡◌, ◌++◌, map}
use Rattle.des_base.specs.Lists.{numbers_below}
use Rattle.fault_verdicts.proofs.literals.push_event.Given as goal
use Rattle.fault_verdicts.specs.Judging.{signed_literal}

abbrev pub invariant-loop-step : goal.invariant-loop-step
invariant-loop-step l = l.into.items ≡ l.fn.into.items ++ map (signed_literal l.grid l.sign l.fn.event) (numbers_below l.step)
