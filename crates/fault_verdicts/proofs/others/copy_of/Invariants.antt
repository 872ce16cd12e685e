-- the steps so far are copied
use Rattle.std.proofs.Common.{◌≡◌, take}
use Rattle.fault_verdicts.proofs.others.copy_of.Given as goal

abbrev pub invariant-loop-step : goal.invariant-loop-step
invariant-loop-step l = l.copy ≡ take l.step-index l.steps
