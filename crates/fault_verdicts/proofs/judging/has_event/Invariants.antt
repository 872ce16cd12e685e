-- the events so far are others
use Rattle.std.proofs.Common.{◌≡◌, false, take}
use Rattle.fault_verdicts.proofs.Steps.{any_has}
use Rattle.fault_verdicts.proofs.judging.has_event.Given as goal

abbrev pub invariant-loop-step : goal.invariant-loop-step
invariant-loop-step l = any_has l.event (take l.step-index l.steps) ≡ false
