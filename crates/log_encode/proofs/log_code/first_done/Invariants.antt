use Rattle.std.proofs.Common.{◌≡◌, ◌<◌, ℕ, false}
use Rattle.log_encode.specs.AlarmVariables.{done_variable}
use Rattle.log_encode.proofs.log_code.first_done.Given as goal
use Rattle.prop_core.specs.Clauses.{value_in}

-- not done so far
abbrev pub invariant-loop-step : goal.invariant-loop-step
invariant-loop-step l = (t : ℕ) → t < l.step → value_in l.assign (done_variable l.fn.vars t) ≡ false
