use Rattle.log_encode.proofs.CallLemmas.{NoneSoFar}
use Rattle.log_encode.proofs.log_code.LogCode.alarm_of.Given as goal
use Rattle.prop_core.specs.Clauses.{value_in}

abbrev pub invariant-loop-number : goal.invariant-loop-number
invariant-loop-number l = NoneSoFar l.self (value_in l.assign) l.event l.step l.number
