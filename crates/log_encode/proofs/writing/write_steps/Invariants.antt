use Rattle.std.proofs.Common.{◌≡◌, ◌++◌}
use Rattle.log_encode.specs.Written.{steps_of_link}
use Rattle.log_encode.proofs.writing.write_steps.Given as goal

abbrev pub invariant-loop-step : goal.invariant-loop-step
invariant-loop-step l = l.out.clauses ≡ l.fn.out.clauses ++ steps_of_link l.fn.grid l.fn.vars l.fn.link l.taken l.step
