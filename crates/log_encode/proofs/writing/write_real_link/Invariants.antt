use Rattle.std.proofs.Common.{◌≡◌, ◌++◌}
use Rattle.log_encode.specs.Written.{real_of_link}
use Rattle.log_encode.proofs.writing.write_real_link.Given as goal

abbrev pub invariant-loop-step : goal.invariant-loop-step
invariant-loop-step l = l.out.clauses ≡ l.fn.out.clauses ++ real_of_link l.fn.vars l.fn.link l.step
