use Rattle.std.proofs.Common.{◌≡◌, ◌++◌}
use Rattle.log_encode.specs.Written.{closed_written_below}
use Rattle.log_encode.proofs.writing.write_closed.Given as goal

abbrev pub invariant-loop-step : goal.invariant-loop-step
invariant-loop-step l = l.out.clauses ≡ l.fn.out.clauses ++ closed_written_below l.fn.grid l.end l.step
