use Rattle.std.proofs.Common.{◌≡◌, ◌++◌}
use Rattle.log_encode.specs.Written.{pair_written_below}
use Rattle.log_encode.proofs.writing.write_pair.Given as goal

abbrev pub invariant-loop-step : goal.invariant-loop-step
invariant-loop-step l = l.out.clauses ≡ l.fn.out.clauses ++ pair_written_below l.fn.asked l.fn.first l.fn.second l.step
