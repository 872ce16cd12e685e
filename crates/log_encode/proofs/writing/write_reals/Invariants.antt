use Rattle.std.proofs.Common.{◌≡◌, ◌++◌}
use Rattle.log_encode.specs.Written.{reals_written}
use Rattle.log_encode.proofs.writing.write_reals.Given as goal

abbrev pub invariant-loop-link : goal.invariant-loop-link
invariant-loop-link l = l.out.clauses ≡ l.fn.out.clauses ++ reals_written l.fn.vars l.link
