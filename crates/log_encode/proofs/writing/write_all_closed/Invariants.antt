use Rattle.std.proofs.Common.{◌≡◌, ◌++◌, take}
use Rattle.log_encode.specs.Written.{all_closed_written}
use Rattle.log_encode.proofs.writing.write_all_closed.Given as goal

abbrev pub invariant-loop-end : goal.invariant-loop-end
invariant-loop-end l = l.out.clauses ≡ l.fn.out.clauses ++ all_closed_written l.fn.grid (take l.end-index l.ends)
