use Rattle.std.proofs.Common.{◌≡◌, ◌++◌, drop}
use Rattle.log_encode.specs.Written.{links_written}
use Rattle.log_encode.proofs.writing.write_links.Given as goal

-- what is written, and what comes, are all links
abbrev pub invariant-loop-link : goal.invariant-loop-link
invariant-loop-link l = l.out.clauses ++ links_written l.fn.grid l.fn.vars l.link (drop l.link l.takes) ≡ l.fn.out.clauses ++ links_written l.fn.grid l.fn.vars 0 l.takes
