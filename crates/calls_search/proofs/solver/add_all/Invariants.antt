use Rattle.calls_search.specs.Ready.{IsReady}
use Rattle.calls_search.proofs.solver.add_all.Given as goal

abbrev pub invariant-loop-before : goal.invariant-loop-before
invariant-loop-before g l = IsReady (goal.R-pre g) (goal.R-post g) l.solver l.book.entries l.vars
