use Rattle.calls_search.specs.Ready.{IsReady}
use Rattle.calls_search.proofs.solver.ask_all.Given as goal

abbrev pub invariant-loop-question : goal.invariant-loop-question
invariant-loop-question g l = IsReady (goal.R-pre g) (goal.R-post g) l.solver l.book.entries l.vars
