-- totals below the lower end are refuted, and a run of the known total is known
use Rattle.std.proofs.Common.{◌+◌, ◌-◌}
use Rattle.std.specs.Prelude.{min}
use Rattle.event_costs.specs.declared.TheConstants.{MOST_COST}
use Rattle.cost_least.proofs.Rounds.{HasComeTo}
use Rattle.cost_least.proofs.searching.halve.Given as goal

abbrev pub invariant-loop-lo : goal.invariant-loop-lo
invariant-loop-lo g l = HasComeTo (goal.R-pre g) (goal.R-post g) (goal.C-post g) l.costs.cost l.question.net.now l.question.log.now l.fn.parts l.parts l.question.scale l.fn.book.entries l.book.entries l.fn.budget l.budget l.lo l.best

abbrev pub decreases-loop-lo : goal.decreases-loop-lo
decreases-loop-lo g l = min l.best.cost (1 + MOST_COST) - l.lo
