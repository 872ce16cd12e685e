use Rattle.cost_least.specs.Weighed.{HasPushed}
use Rattle.cost_least.proofs.weighing.push_faults.Given as goal

abbrev pub invariant-loop-number : goal.invariant-loop-number
invariant-loop-number g l = HasPushed (goal.C-post g) l.costs.cost l.net l.grid l.number l.fn.into.items l.into.items
