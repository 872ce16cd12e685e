use Rattle.std.proofs.Common.{◌≡◌, ◌++◌, map, take}
use Rattle.cost_least.specs.Weighed.{weighs_one}
use Rattle.cost_least.proofs.weighing.push_false.Given as goal

abbrev pub invariant-loop-lit : goal.invariant-loop-lit
invariant-loop-lit l = l.into.items ≡ l.fn.into.items ++ map weighs_one (take l.lit-index l.false_lits)
