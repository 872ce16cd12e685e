use Rattle.std.proofs.Common.{drop}
use Rattle.refinement.specs.Touching.{TouchAlike}
use Rattle.refinement.proofs.following.touch_alike.Given as goal

abbrev pub invariant-loop-touch : goal.invariant-loop-touch
invariant-loop-touch l = TouchAlike l.old l.new (drop l.touch-index l.touches) (drop l.next l.further) → TouchAlike l.old l.new l.touches l.further
