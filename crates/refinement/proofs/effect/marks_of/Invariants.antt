use Rattle.std.proofs.Common.{take}
use Rattle.refinement.specs.Marking.{IsMarked}
use Rattle.refinement.proofs.effect.marks_of.Given as goal

abbrev pub invariant-loop-trans : goal.invariant-loop-trans
invariant-loop-trans l = IsMarked l.actions l.state (take l.trans-index l.transitions) l.effects.items
