use Rattle.refinement.proofs.TouchLemmas.{AreSoFar}
use Rattle.refinement.proofs.touches.touches_of.Given as goal

abbrev pub invariant-loop-event : goal.invariant-loop-event
invariant-loop-event l = AreSoFar l.net l.event l.touches.items
