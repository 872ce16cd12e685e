use Rattle.refinement.proofs.NearLemmas.{AreCountsSoFar}
use Rattle.refinement.proofs.by_state.counts_of.Given as goal

abbrev pub invariant-loop-trans : goal.invariant-loop-trans
invariant-loop-trans l = AreCountsSoFar l.actions l.transitions l.trans-index l.counts.items
