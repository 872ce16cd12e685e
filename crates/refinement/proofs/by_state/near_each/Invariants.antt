use Rattle.std.proofs.Common.{length}
use Rattle.des_net.specs.Network.{component_at}
use Rattle.refinement.proofs.NearLemmas.{AreNearSoFar}
use Rattle.refinement.proofs.by_state.near_each.Given as goal

abbrev pub invariant-loop-trans : goal.invariant-loop-trans
invariant-loop-trans l = AreNearSoFar (length (component_at l.net l.fn.comp).state_names) (component_at l.net l.fn.comp).transitions l.trans-index l.near.items
