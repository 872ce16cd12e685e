use Rattle.std.proofs.Common.{◌≡◌, ◌<◌, ℕ}
use Rattle.des_net.specs.Network.{component_at}
use Rattle.refinement.specs.Comparing.{AgreeBelow}
use Rattle.refinement.proofs.comparing.has_components.Given as goal

abbrev pub invariant-loop-comp : goal.invariant-loop-comp
invariant-loop-comp l = record {
  names : AgreeBelow l.comp l.fine.component_names l.net.component_names;
  same : (c : ℕ) → c < l.comp → component_at l.fine c ≡ component_at l.net c;
}
