use Rattle.des_net.specs.Network.{component_at}
use Rattle.refinement.specs.Comparing.{AgreeBelow}
use Rattle.refinement.proofs.comparing.has_same_states.Given as goal

abbrev pub invariant-loop-state : goal.invariant-loop-state
invariant-loop-state l = record {
  names : AgreeBelow l.state (component_at l.fine l.comp).state_names (component_at l.net l.comp).state_names;
  marks : AgreeBelow l.state (component_at l.fine l.comp).initial (component_at l.net l.comp).initial;
}
