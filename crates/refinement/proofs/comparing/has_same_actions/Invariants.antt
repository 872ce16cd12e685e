use Rattle.des_net.specs.Network.{component_at}
use Rattle.refinement.specs.Comparing.{AgreeBelow}
use Rattle.refinement.proofs.comparing.has_same_actions.Given as goal

abbrev pub invariant-loop-action : goal.invariant-loop-action
invariant-loop-action l = AgreeBelow l.action (component_at l.fine l.comp).action_names (component_at l.net l.comp).action_names
