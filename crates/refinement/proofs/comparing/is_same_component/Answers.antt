use Rattle.std.proofs.Common.{arith}
use Rattle.refinement.proofs.RefinementLemmas.{same_component}
use Rattle.refinement.proofs.comparing.is_same_component.Goals as goal
use Rattle.refinement.proofs.comparing.is_same_component.Goals.{then-has_same_states, else-has_same_states}

pub returns-then-has_same_actions-clause-same : goal.returns-then-has_same_actions-clause-same
returns-then-has_same_actions-clause-same c = λ e. elim c.if-has_same_states.branch [
  | then-has_same_states w ↦ same_component _ _ (grind arith) (grind arith) (grind arith) (grind arith)
  | else-has_same_states w ↦ grind arith
]
