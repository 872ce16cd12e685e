-- What a learner keeps from one analysis to the next.
use Rattle.std.specs.Prelude.{ℕ}

-- How many literals there is room for, and up to which level learnt clauses keep decisions alone.
pub record LearnerState : Type 0 where
  pub room : ℕ
  pub decisions_to : ℕ
