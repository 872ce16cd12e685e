-- A literal, as a value.
use Rattle.std.specs.Prelude.{ℕ, Bool}

-- a variable and its sign: the variable itself where it is positive, and else its negation
pub record Literal : Type 0 where
  pub var : ℕ
  pub positive : Bool
