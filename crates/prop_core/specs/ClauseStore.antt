-- Clauses in their order, with room for more.
use Rattle.std.specs.Prelude.{ℕ, List}
use Rattle.prop_core.specs.Clauses.{Clause}

-- the clauses in their order, and for how many more clauses and literals there is room
pub record ClauseStore : Type 0 where
  pub clauses : List Clause
  pub spare_clauses : ℕ
  pub spare_literals : ℕ
