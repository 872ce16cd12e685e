-- Numbers of clauses in a list that grows.
use Rattle.std.specs.Prelude.{◌≡◌, ◌≤◌, ℕ, List, length, slice_index_or}
use Rattle.prop_core.specs.Clauses.{Clause}
use Rattle.prop_core.specs.Derivation.{clause_numbered}

-- each is the number of one of these clauses, or 0
abbrev pub AreNumbersOf : List Clause → List ℕ → Type 0
AreNumbersOf clauses numbers = (place : ℕ) → slice_index_or numbers place 0 ≤ length clauses

-- clauses keep their numbers, and others may be added
pub record KeepsNumbers (before after : List Clause) : Type 0 where
  pub same : (number : ℕ) → number ≤ length before → clause_numbered after number ≡ clause_numbered before number
  pub more : length before ≤ length after
