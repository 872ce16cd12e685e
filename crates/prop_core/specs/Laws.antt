-- What derivation is good for.
use Rattle.std.specs.Prelude.{◌≡◌, ℕ, Bool, List, Option, Some, IsTrue}
use Rattle.prop_core.specs.Clauses.{Clause, clause_true}
use Rattle.prop_core.specs.Derivation.{Derives}

-- the assignment makes all held clauses true
abbrev pub MakesHeldTrue : (ℕ → Bool) → (ℕ → Option Clause) → Type 0
MakesHeldTrue value held = (number : ℕ) (clause : Clause) → held number ≡ Some clause → IsTrue (clause_true value clause)

-- A clause that derives is true under each assignment that makes the held clauses true.
abbrev pub DerivedClausesAreTrue : Type 0
DerivedClausesAreTrue = (held : ℕ → Option Clause) (clause : Clause) (hints : List ℕ) → Derives held clause hints →
    (value : ℕ → Bool) → MakesHeldTrue value held → IsTrue (clause_true value clause)
