-- A counter of weighted inputs: its clauses, and what they say (after the sequential counter of Sinz, CP 2005, with weights).
use Rattle.std.specs.Prelude.{◌≡◌, ◌↔◌, ℕ, suc, ◌+◌, ◌<◌, ◌≤◌, Bool, true, List, [], ◌∷◌, length, sum_by, take, Some, slice_get, Contains, if◌then◌else◌}
use Rattle.std.specs.List.{AllByRecursion}
use Rattle.card_counter.specs.CounterState.{positive, negative}
use Rattle.prop_core.specs.Clauses.{Clause, negation, literal_true, AllClausesTrue}
use Rattle.prop_core.specs.declared.lit.Lit.{Lit}
use Rattle.weight_counter.specs.declared.weighted.Weighted.{Weighted}

-- what an input weighs: its weight where it is true, and else nothing
abbrev pub weight_of : (ℕ → Bool) → Weighted → ℕ
weight_of value x = if literal_true value x.input then x.weight else 0

-- what the inputs that are true weigh together
abbrev pub weight_true : (ℕ → Bool) → List Weighted → ℕ
weight_true value inputs = sum_by (weight_of value) inputs

-- ---- the clauses

-- Which clause of a counter it is. A place (i, j), both from 0, is for that the first i + 1 inputs weigh at least j + 1.
pub data WeightClause : Type 0 where
  -- what the first inputs weigh, those with one more weigh too
  weighs_on : (i j : ℕ) → WeightClause
  -- a true input weighs as much as its weight, whatever was before it
  weighs_alone : (i j : ℕ) → Lit → WeightClause
  -- and with those before it more
  weighs_up : (i j weight : ℕ) → Lit → WeightClause

-- its literals, where the variable of place (i, j) is `at i j`
abbrev pub weight_clause : (ℕ → ℕ → ℕ) → WeightClause → Clause
weight_clause at (weighs_on i j) = negative (at i j) ∷ positive (at (suc i) j) ∷ []
weight_clause at (weighs_alone i j x) = negation x ∷ positive (at i j) ∷ []
weight_clause at (weighs_up i j weight x) = negative (at i j) ∷ negation x ∷ positive (at (suc i) (j + weight)) ∷ []

-- for which numbers it is written, over these inputs, where `amounts` amounts are distinguished
abbrev pub IsWeightClause : List Weighted → ℕ → WeightClause → Type 0
IsWeightClause inputs amounts (weighs_on i j) = (suc i < length inputs) × (j < amounts)
IsWeightClause inputs amounts (weighs_alone i j x) = (weight : ℕ) × (slice_get inputs i ≡ Some (record { input = x; weight = weight })) × (j < weight) × (j < amounts)
IsWeightClause inputs amounts (weighs_up i j weight x) = (slice_get inputs (suc i) ≡ Some (record { input = x; weight = weight })) × (j + weight < amounts)

-- the clauses are those, all of them and no others
pub record AreWeightClauses (at : ℕ → ℕ → ℕ) (inputs : List Weighted) (amounts : ℕ) (clauses : List Clause) : Type 0 where
  pub all : (which : WeightClause) → IsWeightClause inputs amounts which → Contains clauses (weight_clause at which)
  pub only : AllByRecursion (λ clause. (which : WeightClause) × IsWeightClause inputs amounts which × (weight_clause at which ≡ clause)) clauses

-- ---- what they say

-- If the clauses are true, so are the variables of all places that the inputs reach;
abbrev pub WeightsAreReached : Type 0
WeightsAreReached = (at : ℕ → ℕ → ℕ) (inputs : List Weighted) (amounts : ℕ) (clauses : List Clause) (value : ℕ → Bool) → AreWeightClauses at inputs amounts clauses → AllClausesTrue value clauses →
    (i j : ℕ) → i < length inputs → j < amounts → suc j ≤ weight_true value (take (suc i) inputs) → value (at i j) ≡ true

-- the variables are true exactly if the inputs reach their places
abbrev pub TellsWeights : (ℕ → ℕ → ℕ) → List Weighted → ℕ → (ℕ → Bool) → Type 0
TellsWeights at inputs amounts value = (i j : ℕ) → i < length inputs → j < amounts → value (at i j) ≡ true ↔ suc j ≤ weight_true value (take (suc i) inputs)

-- and where they say exactly that, the clauses are true.
abbrev pub WeightsAreTrue : Type 0
WeightsAreTrue = (at : ℕ → ℕ → ℕ) (inputs : List Weighted) (amounts : ℕ) (clauses : List Clause) (value : ℕ → Bool) → AreWeightClauses at inputs amounts clauses → TellsWeights at inputs amounts value → AllClausesTrue value clauses
