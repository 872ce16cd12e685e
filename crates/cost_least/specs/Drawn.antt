-- When clauses are drawn from the families of a question of costs: by what their variables stand for, each is a clause of the question, or one of the counter that weighs its faults.
use Rattle.std.specs.Prelude.{◌≡◌, ◌⊎◌, ℕ, zero, suc, ◌+◌, ◌<◌, List, [], ◌∷◌, ◌++◌, length, map, Option, Some, None, slice_get, Contains}
use Rattle.des_net.specs.Network.{Net}
use Rattle.question_clauses.specs.LogClauses.{guard_literals}
use Rattle.log_order.specs.Log.{Log}
use Rattle.prop_core.specs.FurtherNames.{LiteralOf, holds, fails, lifted, IsLifted, AreOnce, ReadsBy}
use Rattle.prop_core.specs.VariableNames.{Meaning}
use Rattle.prop_core.specs.declared.lit.Lit.{Lit}
use Rattle.run_decode.specs.Drawn.{IsNamedClause}

-- A meaning of a question, or of a place of the counter of weights. Place (i, j), both from 0, is for that the first i + 1 inputs weigh more than j.
pub data CostMeaning : Type 0 where
  of_question : Meaning → CostMeaning
  weighs : (i j : ℕ) → CostMeaning

-- ---- the counter

-- Which clause of a counter it is, over inputs that have meanings.
pub data NamedWeighing : Type 0 where
  -- what the first inputs weigh, those with one more do
  keeps_weight : (i j : ℕ) → NamedWeighing
  -- a true input weighs as much as its weight, whatever was before it
  has_weight : (i j : ℕ) → Meaning → NamedWeighing
  -- and with those before it more
  adds_weight : (i j weight : ℕ) → Meaning → NamedWeighing

-- its literals
abbrev pub weighing_clause : NamedWeighing → List (LiteralOf CostMeaning)
weighing_clause (keeps_weight i j) = fails (weighs i j) ∷ holds (weighs (suc i) j) ∷ []
weighing_clause (has_weight i j input) = fails (of_question input) ∷ holds (weighs i j) ∷ []
weighing_clause (adds_weight i j weight input) = fails (weighs i j) ∷ fails (of_question input) ∷ holds (weighs (suc i) (j + weight)) ∷ []

-- for which numbers it is written, over these inputs with their weights, where `amounts` amounts are distinguished
abbrev pub IsNamedWeighing : List (Meaning × ℕ) → ℕ → NamedWeighing → Type 0
IsNamedWeighing inputs amounts (keeps_weight i j) = (suc i < length inputs) × (j < amounts)
IsNamedWeighing inputs amounts (has_weight i j input) = (weight : ℕ) × (slice_get inputs i ≡ Some (input, weight)) × (j < weight) × (j < amounts)
IsNamedWeighing inputs amounts (adds_weight i j weight input) = (slice_get inputs (suc i) ≡ Some (input, weight)) × (j + weight < amounts)

-- ---- with a question

-- a clause of a question, or one of a counter that weighs these inputs up to `amounts` amounts
abbrev pub IsCostClause : Net → Log → ℕ → List (Meaning × ℕ) → ℕ → List (LiteralOf CostMeaning) → Type 0
IsCostClause net log n inputs amounts clause = IsLifted of_question (IsNamedClause net log n) clause ⊎ ((which : NamedWeighing) × IsNamedWeighing inputs amounts which × (weighing_clause which ≡ clause))

-- that this many inputs weigh at most b; of no inputs there is nothing to say
abbrev pub weighs_at_most : ℕ → ℕ → List (LiteralOf CostMeaning)
weighs_at_most zero b = []
weighs_at_most (suc i) b = fails (weighs i b) ∷ []

-- the same where a bound is given
abbrev pub limit_literals : ℕ → Option ℕ → List (LiteralOf CostMeaning)
limit_literals inputs None = []
limit_literals inputs (Some b) = weighs_at_most inputs b

-- what a question of costs assumes: the guards of its log, and that its inputs, as many as that, weigh no more than the bound
abbrev pub cost_literals : Net → Log → ℕ → Option ℕ → List (LiteralOf CostMeaning)
cost_literals net log inputs bound = map (lifted of_question) (guard_literals net log) ++ limit_literals inputs bound

-- By such meanings no clause is the literal of a place alone, as one that states a bound on the total would be.
abbrev pub BoundsAreNotStated : Type 0
BoundsAreNotStated = (net : Net) (log : Log) (n : ℕ) (inputs : List (Meaning × ℕ)) (amounts : ℕ) (meanings : List (ℕ × CostMeaning)) (l : Lit) (named : List (LiteralOf CostMeaning)) (i j : ℕ) →
    AreOnce meanings → IsCostClause net log n inputs amounts named → ReadsBy meanings (l ∷ []) named → Contains meanings (l.var, weighs i j) → ⊥
