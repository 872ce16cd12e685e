-- The clauses of a counter of weights as they are written, one after another, and the variables of its places.
use Rattle.std.specs.Prelude.{◌≡◌, ℕ, zero, suc, ◌+◌, ◌*◌, ◌-◌, ◌/◌, ◌<◌, ◌≤◌, min, List, [], ◌∷◌, ◌++◌, map, length, sum_by}
use Rattle.des_base.specs.Lists.{numbers_below}
use Rattle.des_base.specs.declared.TheConstants.{VAR_LIMIT}
use Rattle.prop_core.specs.Clauses.{Clause, HasValues}
use Rattle.std.specs.List.{AllByRecursion}
use Rattle.prop_core.specs.declared.lit.Lit.{Lit}
use Rattle.weight_counter.specs.declared.scale.Scale.{Scale}
use Rattle.weight_counter.specs.declared.weighted.Weighted.{Weighted}
use Rattle.weight_counter.specs.Weighing.{weighs_on, weighs_alone, weighs_up, weight_clause, AreWeightClauses}

-- ---- variables

-- input by input, and amount by amount within each
abbrev pub place_variable : Scale → ℕ → ℕ → ℕ
place_variable scale i j = scale.first + i * scale.amounts + j

-- the input that a variable is of
abbrev pub input_of : Scale → ℕ → ℕ
input_of scale var = (var - scale.first) / scale.amounts

-- its amount
abbrev pub amount_of : Scale → ℕ → ℕ
amount_of scale var = var - scale.first - input_of scale var * scale.amounts

-- all its variables are within the limit
abbrev pub IsWithinVars : Scale → Type 0
IsWithinVars scale = scale.first + scale.inputs * scale.amounts ≤ VAR_LIMIT

-- a place of the scale
pub record IsScalePlace (scale : Scale) (i j : ℕ) : Type 0 where
  pub input : i < scale.inputs
  pub amount : j < scale.amounts

-- ---- clauses

-- the inputs up to the next one keep amount j
abbrev pub kept_clause : (ℕ → ℕ → ℕ) → ℕ → ℕ → Clause
kept_clause at i j = weight_clause at (weighs_on i j)

-- input i reaches amount j by itself
abbrev pub alone_clause : (ℕ → ℕ → ℕ) → ℕ → Lit → ℕ → Clause
alone_clause at i input j = weight_clause at (weighs_alone i j input)

-- the input behind i raises amount j by its weight
abbrev pub raised_clause : (ℕ → ℕ → ℕ) → ℕ → Weighted → ℕ → Clause
raised_clause at i x j = weight_clause at (weighs_up i j x.weight x.input)

-- what input i keeps of those before it: before the first there are none
abbrev pub kept_before : (ℕ → ℕ → ℕ) → ℕ → ℕ → List Clause
kept_before at amounts zero = []
kept_before at amounts (suc i) = map (kept_clause at i) (numbers_below amounts)

-- what input i reaches by itself
abbrev pub alone_at : (ℕ → ℕ → ℕ) → ℕ → ℕ → Weighted → List Clause
alone_at at amounts i x = map (alone_clause at i x.input) (numbers_below (min x.weight amounts))

-- what input i raises those before it to
abbrev pub raised_at : (ℕ → ℕ → ℕ) → ℕ → ℕ → Weighted → List Clause
raised_at at amounts zero x = []
raised_at at amounts (suc i) x = map (raised_clause at i x) (numbers_below (amounts - x.weight))

-- the clauses of input i
abbrev pub weight_clauses : (ℕ → ℕ → ℕ) → ℕ → ℕ → Weighted → List Clause
weight_clauses at amounts i x = kept_before at amounts i ++ (alone_at at amounts i x ++ raised_at at amounts i x)

-- the clauses of inputs of which the first is input i
abbrev pub clauses_from : (ℕ → ℕ → ℕ) → ℕ → ℕ → List Weighted → List Clause
clauses_from at amounts i [] = []
clauses_from at amounts i (x ∷ inputs) = weight_clauses at amounts i x ++ clauses_from at amounts (suc i) inputs

-- the clauses of all inputs
abbrev pub scale_clauses : (ℕ → ℕ → ℕ) → ℕ → List Weighted → List Clause
scale_clauses at amounts inputs = clauses_from at amounts 0 inputs

-- The scale has its variables from the first on, one for each input and amount, and its clauses come behind those that were written.
pub record AddsScale (inputs : List Weighted) (amounts first : ℕ) (written : List Clause) (scale : Scale) (next : ℕ) (all : List Clause) : Type 0 where
  pub scale_is : scale ≡ record { first = first; inputs = length inputs; amounts = amounts }
  pub vars : next ≡ first + length inputs * amounts
  pub clauses : all ≡ written ++ scale_clauses (place_variable scale) amounts inputs
  pub within : IsWithinVars scale

-- ---- what they are

-- A scale's clauses are those of its inputs, and a variable determines its place.
pub record IsExactScale (scale : Scale) (inputs : List Weighted) : Type 0 where
  pub clauses : AreWeightClauses (place_variable scale) inputs scale.amounts (scale_clauses (place_variable scale) scale.amounts inputs)
  pub input_back : (i j : ℕ) → IsScalePlace scale i j → input_of scale (place_variable scale i j) ≡ i
  pub amount_back : (i j : ℕ) → IsScalePlace scale i j → amount_of scale (place_variable scale i j) ≡ j
  pub own : (i j : ℕ) → IsScalePlace scale i j → (scale.first ≤ place_variable scale i j) × (place_variable scale i j < scale.first + scale.inputs * scale.amounts)

-- This holds for all scales and inputs.
abbrev pub ScalesAreExact : Type 0
ScalesAreExact = (scale : Scale) (inputs : List Weighted) → IsExactScale scale inputs

-- ---- how large they are

-- A scale's clauses are at most two for each place, with five literals together, over its variables and those of its inputs, which are below.
pub record IsSmall (scale : Scale) (inputs : List Weighted) : Type 0 where
  pub few : length (scale_clauses (place_variable scale) scale.amounts inputs) ≤ 2 * (length inputs * scale.amounts)
  pub short : sum_by length (scale_clauses (place_variable scale) scale.amounts inputs) ≤ 5 * (length inputs * scale.amounts)
  pub known : AllByRecursion (HasValues (scale.first + scale.inputs * scale.amounts)) (scale_clauses (place_variable scale) scale.amounts inputs)

-- This holds if the inputs are those that the scale counts, on variables before its own.
abbrev pub ScalesAreSmall : Type 0
ScalesAreSmall = (scale : Scale) (inputs : List Weighted) → scale.inputs ≡ length inputs → AllByRecursion (λ x. x.input.var < scale.first) inputs → IsSmall scale inputs
