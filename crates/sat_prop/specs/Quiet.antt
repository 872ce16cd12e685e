-- Where propagation has nothing left to do.
use Rattle.std.specs.Prelude.{◌≡◌, ℕ, ◌<◌, true, List, take, length, Option, Some, None, Contains, slice_index}
use Rattle.prop_core.specs.declared.lit.Lit.{Lit}
use Rattle.prop_core.specs.Clauses.{Clause}
use Rattle.prop_core.specs.Derivation.{Standing, falsified, wide, standing, clause_numbered}
use Rattle.prop_core.specs.Trail.{is_quiet}
use Rattle.sat_prop.specs.TrailState.{TrailState, reason_at}
use Rattle.sat_prop.specs.declared.propagator.Propagated.{Propagated}
use Rattle.sat_prop.specs.declared.propagator.Propagated.TheVariants.{Quiet, Conflict}

-- how the clause of a number stands; of a number that has none nothing is to be done
abbrev pub stands : List Lit → Option Clause → Standing
stands taken None = wide
stands taken (Some clause) = standing taken clause

-- of the first `count` attached clauses none is false, and none has one open literal and all others false
abbrev pub AreQuietBelow : List Clause → List ℕ → List Lit → ℕ → Type 0
AreQuietBelow clauses attached taken count = (place : ℕ) → place < count → is_quiet (stands taken (clause_numbered clauses (slice_index attached place))) ≡ true

-- no attached clause is false, and none has one open literal and all others false
abbrev pub AreQuiet : List Clause → List ℕ → List Lit → Type 0
AreQuiet clauses attached taken = AreQuietBelow clauses attached taken (length attached)

-- it was so just before each decision
abbrev pub WasQuietBefore : List Clause → List ℕ → List Lit → List (Option ℕ) → Type 0
WasQuietBefore clauses attached literals reasons = (place : ℕ) → place < length literals → reason_at reasons place ≡ None → AreQuiet clauses attached (take place literals)

-- just before each decision of the trail no attached clause was false or unit
abbrev pub IsQuietAtDecisions : TrailState → Type 0
IsQuietAtDecisions t = WasQuietBefore t.clauses t.attached t.literals t.reasons

-- A clause joins quietly where it was neither false nor unit just before each decision; at level 0 every clause does.
abbrev pub JoinsQuietly : TrailState → Option Clause → Type 0
JoinsQuietly t clause = (place : ℕ) → place < length t.literals → reason_at t.reasons place ≡ None → is_quiet (stands (take place t.literals) clause) ≡ true

-- an attached clause is false
pub record IsConflict (t : TrailState) (number : ℕ) : Type 0 where
  pub joined : Contains t.attached number
  pub false_now : stands t.literals (clause_numbered t.clauses number) ≡ falsified

-- what propagation comes to
abbrev pub IsPropagated : TrailState → Propagated → Type 0
IsPropagated t Quiet = AreQuiet t.clauses t.attached t.literals
IsPropagated t (Conflict number) = IsConflict t number
