-- The places of a trail that an analysis has seen, and what they come to.
use Rattle.std.specs.Prelude.{◌≡◌, ℕ, ◌<◌, ◌≤◌, zero, suc, Bool, true, false, List, [], ◌∷◌, drop, length, reverse, Option, Some, count_by, is_none, slice_index_or, if◌then◌else◌}
use Rattle.std.specs.List.{list_any}
use Rattle.prop_core.specs.declared.lit.Lit.{Lit}
use Rattle.prop_core.specs.Clauses.{Clause, negation, is_true, AreConsistent}
use Rattle.prop_core.specs.Derivation.{follow, derives, clause_numbered}
use Rattle.prop_core.specs.Trail.{has_var}
use Rattle.sat_prop.specs.TrailState.{TrailState, literal_at, reason_at}
use Rattle.sat_prop.specs.Changes.{IsFront}
use Rattle.sat_prop.specs.Levels.{level_at}

-- the place of the trail is seen; a place beyond the last is not
abbrev pub is_seen : List Bool → ℕ → Bool
is_seen seen place = slice_index_or seen place false

-- how many places from one on are seen
abbrev pub count_seen : ℕ → List Bool → ℕ
count_seen start seen = count_by (λ b. b) (drop start seen)

-- the literals of the places that are seen are taken as true, and some more
pub record Covers (literals also : List Lit) (seen : List Bool) (taken : List Lit) : Type 0 where
  pub each : (place : ℕ) → place < length literals → is_seen seen place ≡ true → is_true taken (literal_at literals place) ≡ true
  pub more : (l : Lit) → is_true also l ≡ true → is_true taken l ≡ true

-- from whatever covers them without contradiction the hints derive
abbrev pub Refutes : (ℕ → Option Clause) → List Lit → List Lit → List Bool → List ℕ → Type 0
Refutes held literals also seen hints = (taken : List Lit) (at : ℕ) → AreConsistent taken → Covers literals also seen taken → follow held taken at hints ≡ derives

-- a variable stands in one of the clauses
abbrev pub is_known_var : List Clause → ℕ → Bool
is_known_var clauses var = list_any (has_var var) clauses

-- The places that are seen refute by the hints, of which the last came first, and their variables stand in clauses.
pub record IsRefutedBySeen (clauses : List Clause) (literals also : List Lit) (seen : List Bool) (hints : List ℕ) : Type 0 where
  pub size : length seen ≡ length literals
  pub refutes : Refutes (clause_numbered clauses) literals also seen (reverse hints)
  pub known : (place : ℕ) → place < length literals → is_seen seen place ≡ true → is_known_var clauses (literal_at literals place).var ≡ true

-- the negations of the literals that are seen among the first places, this many of them, from the last on
abbrev pub negated_seen : List Lit → List Bool → ℕ → Clause
negated_seen literals seen zero = []
negated_seen literals seen (suc place) = if is_seen seen place then negation (literal_at literals place) ∷ negated_seen literals seen place else negated_seen literals seen place

-- the level of the last place that is seen among the first places, this many of them, or 0
abbrev pub level_seen : List (Option ℕ) → List Bool → ℕ → ℕ
level_seen reasons seen zero = 0
level_seen reasons seen (suc place) = if is_seen seen place then level_at reasons place else level_seen reasons seen place

-- an analysis goes on over a trail and clauses that have those of the trail in front, and looks at each of its places
pub record IsAnalysed (t : TrailState) (clauses : List Clause) (seen : List Bool) : Type 0 where
  pub grown : IsFront t.clauses clauses
  pub size : length seen ≡ length t.literals

-- a place that is seen, and whose literal this clause forced
pub record IsResolvable (t : TrailState) (seen : List Bool) (place number : ℕ) : Type 0 where
  pub within : place < length t.literals
  pub is_seen_now : is_seen seen place ≡ true
  pub reason : reason_at t.reasons place ≡ Some number

-- from one place down others may be seen, and that one no longer is
pub record IsResolved (place : ℕ) (old new : List Bool) : Type 0 where
  pub above : (later : ℕ) → place < later → later < length old → is_seen new later ≡ is_seen old later
  pub cleared : is_seen new place ≡ false

-- where what was seen refutes by the hints so far, so does what is seen now by all hints, whatever is taken besides
abbrev pub StillRefutes : List Clause → List Lit → List Bool → List Bool → List ℕ → List ℕ → Type 0
StillRefutes clauses literals old new hints more = (also : List Lit) → IsRefutedBySeen clauses literals also old hints → IsRefutedBySeen clauses literals also new more

-- from a place on, this one alone is seen
pub record IsOnlySeen (start : ℕ) (seen : List Bool) (place : ℕ) : Type 0 where
  pub from : start ≤ place
  pub within : place < length seen
  pub is : is_seen seen place ≡ true
  pub alone : (other : ℕ) → start ≤ other → (other ≡ place → ⊥) → other < length seen → is_seen seen other ≡ false

-- from a place on, what is seen was decided
abbrev pub IsDecidedFrom : List (Option ℕ) → List Bool → ℕ → Type 0
IsDecidedFrom reasons seen start = (place : ℕ) → start ≤ place → place < length seen → is_seen seen place ≡ true → is_none (reason_at reasons place) ≡ true

-- from a place on, what is seen before the last ones, at a level up to this one, was decided
abbrev pub IsDecidedTo : List (Option ℕ) → ℕ → List Bool → ℕ → ℕ → Type 0
IsDecidedTo reasons level seen start end = (place : ℕ) → start ≤ place → place < end → is_seen seen place ≡ true → level_at reasons place ≤ level → is_none (reason_at reasons place) ≡ true
