-- What is kept beside the literals, so that value, level and reason of a variable are found at once.
use Rattle.std.specs.Prelude.{◌≡◌, ℕ, ◌<◌, ◌≤◌, Bool, true, List, length, Option, Some, None, slice_index, slice_index_or}
use Rattle.prop_core.specs.declared.lit.Lit.{Lit}
use Rattle.prop_core.specs.Clauses.{Clause, is_false, is_open}
use Rattle.prop_core.specs.Derivation.{falsified, unit, standing}
use Rattle.prop_core.specs.Trail.{is_quiet, is_forced_by}
use Rattle.std.specs.List.{list_all}
use Rattle.sat_prop.specs.declared.standing.Stands.{Stands}
use Rattle.sat_prop.specs.declared.standing.Stands.TheVariants.{False, Unit as Forced, Quiet}
use Rattle.sat_prop.specs.TrailState.{TrailState, literal_at, trail_value, IsJustified, AreKnownClauses}
use Rattle.sat_prop.specs.Levels.{level_of, level_at, IsUpToLevel}
use Rattle.sat_prop.specs.Quiet.{IsQuietAtDecisions}

-- The place of each literal's variable. What is kept of a variable that has no literal doesn't matter.
pub record ArePlaces (vars : ℕ) (literals : List Lit) (places : List ℕ) : Type 0 where
  pub enough : length places ≡ vars
  pub each : (place : ℕ) → place < length literals → slice_index places (literal_at literals place).var ≡ place

-- The value of each variable, and of some that there may be later, so that it is read at once.
pub record AreValues (vars : ℕ) (literals : List Lit) (values : List (Option Bool)) : Type 0 where
  pub enough : vars ≤ length values
  pub each : (var : ℕ) → var < length values → slice_index_or values var None ≡ trail_value literals var

-- the level of each literal
pub record AreLevels (reasons : List (Option ℕ)) (levels : List ℕ) : Type 0 where
  pub same : length levels ≡ length reasons
  pub each : (place : ℕ) → place < length reasons → slice_index levels place ≡ level_at reasons place

-- the place of each decision
pub record AreStarts (reasons : List (Option ℕ)) (starts : List ℕ) : Type 0 where
  pub count : length starts ≡ level_of reasons
  pub each : (level : ℕ) → level < length starts → IsUpToLevel reasons level (slice_index starts level)
  pub within : (level : ℕ) → level < length starts → slice_index starts level < length reasons

-- what holds of every trail
pub record IsTrailState (t : TrailState) : Type 0 where
  pub justified : IsJustified t.clauses t.attached t.literals t.reasons t.vars
  pub known : AreKnownClauses t.clauses t.attached t.vars
  pub quiet : IsQuietAtDecisions t

-- how a clause stands, as far as it matters
abbrev pub IsSeen : List Lit → Clause → Stands → Type 0
IsSeen taken clause False = standing taken clause ≡ falsified
IsSeen taken clause (Forced l) = standing taken clause ≡ unit l
IsSeen taken clause Quiet = is_quiet (standing taken clause) ≡ true

-- What is known of the front of a clause in which no literal is true: all are false, or all but one open literal.
abbrev pub IsSeenUpTo : List Lit → Clause → Option Lit → Type 0
IsSeenUpTo taken front None = list_all (is_false taken) front ≡ true
IsSeenUpTo taken front (Some l) = (is_open taken l ≡ true) × (is_forced_by taken l front ≡ true)
