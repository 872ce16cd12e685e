-- How many levels the literals of a clause stand at: the fewer, the more the clause is worth (Audemard and Simon, "Predicting learnt
-- clauses quality in modern SAT solvers", 2009).
use Rattle.std.specs.Prelude.{◌≡◌, ℕ, ◌<◌, Bool, true, false, List, length, count_by, slice_index_or}
use Rattle.prop_core.specs.Clauses.{Clause}
use Rattle.prop_core.specs.Trail.{has_var}
use Rattle.sat_prop.specs.TrailState.{TrailState, StandsAt}
use Rattle.sat_prop.specs.Levels.{level_at}

-- the variable has its value at this level
pub record IsLevelOf (t : TrailState) (var level : ℕ) : Type 0 where
  pub place : ℕ
  pub stands : StandsAt t.literals var place
  pub at : level_at t.reasons place ≡ level

-- a variable of the clause has its value at this level
pub record HasLevel (t : TrailState) (clause : Clause) (level : ℕ) : Type 0 where
  pub var : ℕ
  pub among : has_var var clause ≡ true
  pub level_of : IsLevelOf t var level

-- the level is marked; one that can not be marked is not
abbrev pub is_marked_level : List Bool → ℕ → Bool
is_marked_level marks level = slice_index_or marks level false

-- of the levels that can be marked exactly those of the clause are marked
pub record AreLevelsOf (t : TrailState) (clause : Clause) (marks : List Bool) : Type 0 where
  pub each : (level : ℕ) → is_marked_level marks level ≡ true → HasLevel t clause level
  pub all : (level : ℕ) → level < length marks → HasLevel t clause level → is_marked_level marks level ≡ true

-- how many are marked
abbrev pub marked_of : List Bool → ℕ
marked_of marks = count_by (λ b. b) marks
