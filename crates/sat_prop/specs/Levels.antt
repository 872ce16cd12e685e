-- Decision levels: each decision begins one.
use Rattle.std.specs.Prelude.{◌≡◌, ℕ, ◌+◌, ◌<◌, ◌≤◌, true, false, List, length, Option, None, count_by, is_none, take, ◌⊎◌}
use Rattle.prop_core.specs.declared.lit.Lit.{Lit}
use Rattle.prop_core.specs.Clauses.{Clause}
use Rattle.prop_core.specs.Trail.{has_var}
use Rattle.sat_prop.specs.TrailState.{literal_at, reason_at}

-- how many decisions stand
abbrev pub level_of : List (Option ℕ) → ℕ
level_of reasons = count_by is_none reasons

-- the level of the literal at a place: how many decisions stand up to it
abbrev pub level_at : List (Option ℕ) → ℕ → ℕ
level_at reasons place = level_of (take (place + 1) reasons)

-- the first `count` places are those up to a level: the next, if there is one, is a decision
pub record IsUpToLevel (reasons : List (Option ℕ)) (level count : ℕ) : Type 0 where
  pub within : count ≤ length reasons
  pub decided : level_of (take count reasons) ≡ level
  pub next : count < length reasons → reason_at reasons count ≡ None

-- the last decision stands there
pub record IsLastDecision (reasons : List (Option ℕ)) (place : ℕ) : Type 0 where
  pub within : place < length reasons
  pub decided : reason_at reasons place ≡ None
  pub last : (later : ℕ) → place < later → later < length reasons → is_none (reason_at reasons later) ≡ false

-- the greatest level of the variables of a clause, or 0
pub record IsGreatestLevel (literals : List Lit) (reasons : List (Option ℕ)) (clause : Clause) (level : ℕ) : Type 0 where
  pub bound : (place : ℕ) → place < length literals → has_var (literal_at literals place).var clause ≡ true → level_at reasons place ≤ level
  pub reached : (level ≡ 0) ⊎ ((place : ℕ) × (place < length literals) × (has_var (literal_at literals place).var clause ≡ true) × (level_at reasons place ≡ level))
