-- What a conflict gives.
use Rattle.std.specs.Prelude.{◌≡◌, ℕ, ◌<◌, ◌≤◌, ◌⊎◌, true, List, ◌∷◌, drop, take, length, is_none}
use Rattle.std.specs.List.{list_any, list_all}
use Rattle.prop_core.specs.declared.lit.Lit.{Lit}
use Rattle.prop_core.specs.Clauses.{Clause, negation, same_literal, is_true, is_false, is_open}
use Rattle.prop_core.specs.Derivation.{Derives, clause_numbered}
use Rattle.prop_core.specs.Trail.{has_var, HasVarsOnce}
use Rattle.sat_prop.specs.TrailState.{TrailState, literal_at, reason_at}
use Rattle.sat_prop.specs.Levels.{level_at, IsLastDecision, IsGreatestLevel}
use Rattle.sat_learn.specs.Seen.{is_known_var}

-- A learnt clause derives by its hints, has no variable twice, and has only variables of the clauses. All its literals are
-- false by the trail. Before the last decision its first literal was open, and the others were false already; the level is
-- the greatest of theirs.
pub record IsLearnt (t : TrailState) (clauses : List Clause) (clause : Clause) (hints : List ℕ) (level : ℕ) : Type 0 where
  pub derives : Derives (clause_numbered clauses) clause hints
  pub once : HasVarsOnce clause
  pub known : list_all (λ l. is_known_var clauses l.var) clause ≡ true
  pub start : ℕ
  pub last : IsLastDecision t.reasons start
  pub found : Lit
  pub rest : Clause
  pub split : clause ≡ found ∷ rest
  pub false_now : is_false t.literals found ≡ true
  pub before : is_open (take start t.literals) found ≡ true
  pub others : list_all (is_false (take start t.literals)) rest ≡ true
  pub deepest : IsGreatestLevel t.literals t.reasons rest level

-- behind its first literal a clause has none that was forced at a level up to this one
abbrev pub KeepsDecisionsTo : TrailState → ℕ → Clause → Type 0
KeepsDecisionsTo t level clause = (place : ℕ) → place < length t.literals → has_var (literal_at t.literals place).var (drop 1 clause) ≡ true → level_at t.reasons place ≤ level → is_none (reason_at t.reasons place) ≡ true

-- the literal is the negation of one that was decided
pub record IsDecidedAt (t : TrailState) (l : Lit) (place : ℕ) : Type 0 where
  pub within : place < length t.literals
  pub is : literal_at t.literals place ≡ negation l
  pub decided : is_none (reason_at t.reasons place) ≡ true

-- A closing clause derives by its hints, and holds negations of decisions alone, and of some further literals.
pub record IsClosing (t : TrailState) (clauses : List Clause) (also : List Lit) (clause : Clause) (hints : List ℕ) : Type 0 where
  pub derives : Derives (clause_numbered clauses) clause hints
  pub once : HasVarsOnce clause
  pub known : list_all (λ l. is_known_var clauses l.var) clause ≡ true
  pub decided : (l : Lit) → list_any (same_literal l) clause ≡ true → (is_true also (negation l) ≡ true) ⊎ ((place : ℕ) × IsDecidedAt t l place)
