-- How a trail grows and goes back.
use Rattle.std.specs.Prelude.{◌≡◌, ℕ, ◌-◌, List, ◌++◌, ◌∷◌, [], take, length, Option}
use Rattle.prop_core.specs.declared.lit.Lit.{Lit}
use Rattle.prop_core.specs.Clauses.{Clause}
use Rattle.sat_prop.specs.TrailState.{TrailState}
use Rattle.sat_prop.specs.Levels.{level_of, IsUpToLevel}

-- one list is the front of another
abbrev pub IsFront : List Clause → List Clause → Type 0
IsFront front whole = take (length front) whole ≡ front

-- a literal becomes true, by decision or by a clause
abbrev pub with_true_literal : TrailState → Lit → Option ℕ → TrailState
with_true_literal t l reason = record t { literals = t.literals ++ l ∷ []; reasons = t.reasons ++ reason ∷ [] }

-- a clause of the database, which has grown, is attached
abbrev pub with_attached_clause : TrailState → List Clause → ℕ → TrailState
with_attached_clause t clauses number = record t { clauses = clauses; attached = t.attached ++ number ∷ []; spare = t.spare - 1 }

-- literals with reasons are added, and no decision
pub record Propagates (old new : TrailState) : Type 0 where
  pub clauses : new.clauses ≡ old.clauses
  pub attached : new.attached ≡ old.attached
  pub vars : new.vars ≡ old.vars
  pub spare : new.spare ≡ old.spare
  pub literals : take (length old.literals) new.literals ≡ old.literals
  pub reasons : take (length old.reasons) new.reasons ≡ old.reasons
  pub level : level_of new.reasons ≡ level_of old.reasons

-- the literals up to a level are kept, in their order
pub record IsKeptUpTo (old new : TrailState) (level : ℕ) : Type 0 where
  pub kept : ℕ
  pub cut : IsUpToLevel old.reasons level kept
  pub literals : new.literals ≡ take kept old.literals
  pub reasons : new.reasons ≡ take kept old.reasons
  pub clauses : new.clauses ≡ old.clauses
  pub attached : new.attached ≡ old.attached
  pub vars : new.vars ≡ old.vars
  pub spare : new.spare ≡ old.spare
