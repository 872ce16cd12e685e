-- What a trail holds, and when it is justified.
use Rattle.std.specs.Prelude.{◌≡◌, ℕ, ◌<◌, Bool, true, false, List, take, length, Option, Some, None, Contains, slice_index, slice_index_or, if◌then◌else◌}
use Rattle.prop_core.specs.declared.lit.Lit.{Lit}
use Rattle.prop_core.specs.Clauses.{Clause, HasValues, is_true, is_open}
use Rattle.prop_core.specs.Derivation.{clause_numbered}
use Rattle.prop_core.specs.Trail.{is_forced_by, no_literal}

-- The clauses as they were when one was attached last, the numbers of those that are attached, the literals that are true,
-- in the order in which they became so, each with the number of the clause that forced it, or none if it was decided,
-- the number of variables, and for how many more clauses there is room.
pub record TrailState : Type 0 where
  pub clauses : List Clause
  pub attached : List ℕ
  pub literals : List Lit
  pub reasons : List (Option ℕ)
  pub vars : ℕ
  pub spare : ℕ

-- the literal at a place of the trail, from 0; beyond the last it is `no_literal`, which says nothing
abbrev pub literal_at : List Lit → ℕ → Lit
literal_at literals place = slice_index_or literals place no_literal

-- the number of the clause that forced the literal at a place: none if it was decided, and beyond the last
abbrev pub reason_at : List (Option ℕ) → ℕ → Option ℕ
reason_at reasons place = slice_index_or reasons place None

-- an attached clause forces the literal, after those that are taken as true
pub record IsReason (clauses : List Clause) (attached : List ℕ) (taken : List Lit) (l : Lit) (number : ℕ) : Type 0 where
  pub joined : Contains attached number
  pub clause : Clause
  pub held : clause_numbered clauses number ≡ Some clause
  pub alone : is_forced_by taken l clause ≡ true

-- each literal was open before it, and each that was not decided was forced by an attached clause
pub record IsJustified (clauses : List Clause) (attached : List ℕ) (literals : List Lit) (reasons : List (Option ℕ)) (vars : ℕ) : Type 0 where
  pub same : length reasons ≡ length literals
  pub known : HasValues vars literals
  pub open_before : (place : ℕ) → place < length literals → is_open (take place literals) (literal_at literals place) ≡ true
  pub forced : (place number : ℕ) → place < length literals → reason_at reasons place ≡ Some number → IsReason clauses attached (take place literals) (literal_at literals place) number

-- the clause of the number is held, over the variables
pub record IsKnownClause (clauses : List Clause) (vars number : ℕ) : Type 0 where
  pub clause : Clause
  pub held : clause_numbered clauses number ≡ Some clause
  pub known : HasValues vars clause

-- each attached clause is held, and its variables are below `vars`
abbrev pub AreKnownClauses : List Clause → List ℕ → ℕ → Type 0
AreKnownClauses clauses attached vars = (place : ℕ) → place < length attached → IsKnownClause clauses vars (slice_index attached place)

-- the value that the literals give a variable: none if it is open
abbrev pub trail_value : List Lit → ℕ → Option Bool
trail_value literals var =
    if is_true literals (record { var = var; positive = true }) then Some true
    else (if is_true literals (record { var = var; positive = false }) then Some false else None)

-- the variable's literal stands there
pub record StandsAt (literals : List Lit) (var place : ℕ) : Type 0 where
  pub within : place < length literals
  pub at : (literal_at literals place).var ≡ var
