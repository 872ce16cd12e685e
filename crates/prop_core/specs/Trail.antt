-- Trails, as clause learning speaks of them: literals that became true one after another, by decision or by propagation.
use Rattle.std.specs.Prelude.{◌≡◌, ℕ, Bool, true, false, ◌||◌, ◌&&◌, ◌==◌, nat_eq, List, [], ◌∷◌, ◌++◌, map, Option, Some, None, Contains}
use Rattle.std.specs.List.{list_any, list_all, IsDistinct}
use Rattle.prop_core.specs.declared.lit.Lit.{Lit}
use Rattle.prop_core.specs.Clauses.{Clause, same_literal, is_true, is_false}
use Rattle.prop_core.specs.Derivation.{Standing, falsified, satisfied, unit, wide, standing}

-- what stands where there is no literal
abbrev pub no_literal : Lit
no_literal = record { var = 0; positive = false }

-- the clause has a literal of the variable
abbrev pub has_var : ℕ → Clause → Bool
has_var var clause = list_any (λ l. l.var == var) clause

-- no variable stands twice
abbrev pub HasVarsOnce : List Lit → Type 0
HasVarsOnce literals = IsDistinct nat_eq (map (λ (l : Lit). l.var) literals)

-- Unit propagation finds nothing in a clause that is neither false nor has one open literal and all others false.
abbrev pub is_quiet : Standing → Bool
is_quiet falsified = false
is_quiet satisfied = true
is_quiet (unit l) = false
is_quiet wide = true

-- no clause is false under the literals that are taken as true, and none has one open literal and all others false
abbrev pub all_quiet : List Lit → List Clause → Bool
all_quiet taken clauses = list_all (λ clause. is_quiet (standing taken clause)) clauses

-- The literal stands in the clause, and all others of the clause are false by the literals that are taken as true.
abbrev pub is_forced_by : List Lit → Lit → Clause → Bool
is_forced_by taken l clause = list_any (same_literal l) clause && list_all (λ k. same_literal l k || is_false taken k) clause

-- a literal with its reason: the clause that forced it, or none if it was decided
pub record PlacedLiteral : Type 0 where
  pub literal : Lit
  pub reason : Option Clause

-- the literals of a trail, in their order and without their reasons
abbrev pub literals_of : List PlacedLiteral → List Lit
literals_of places = map (λ (p : PlacedLiteral). p.literal) places

-- Just before a decision all clauses are quiet; any other literal has a clause that forces it.
abbrev pub HasReason : List Clause → List Lit → Lit → Option Clause → Type 0
HasReason clauses before l None = all_quiet before clauses ≡ true
HasReason clauses before l (Some clause) = Contains clauses clause × (is_forced_by before l clause ≡ true)

-- each place, after those before it
abbrev pub EachPlaced : List Clause → List Lit → List PlacedLiteral → Type 0
EachPlaced clauses before [] = Unit {0}
EachPlaced clauses before (p ∷ places) = HasReason clauses before p.literal p.reason × EachPlaced clauses (before ++ p.literal ∷ []) places

-- a trail over clauses
pub record IsTrail (clauses : List Clause) (trail : List PlacedLiteral) : Type 0 where
  pub once : HasVarsOnce (literals_of trail)
  pub each : EachPlaced clauses [] trail

-- A further conflict: a trail over the clauses that makes all assumptions true, has a decision that is no assumption, and
-- makes a clause false.
pub record Clashes (clauses : List Clause) (assumed : List Lit) : Type 0 where
  pub trail : List PlacedLiteral
  pub is_trail : IsTrail clauses trail
  pub assumes : list_all (is_true (literals_of trail)) assumed ≡ true
  pub decision : Lit
  pub decided : Contains trail (record { literal = decision; reason = None })
  pub further : is_true assumed decision ≡ false
  pub conflict : Clause
  pub among : Contains clauses conflict
  pub false_now : list_all (is_false (literals_of trail)) conflict ≡ true
