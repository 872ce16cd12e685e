-- Meanings of whatever kind for variables, and clauses by these meanings: further meanings than those of a question, or other ones.
use Rattle.std.specs.Prelude.{◌≡◌, ◌≢◌, ℕ, Bool, true, false, List, map, Contains}
use Rattle.std.specs.List.{AllByRecursion, list_any}
use Rattle.des_base.specs.Lists.{EachPair}
use Rattle.prop_core.specs.Clauses.{Clause}
use Rattle.prop_core.specs.NamedClauses.{same_sign}
use Rattle.prop_core.specs.VariableNames.{Meaning, NamedLiteral}
use Rattle.prop_core.specs.declared.lit.Lit.{Lit}

-- a literal by a meaning of any kind
pub record LiteralOf (X : Type 0) : Type 0 where
  pub meaning : X
  pub positive : Bool

-- the positive literal of a meaning
abbrev pub holds : {X : Type 0} → X → LiteralOf X
holds meaning = record { meaning = meaning; positive = true }

-- the negated literal of a meaning
abbrev pub fails : {X : Type 0} → X → LiteralOf X
fails meaning = record { meaning = meaning; positive = false }

-- ---- meanings among further ones

-- a literal by its meaning, where meanings are among those of a further kind
abbrev pub lifted : {X : Type 0} → (Meaning → X) → NamedLiteral → LiteralOf X
lifted into l = record { meaning = into l.meaning; positive = l.positive }

-- meanings of variables, among those of a further kind
abbrev pub lifted_meanings : {X : Type 0} → (Meaning → X) → List (ℕ × Meaning) → List (ℕ × X)
lifted_meanings into meanings = map (λ entry. (entry.0, into entry.1)) meanings

-- a clause of a family, by further meanings
abbrev pub IsLifted : {X : Type 0} → (Meaning → X) → (List NamedLiteral → Type 0) → List (LiteralOf X) → Type 0
IsLifted into family clause = (named : List NamedLiteral) × family named × (clause ≡ map (lifted into) named)

-- ---- truth

-- a literal is true where its meaning has the truth of its sign
abbrev pub literal_holds : {X : Type 0} → (X → Bool) → LiteralOf X → Bool
literal_holds value l = same_sign l.positive (value l.meaning)

-- a clause is true where one of its literals is; the empty clause never is
abbrev pub clause_holds : {X : Type 0} → (X → Bool) → List (LiteralOf X) → Bool
clause_holds value clause = list_any (literal_holds value) clause

-- ---- variables

-- the literal by the variable of its meaning
abbrev pub literal_with_variable : {X : Type 0} → (X → ℕ) → LiteralOf X → Lit
literal_with_variable at l = record { var = at l.meaning; positive = l.positive }

-- clauses by the variables of the meanings, one by one and literal by literal
abbrev pub written_as : {X : Type 0} → (X → ℕ) → List (List (LiteralOf X)) → List Clause
written_as at list = map (λ named. map (literal_with_variable at) named) list

-- no variable has two meanings, and no meaning two variables
abbrev pub AreOnce : {X : Type 0} → List (ℕ × X) → Type 0
AreOnce meanings = EachPair (λ a b. (a.0 ≢ b.0) × (a.1 ≢ b.1)) meanings

-- the variable of the literal has this meaning, and the sign is the same
pub record IsCalled {X : Type 0} (meanings : List (ℕ × X)) (l : Lit) (m : LiteralOf X) : Type 0 where
  pub named : Contains meanings (l.var, m.meaning)
  pub sign : l.positive ≡ m.positive

-- by these meanings the clause is, as a set, this one
pub record ReadsBy {X : Type 0} (meanings : List (ℕ × X)) (clause : Clause) (named : List (LiteralOf X)) : Type 0 where
  pub only : AllByRecursion (λ l. (m : LiteralOf X) × Contains named m × IsCalled meanings l m) clause
  pub all : AllByRecursion (λ m. (l : Lit) × Contains clause l × IsCalled meanings l m) named

-- By these meanings each clause is of the family, and the assumptions are, as a set, those.
pub record AreDrawnBy {X : Type 0} (meanings : List (ℕ × X)) (clauses : List Clause) (assumed : List Lit) (family : List (LiteralOf X) → Type 0) (assumptions : List (LiteralOf X)) : Type 0 where
  pub once : AreOnce meanings
  pub instances : AllByRecursion (λ clause. (named : List (LiteralOf X)) × family named × ReadsBy meanings clause named) clauses
  pub assumes : ReadsBy meanings assumed assumptions
