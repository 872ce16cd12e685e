-- Clauses as lists, by the meanings of their variables, in the order in which loops write them.
use Rattle.std.specs.Prelude.{◌≡◌, ℕ, Bool, List, [], ◌∷◌, ◌++◌, map, flat_map, Some, unwrap_or, if◌then◌else◌, Contains}
use Rattle.std.specs.List.{range_with_len}
use Rattle.prop_core.specs.declared.lit.Lit.{Lit}
use Rattle.prop_core.specs.Clauses.{Clause}
use Rattle.prop_core.specs.VariableNames.{Meaning, NamedLiteral, HasEachOnce, named_clause}
use Rattle.prop_core.specs.NamedClauses.{IsCode, variable_of}

-- clauses in an order, each with its literals in theirs, by the meanings of the variables
abbrev pub Listing : Type 0
Listing = List (List NamedLiteral)

-- By these meanings the clauses are these, one by one, with each literal at its place.
abbrev pub IsListed : List (ℕ × Meaning) → Listing → List Clause → Type 0
IsListed meanings list clauses = map (named_clause meanings) clauses ≡ map (λ named. Some named) list

-- ---- as loops write them

-- this clause alone
abbrev pub One : List NamedLiteral → Listing
One clause = clause ∷ []

-- one listing, and the other behind it
abbrev pub Both : Listing → Listing → Listing
Both first second = first ++ second

-- a list for each element of a list, in their order
abbrev pub EachOf : {X : Type 0} → List X → (X → Listing) → Listing
EachOf xs F = flat_map F xs

-- a list for each number below k, from 0 on
abbrev pub Each : ℕ → (ℕ → Listing) → Listing
Each k F = EachOf (range_with_len 0 k) F

-- a list where a test passes
abbrev pub When : Bool → Listing → Listing
When test list = if test then list else []

-- the list of clauses with further ones, which are listed so
pub record Appends (meanings : List (ℕ × Meaning)) (list : Listing) (old new : List Clause) : Type 0 where
  pub more : List Clause
  pub whole : new ≡ old ++ more
  pub listed : IsListed meanings list more

-- ---- as variables

-- the literal by the variable of its meaning; where the meaning has none, by variable 0
abbrev pub literal_by : List (ℕ × Meaning) → NamedLiteral → Lit
literal_by meanings l = record { var = unwrap_or (variable_of meanings l.meaning) 0; positive = l.positive }

-- the clauses of a listing by the variables of the meanings, in the same order
abbrev pub written_by : List (ℕ × Meaning) → Listing → List Clause
written_by meanings list = map (λ named. map (literal_by meanings) named) list

-- ---- laws

-- Clauses that are listed by a naming are written by it.
abbrev pub ListedAreWritten : Type 0
ListedAreWritten = (meanings : List (ℕ × Meaning)) (list : Listing) (clauses : List Clause) → HasEachOnce meanings → IsListed meanings list clauses → clauses ≡ written_by meanings list

-- So by one naming, one listing is of one list of clauses.
abbrev pub ListedAreEqual : Type 0
ListedAreEqual = (meanings : List (ℕ × Meaning)) (list : Listing) (clauses others : List Clause) → HasEachOnce meanings → IsListed meanings list clauses → IsListed meanings list others → clauses ≡ others

-- Listed clauses are those of the family whose clauses are in the listing.
abbrev pub ListedAreCode : Type 0
ListedAreCode = (meanings : List (ℕ × Meaning)) (list : Listing) (clauses : List Clause) → IsListed meanings list clauses → IsCode meanings (Contains list) clauses
