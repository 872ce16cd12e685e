-- The clauses of a counter, by name (after Sinz, "Towards an optimal CNF encoding of Boolean cardinality constraints", CP 2005). The meaning `reaches i j` says that of
-- the first i inputs at least j are true, for i and j from 1. At least 0 are always true, and of no inputs one never is: these have no meaning.
use Rattle.std.specs.Prelude.{◌≡◌, ◌⊎◌, ℕ, zero, suc, ◌<◌, ◌≤◌, not, List, [], ◌∷◌, ◌++◌, length, Some, slice_get}
use Rattle.prop_core.specs.VariableNames.{NamedLiteral, yes, no, reaches}

-- which clause of the counter it is
pub data CountClause : Type 0 where
  -- where the first i inputs reach j, the first i + 1 reach it
  counts_on : (i j : ℕ) → CountClause
  -- where the first i inputs reach j and the next one, x, is true, the first i + 1 reach j + 1
  counts_up : (i j : ℕ) → (x : NamedLiteral) → CountClause

-- the negation of a literal by name
abbrev pub opposite : NamedLiteral → NamedLiteral
opposite x = record { meaning = x.meaning; positive = not x.positive }

-- the premise that the first i inputs reach j
abbrev pub unless_reached : ℕ → ℕ → List NamedLiteral
unless_reached i zero = []
unless_reached i (suc j) = no (reaches i (suc j)) ∷ []

-- the literals of a clause, its negated premises first
abbrev pub count_clause : CountClause → List NamedLiteral
count_clause (counts_on i j) = no (reaches i j) ∷ yes (reaches (suc i) j) ∷ []
count_clause (counts_up i j x) = unless_reached i j ++ opposite x ∷ yes (reaches (suc i) (suc j)) ∷ []

-- for which numbers it is written, over these inputs: where its premise is not always false
abbrev pub IsCountClause : List NamedLiteral → CountClause → Type 0
IsCountClause inputs (counts_on i j) = (1 ≤ i) × (i < length inputs) × (1 ≤ j)
IsCountClause inputs (counts_up i j x) = (slice_get inputs i ≡ Some x) × ((j ≡ 0) ⊎ (1 ≤ i))

-- Columns are numbered from 0: column j is for what reaches j + 1.
abbrev pub IsOfColumn : ℕ → CountClause → Type 0
IsOfColumn column (counts_on i j) = j ≡ suc column
IsOfColumn column (counts_up i j x) = j ≡ column

-- it is of one of the first `columns` columns
abbrev pub IsOfColumns : ℕ → CountClause → Type 0
IsOfColumns columns (counts_on i j) = j ≤ columns
IsOfColumns columns (counts_up i j x) = j < columns

-- the clauses of one column
abbrev pub IsNamedColumn : List NamedLiteral → ℕ → List NamedLiteral → Type 0
IsNamedColumn inputs column named = (which : CountClause) × IsCountClause inputs which × IsOfColumn column which × (count_clause which ≡ named)

-- the clauses of the first `columns` columns
abbrev pub IsNamedCount : List NamedLiteral → ℕ → List NamedLiteral → Type 0
IsNamedCount inputs columns named = (which : CountClause) × IsCountClause inputs which × IsOfColumns columns which × (count_clause which ≡ named)
