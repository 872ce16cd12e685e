-- What the clauses of a counter say: how many of its inputs are true.
use Rattle.std.specs.Prelude.{◌++◌, ◌≡◌, ◌≢◌, ◌↔◌, ◌⊎◌, ℕ, suc, ◌<◌, ◌≤◌, nat_le, Bool, true, false, List, length, take, count_by, Some, Contains, IsTrue}
use Rattle.std.specs.List.{AllByRecursion}
use Rattle.prop_core.specs.declared.lit.Lit.{Lit}
use Rattle.prop_core.specs.Clauses.{literal_true, AllClausesTrue}
use Rattle.prop_core.specs.NamedClauses.{named_true, AllHold, IsCode}
use Rattle.prop_core.specs.VariableNames.{Meaning, in_state, happens, asked, matches, done, unmatched, closed, dropped, reaches, some_of_first, NamedLiteral, HasEachOnce, meaning_of, named_clause}
use Rattle.card_counter.specs.CounterClauses.{IsNamedColumn, IsNamedCount}
use Rattle.card_counter.specs.CounterState.{next_meanings, CounterState, IsPlace, IsCounter, variable, counter_clauses, bound_literal, with_column, next_clauses, counter_meanings}

-- how many of the inputs are true
abbrev pub true_count : (ℕ → Bool) → List Lit → ℕ
true_count value inputs = count_by (literal_true value) inputs

-- ---- over assignments

-- the same truth for each variable that is none of the counter's own
abbrev pub AgreeOutside : CounterState → (ℕ → Bool) → (ℕ → Bool) → Type 0
AgreeOutside state given assignment = (var : ℕ) → ((i j : ℕ) → IsPlace state i j → var ≢ variable state i j) → assignment var ≡ given var

-- a change of the counter's own variables alone makes it hold
abbrev pub ExtendsOverCounter : CounterState → (ℕ → Bool) → ((ℕ → Bool) → Type 0) → Type 0
ExtendsOverCounter state given holds = (assignment : ℕ → Bool) × AgreeOutside state given assignment × holds assignment

-- With this literal as an assumption the clauses can be made true exactly if at most k inputs are true.
abbrev pub Bounds : CounterState → Lit → ℕ → Type 0
Bounds state bound k = (given : ℕ → Bool) →
    ExtendsOverCounter state given (λ assignment. AllClausesTrue assignment (counter_clauses state) × IsTrue (literal_true assignment bound)) ↔ true_count given state.inputs ≤ k

-- The clauses alone can be made true whatever the inputs are, and each column has its bound.
pub record Counts (state : CounterState) : Type 0 where
  pub free : (given : ℕ → Bool) → ExtendsOverCounter state given (λ assignment. AllClausesTrue assignment (counter_clauses state))
  pub bounded : (k : ℕ) → k < length state.columns → Bounds state (bound_literal state k) k

-- This holds for each counter, whatever its inputs.
abbrev pub CounterIsExact : Type 0
CounterIsExact = (state : CounterState) → IsCounter state → Counts state

-- ---- by name

-- the meaning stands for a variable of a counter
abbrev pub is_count : Meaning → Bool
is_count (in_state c q t) = false
is_count (happens e t) = false
is_count asked = false
is_count (matches i e t) = false
is_count (done i t) = false
is_count (unmatched e k t) = false
is_count (closed e k) = false
is_count (dropped i) = false
is_count (reaches i j) = true
is_count (some_of_first family i) = false

-- the truth of meanings by which the first i inputs reach j exactly if at least j of them are true
abbrev pub with_counts : List NamedLiteral → (Meaning → Bool) → Meaning → Bool
with_counts inputs value (in_state c q t) = value (in_state c q t)
with_counts inputs value (happens e t) = value (happens e t)
with_counts inputs value asked = value asked
with_counts inputs value (matches i e t) = value (matches i e t)
with_counts inputs value (done i t) = value (done i t)
with_counts inputs value (unmatched e k t) = value (unmatched e k t)
with_counts inputs value (closed e k) = value (closed e k)
with_counts inputs value (dropped i) = value (dropped i)
with_counts inputs value (reaches i j) = nat_le j (count_by (named_true value) (take i inputs))
with_counts inputs value (some_of_first family i) = value (some_of_first family i)

-- Whatever the truth of the inputs, of which none is a meaning of a counter, the count makes the clauses true, with at most k where at most k inputs are true; and where the clauses are true, at most k says so.
pub record CountsByName (inputs : List NamedLiteral) (value : Meaning → Bool) : Type 0 where
  pub others : (meaning : Meaning) → is_count meaning ≡ false → with_counts inputs value meaning ≡ value meaning
  pub free : ((x : NamedLiteral) → Contains inputs x → is_count x.meaning ≡ false) → (columns : ℕ) → AllHold (IsNamedCount inputs columns) (with_counts inputs value)
  pub bound : (k : ℕ) → count_by (named_true value) inputs ≤ k → with_counts inputs value (reaches (length inputs) (suc k)) ≡ false
  pub few : (columns k : ℕ) → AllHold (IsNamedCount inputs columns) value → k < columns → value (reaches (length inputs) (suc k)) ≡ false → count_by (named_true value) inputs ≤ k

-- This holds for all inputs, by each truth of meanings.
abbrev pub NamedCountIsExact : Type 0
NamedCountIsExact = (inputs : List NamedLiteral) (value : Meaning → Bool) → CountsByName inputs value

-- ---- column by column

-- No columns have no clauses; a further column adds its own to those before.
pub record ColumnsGrow (inputs : List NamedLiteral) : Type 0 where
  pub begins : (named : List NamedLiteral) → IsNamedCount inputs 0 named → ⊥
  pub grows : (columns : ℕ) (named : List NamedLiteral) → IsNamedCount inputs (suc columns) named ↔ IsNamedCount inputs columns named ⊎ IsNamedColumn inputs columns named

-- So they grow over any inputs.
abbrev pub NamedColumnsGrow : Type 0
NamedColumnsGrow = (inputs : List NamedLiteral) → ColumnsGrow inputs

-- ---- from variables to meanings

-- By these meanings the inputs read as those, and each variable of a column is called by what it counts.
pub record IsNamedBy (meanings : List (ℕ × Meaning)) (inputs : List NamedLiteral) (state : CounterState) : Type 0 where
  pub inputs_read : named_clause meanings state.inputs ≡ Some inputs
  pub called : (i j : ℕ) → IsPlace state i j → meaning_of meanings (variable state i j) ≡ Some (reaches (suc i) (suc j))

-- The clauses of a counter are, by name, those of its columns.
abbrev pub CounterIsCode : Type 0
CounterIsCode = (meanings : List (ℕ × Meaning)) (inputs : List NamedLiteral) (state : CounterState) → IsNamedBy meanings inputs state →
    IsCode meanings (IsNamedCount inputs (length state.columns)) (counter_clauses state)

-- The clauses that a further column adds are those of this column.
abbrev pub ColumnIsCode : Type 0
ColumnIsCode = (meanings : List (ℕ × Meaning)) (inputs : List NamedLiteral) (state : CounterState) (first : ℕ) → IsNamedBy meanings inputs (with_column state first) →
    IsCode meanings (IsNamedColumn inputs (length state.columns)) (next_clauses state first)

-- The meanings of a counter have each variable and each meaning once; and by meanings that have them all its variables are called so.
pub record AreCounterMeanings (state : CounterState) : Type 0 where
  pub once : HasEachOnce (counter_meanings state)
  pub there : (i j : ℕ) → IsPlace state i j → Contains (counter_meanings state) (variable state i j, reaches (suc i) (suc j))
  pub only : (entry : ℕ × Meaning) → Contains (counter_meanings state) entry → (i : ℕ) × (j : ℕ) × IsPlace state i j × (entry ≡ (variable state i j, reaches (suc i) (suc j)))
  pub called : (meanings : List (ℕ × Meaning)) → HasEachOnce meanings → ((entry : ℕ × Meaning) → Contains (counter_meanings state) entry → Contains meanings entry) →
      (i j : ℕ) → IsPlace state i j → meaning_of meanings (variable state i j) ≡ Some (reaches (suc i) (suc j))

-- This holds for the meanings of each counter.
abbrev pub CounterMeaningsStand : Type 0
CounterMeaningsStand = (state : CounterState) → IsCounter state → AreCounterMeanings state

-- the meanings have none of this column
abbrev pub HasNoneOf : List (ℕ × Meaning) → ℕ → Type 0
HasNoneOf meanings column = AllByRecursion (λ entry. (i : ℕ) → entry.1 ≢ reaches i (suc column)) meanings

-- Names that stand for a counter, all of variables that were made before, stand, together with those of a further column, for the counter with it.
abbrev pub CounterMeaningsGrow : Type 0
CounterMeaningsGrow = (meanings : List (ℕ × Meaning)) (inputs : List NamedLiteral) (state : CounterState) (first : ℕ) → HasEachOnce meanings → AllByRecursion (λ entry. entry.0 < first) meanings →
    HasNoneOf meanings (length state.columns) → IsNamedBy meanings inputs state →
    HasEachOnce (meanings ++ next_meanings state first) × IsNamedBy (meanings ++ next_meanings state first) inputs (with_column state first)
