-- A counter: its inputs, the variables of its columns, and its clauses.
use Rattle.std.specs.Prelude.{◌≡◌, ◌≢◌, ◌↔◌, ◌⊎◌, ℕ, zero, suc, ◌+◌, ◌-◌, ◌<◌, max, true, false, List, [], ◌∷◌, ◌++◌, map, flat_map, length, Option, None, Some, slice_index_or, Contains, MatchOption}
use Rattle.std.specs.List.{range_with_len}
use Rattle.des_base.specs.Lists.{numbers_below}
use Rattle.prop_core.specs.declared.lit.Lit.{Lit}
use Rattle.prop_core.specs.Clauses.{Clause, negation, HasValues}
use Rattle.prop_core.specs.Trail.{no_literal}
use Rattle.prop_core.specs.VariableNames.{Meaning, reaches}

-- the inputs, for each column its variables, one for each input, and for how many more inputs there is room
pub record CounterState : Type 0 where
  pub inputs : List Lit
  pub columns : List (List ℕ)
  pub spare_inputs : ℕ

-- with no columns, and no room
abbrev pub without_columns : List Lit → CounterState
without_columns inputs = record { inputs = inputs; columns = []; spare_inputs = 0 }

-- the variables of column j, counted from 0: none if there is no such column
abbrev pub column_at : List (List ℕ) → ℕ → List ℕ
column_at columns j = slice_index_or columns j []

-- the variable of a column at input i, counted from 0, or 0 if there is no such input
abbrev pub var_at : List ℕ → ℕ → ℕ
var_at column i = slice_index_or column i 0

-- the variable of column j at input i: of the first i + 1 inputs at least j + 1 are true
abbrev pub variable : CounterState → ℕ → ℕ → ℕ
variable state i j = var_at (column_at state.columns j) i

-- there is this input, and this column
pub record IsPlace (state : CounterState) (i j : ℕ) : Type 0 where
  pub input : i < length state.inputs
  pub column : j < length state.columns

-- each column has a variable for each input
abbrev pub IsFull : CounterState → Type 0
IsFull state = (j : ℕ) → j < length state.columns → length (column_at state.columns j) ≡ length state.inputs

-- What a counter keeps: an input at least where it has a column, and a variable for each place, no two alike, and none of an input.
pub record IsCounter (state : CounterState) : Type 0 where
  pub filled : 0 < length state.columns → 0 < length state.inputs
  pub full : IsFull state
  pub apart : (i j k l : ℕ) → IsPlace state i j → IsPlace state k l → variable state i j ≡ variable state k l → (i ≡ k) × (j ≡ l)
  pub new : (i j : ℕ) (input : Lit) → IsPlace state i j → Contains state.inputs input → input.var ≢ variable state i j

-- all its variables were made, and those of its inputs
pub record IsMade (count : ℕ) (state : CounterState) : Type 0 where
  pub inputs : HasValues count state.inputs
  pub columns : (i j : ℕ) → IsPlace state i j → variable state i j < count

-- ---- clauses

-- the literal that the variable is true
abbrev pub positive : ℕ → Lit
positive var = record { var = var; positive = true }

-- the literal that the variable is false
abbrev pub negative : ℕ → Lit
negative var = record { var = var; positive = false }

-- what column j counts at input i: that its variable there is true, or nothing if there is no such place
abbrev pub IsReachedAt : CounterState → ℕ → ℕ → Option Lit → Type 0
IsReachedAt state i j reached = MatchOption reached (IsPlace state i j → ⊥) (λ literal. IsPlace state i j × (literal ≡ positive (variable state i j)))

-- that inputs reach a number: always, never, or as the truth of a variable says
pub data Reached : Type 0 where
  always : Reached
  never : Reached
  told_by : (var : ℕ) → Reached

-- the inputs before place i reach the number of this column
abbrev pub reached_in : List ℕ → ℕ → Reached
reached_in column zero = never
reached_in column (suc i) = told_by (var_at column i)

-- the inputs before place i reach the number of the column before, if there is one, and 0 if not
abbrev pub reached_before : Option (List ℕ) → ℕ → Reached
reached_before None i = always
reached_before (Some column) i = reached_in column i

-- the clause, under a premise
abbrev pub under : Reached → Clause → List Clause
under always clause = clause ∷ []
under never clause = []
under (told_by var) clause = (negative var ∷ clause) ∷ []

-- a column keeps at input i what the inputs before it reach: at the first input there is nothing to keep
abbrev pub kept_clauses : List ℕ → ℕ → List Clause
kept_clauses column i = under (reached_in column i) (positive (var_at column i) ∷ [])

-- a true input reaches one more than the inputs before it, as the column before says; in the first column it reaches 1, without a premise
abbrev pub counted_clauses : Lit → Option (List ℕ) → List ℕ → ℕ → List Clause
counted_clauses input before column i = under (reached_before before i) (negation input ∷ positive (var_at column i) ∷ [])

-- both: what a column says of input i
abbrev pub place_clauses : Lit → Option (List ℕ) → List ℕ → ℕ → List Clause
place_clauses input before column i = kept_clauses column i ++ counted_clauses input before column i

-- input i, counted from 0, or the literal that stands there if there is none
abbrev pub input_at : List Lit → ℕ → Lit
input_at inputs i = slice_index_or inputs i no_literal

-- the clauses of a column, input by input
abbrev pub column_clauses : List Lit → Option (List ℕ) → List ℕ → List Clause
column_clauses inputs before column = flat_map (λ i. place_clauses (input_at inputs i) before column i) (numbers_below (length inputs))

-- the column before column j
abbrev pub column_before : List (List ℕ) → ℕ → Option (List ℕ)
column_before columns zero = None
column_before columns (suc j) = Some (column_at columns j)

-- all clauses of the counter, column by column
abbrev pub counter_clauses : CounterState → List Clause
counter_clauses state =
    flat_map (λ j. column_clauses state.inputs (column_before state.columns j) (column_at state.columns j)) (numbers_below (length state.columns))

-- the same place by place: what column j keeps at input i
abbrev pub kept_at : CounterState → ℕ → ℕ → List Clause
kept_at state j i = kept_clauses (column_at state.columns j) i

-- what column j counts at input i
abbrev pub counted_at : CounterState → ℕ → ℕ → List Clause
counted_at state j i = counted_clauses (input_at state.inputs i) (column_before state.columns j) (column_at state.columns j) i

-- both: all that column j says of input i
abbrev pub clauses_at : CounterState → ℕ → ℕ → List Clause
clauses_at state j i = kept_at state j i ++ counted_at state j i

-- what column j says of all inputs, input by input
abbrev pub clauses_of_column : CounterState → ℕ → List Clause
clauses_of_column state j = flat_map (clauses_at state j) (numbers_below (length state.inputs))

-- what all columns say of input i, column by column
abbrev pub clauses_of_input : CounterState → ℕ → List Clause
clauses_of_input state i = flat_map (λ j. clauses_at state j i) (numbers_below (length state.columns))

-- the literal that at most k inputs are true, where there is a column k
abbrev pub bound_literal : CounterState → ℕ → Lit
bound_literal state k = negative (variable state (length state.inputs - 1) k)

-- ---- one more column, with variables in a row

-- the counter with a further column behind the others, whose variables are as many as the inputs and begin at `first`
abbrev pub with_column : CounterState → ℕ → CounterState
with_column state first = record { inputs = state.inputs; columns = state.columns ++ range_with_len first (length state.inputs) ∷ []; spare_inputs = state.spare_inputs }

-- the clauses of that column
abbrev pub next_clauses : CounterState → ℕ → List Clause
next_clauses state first = column_clauses state.inputs (column_before state.columns (length state.columns)) (range_with_len first (length state.inputs))

-- The clauses of a further column come after those of the others.
abbrev pub ColumnsAddClauses : Type 0
ColumnsAddClauses = (state : CounterState) (first : ℕ) → counter_clauses (with_column state first) ≡ counter_clauses state ++ next_clauses state first

-- ---- one more input, with a variable in each column

-- the columns, each with one variable more: these stand in a row from the first on
abbrev pub longer : ℕ → List (List ℕ) → List (List ℕ)
longer first [] = []
longer first (column ∷ columns) = (column ++ first ∷ []) ∷ longer (suc first) columns

-- the counter with a further input behind the others: its variables begin at `first`, one for each column, and it takes room if there is any
abbrev pub with_input : CounterState → Lit → ℕ → CounterState
with_input state input first = record { inputs = state.inputs ++ input ∷ []; columns = longer first state.columns; spare_inputs = state.spare_inputs - 1 }

-- what the columns say of the new input
abbrev pub input_clauses : CounterState → Lit → ℕ → List Clause
input_clauses state input first =
    flat_map (λ j. place_clauses input (column_before (longer first state.columns) j) (column_at (longer first state.columns) j) (length state.inputs)) (numbers_below (length state.columns))

-- The clauses of a further input come beside those of the others, which stay.
abbrev pub InputsAddClauses : Type 0
InputsAddClauses = (state : CounterState) (input : Lit) (first : ℕ) → IsFull state → (clause : Clause) →
    Contains (counter_clauses (with_input state input first)) clause ↔ Contains (counter_clauses state) clause ⊎ Contains (input_clauses state input first) clause

-- the literal is none of the counter's own variables
abbrev pub IsOutside : CounterState → Lit → Type 0
IsOutside state input = (i j : ℕ) → IsPlace state i j → input.var ≢ variable state i j

-- It is a counter with this input too, and all its variables were made.
pub record HasInput (state : CounterState) (input : Lit) (first : ℕ) : Type 0 where
  pub counter : IsCounter (with_input state input first)
  pub made : IsMade (first + length state.columns) (with_input state input first)
  pub before : (i j : ℕ) → IsPlace state i j → variable (with_input state input first) i j ≡ variable state i j
  pub last : (j : ℕ) → j < length state.columns → variable (with_input state input first) (length state.inputs) j ≡ first + j

-- A counter that was made takes as a further input each literal on a variable made before that is none of its own.
abbrev pub InputsGrow : Type 0
InputsGrow = (state : CounterState) (input : Lit) (first : ℕ) → IsCounter state → IsMade first state → input.var < first → IsOutside state input → HasInput state input first

-- ---- more inputs, one after another, each with its variables behind those of the one before

-- the counter with these inputs behind its own, the variables of the first of them from `first` on
abbrev pub with_inputs : CounterState → List Lit → ℕ → CounterState
with_inputs state [] first = state
with_inputs state (input ∷ more) first = with_inputs (with_input state input first) more (first + length state.columns)

-- what the columns say of them
abbrev pub inputs_clauses : CounterState → List Lit → ℕ → List Clause
inputs_clauses state [] first = []
inputs_clauses state (input ∷ more) first = input_clauses state input first ++ inputs_clauses (with_input state input first) more (first + length state.columns)

-- the same counter with room for at least `more` more inputs
abbrev pub with_room : CounterState → ℕ → CounterState
with_room state more = record { inputs = state.inputs; columns = state.columns; spare_inputs = max state.spare_inputs more }

-- the same inputs and columns, with any room
pub record AreAlike (state other : CounterState) : Type 0 where
  pub inputs : other.inputs ≡ state.inputs
  pub columns : other.columns ≡ state.columns

-- With further inputs: first those that there were, then these; and the clauses are those that there were, which stay, and the new ones.
pub record HasMoreInputs (state : CounterState) (more : List Lit) (first : ℕ) : Type 0 where
  pub inputs : (with_inputs state more first).inputs ≡ state.inputs ++ more
  pub columns : length (with_inputs state more first).columns ≡ length state.columns
  pub clauses : (clause : Clause) → Contains (counter_clauses (with_inputs state more first)) clause ↔ Contains (counter_clauses state) clause ⊎ Contains (inputs_clauses state more first) clause

-- This holds for each counter whose columns are full, and for any further inputs.
abbrev pub ManyInputsAdd : Type 0
ManyInputsAdd = (state : CounterState) (more : List Lit) (first : ℕ) → IsFull state → HasMoreInputs state more first

-- ---- meanings

-- the variables of the counter, each with its meaning
abbrev pub counter_meanings : CounterState → List (ℕ × Meaning)
counter_meanings state =
    flat_map (λ j. map (λ i. (variable state i j, reaches (suc i) (suc j))) (numbers_below (length state.inputs))) (numbers_below (length state.columns))

-- the variables of a further column, each with its meaning
abbrev pub next_meanings : CounterState → ℕ → List (ℕ × Meaning)
next_meanings state first = map (λ i. (first + i, reaches (suc i) (suc (length state.columns)))) (numbers_below (length state.inputs))

-- The meanings of a further column come after those of the others.
abbrev pub ColumnsAddMeanings : Type 0
ColumnsAddMeanings = (state : CounterState) (first : ℕ) → counter_meanings (with_column state first) ≡ counter_meanings state ++ next_meanings state first
