-- How a counter stands in memory: of each column the first variables, which stand in a row, and of each input that came later the first variable of a row that has
-- one for each column.
use Rattle.std.specs.Prelude.{◌≡◌, ℕ, suc, ◌+◌, ◌<◌, ◌≤◌, List, [], ◌∷◌, ◌++◌, drop, map, length}
use Rattle.std.specs.List.{range_with_len, AllByRecursion}
use Rattle.des_base.specs.declared.TheConstants.{MOST_COLUMNS, VAR_LIMIT}
use Rattle.prop_core.specs.declared.lit.Lit.{Lit}
use Rattle.card_counter.specs.declared.counter.Column.{Column}
use Rattle.card_counter.specs.CounterState.{CounterState, column_at, var_at}

-- the variables of column j: its own row, and then one of each later input
abbrev pub column_of : List ℕ → ℕ → Column → List ℕ
column_of rows j column = range_with_len column.first column.count ++ map (λ first. first + j) (drop column.count rows)

-- the columns from number j on
abbrev pub columns_of : List ℕ → ℕ → List Column → List (List ℕ)
columns_of rows j [] = []
columns_of rows j (column ∷ more) = column_of rows j column ∷ columns_of rows (suc j) more

-- the counter that stands in memory as these inputs, their rows, these columns, and room for `spare` more inputs
abbrev pub counter_of : List Lit → List ℕ → List Column → ℕ → CounterState
counter_of inputs rows columns spare = record { inputs = inputs; columns = columns_of rows 0 columns; spare_inputs = spare }

-- the variable of column j at input i
abbrev pub var_of : List ℕ → List Column → ℕ → ℕ → ℕ
var_of rows columns i j = var_at (column_at (columns_of rows 0 columns) j) i

-- Each input has a row, no column was made with more inputs than there are, all variables are small, and there are at most as many columns as there may be.
pub record IsLaidOut (inputs : List Lit) (rows : List ℕ) (columns : List Column) : Type 0 where
  pub each : length rows ≡ length inputs
  pub counts : AllByRecursion (λ column. column.count ≤ length rows) columns
  pub small : (i j : ℕ) → i < length inputs → j < length columns → var_of rows columns i j < VAR_LIMIT
  pub few : length columns ≤ MOST_COLUMNS
