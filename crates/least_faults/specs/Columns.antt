-- A question as it is built, with further columns of its counter: a number of them, and those that a bound needs.
use Rattle.std.specs.Prelude.{ℕ, zero, suc, ◌+◌, ◌-◌, length, Option, Some, None}
use Rattle.run_decode.specs.QuestionAxioms.{BuiltQuestion, column_built}

-- with this many further columns
abbrev pub columns_built : BuiltQuestion → ℕ → BuiltQuestion
columns_built question zero = question
columns_built question (suc columns) = column_built (columns_built question columns)

-- how many columns a bound needs: the column after k others says that there are at most k faults
abbrev pub columns_for : Option ℕ → ℕ
columns_for None = 0
columns_for (Some k) = k + 1

-- with the columns that its counter lacks for the bound
abbrev pub built_within : BuiltQuestion → Option ℕ → BuiltQuestion
built_within question bound = columns_built question (columns_for bound - length question.counter.columns)
