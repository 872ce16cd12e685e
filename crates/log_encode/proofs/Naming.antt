-- Names of variables that lie in a row, and lists of names one behind another.
use Rattle.std.proofs.Common.{ℕ, ◌+◌, ◌≤◌, List, [], ◌∷◌, arith}
use Rattle.std.specs.List.{AllByRecursion}
use Rattle.prop_core.specs.VariableNames.{Meaning}
use Rattle.question_clauses.specs.LaidOut.{laid_out}

-- the variables of a row aren't less than its first
pub row_above : (first least : ℕ) (names : List Meaning) → least ≤ first → AllByRecursion (λ entry. least ≤ entry.0) (laid_out first names)
row_above first least [] h = tt
row_above first least (x ∷ names) h = (h, row_above (first + 1) least names (omega arith))
