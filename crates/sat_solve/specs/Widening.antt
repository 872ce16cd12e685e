-- What is kept of variables, where there are to be more of them.
use Rattle.std.specs.Prelude.{◌≡◌, ℕ, ◌-◌, ◌++◌, ◌⊎◌, Bool, false, List, length, replicate}

-- these values, and false for each further variable below a number
abbrev pub widened : List Bool → ℕ → List Bool
widened values vars = values ++ replicate (vars - length values) false

-- the values are as before, or there are some of further variables
abbrev pub KeepsValues : List Bool → List Bool → ℕ → Type 0
KeepsValues old new vars = (new ≡ old) ⊎ (new ≡ widened old vars)
