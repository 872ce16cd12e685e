-- Lines of a word and of numbers.
use Rattle.std.specs.Prelude.{ℕ, List, [], ◌∷◌, ◌++◌, decimal}

-- words, a number and the end of the line
abbrev pub line_with_number : List ℕ → ℕ → List ℕ
line_with_number words n = words ++ decimal n ++ 10 ∷ []

-- words, two numbers and the end of the line
abbrev pub line_with_two_numbers : List ℕ → ℕ → ℕ → List ℕ
line_with_two_numbers words first second = words ++ decimal first ++ 32 ∷ decimal second ++ 10 ∷ []
