-- Numbers in texts: decimal digits without a sign, and without a leading zero unless the number is `0`.
use Rattle.std.specs.Prelude.{ℕ, ◌+◌, ◌-◌, ◌*◌, List, [], ◌∷◌, Option, None, Some, if◌then◌else◌, nat_le, ◌==◌, option_and_then}
use Rattle.std.specs.Char.{is_ascii_digit}

-- the number that these digits, after those of n, spell
abbrev pub digits_value : ℕ → List ℕ → Option ℕ
digits_value n [] = Some n
digits_value n (c ∷ cs) = if is_ascii_digit c then digits_value (10 * n + (c - 48)) cs else None

-- the number that a text spells, if it spells one
abbrev pub number_of : List ℕ → Option ℕ
number_of [] = None
number_of (c ∷ []) = digits_value 0 (c ∷ [])
number_of (c ∷ d ∷ cs) = if c == 48 then None else digits_value 0 (c ∷ d ∷ cs)

-- the number, if there is one and it is at most this
abbrev pub up_to : ℕ → Option ℕ → Option ℕ
up_to most number = option_and_then (λ n. if nat_le n most then Some n else None) number

-- the number that a text spells, where it is at most this
abbrev pub number_up_to : ℕ → List ℕ → Option ℕ
number_up_to most text = up_to most (number_of text)
