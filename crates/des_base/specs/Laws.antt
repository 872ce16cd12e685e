-- What the definitions of texts come to in the library's words.
use Rattle.std.specs.Prelude.{◌≡◌, ◌<◌, ◌^◌, ◌↔◌, ℕ, List, Some, filter, length, nat_lt}
use Rattle.std.specs.List.{slice_split}
use Rattle.std.specs.Fmt.{decimal}
use Rattle.des_base.specs.Numbers.{number_of}
use Rattle.des_base.specs.CountedLines.{is_blank, tokens_of}

-- A text spells a number exactly if it is what is printed of that number.
abbrev pub NumbersAreDecimal : Type 0
NumbersAreDecimal = (n : ℕ) (text : List ℕ) → n < 2 ^ 64 → number_of text ≡ Some n ↔ text ≡ decimal n

-- The tokens of a line are its pieces between blanks that have a byte.
abbrev pub TokensArePieces : Type 0
TokensArePieces = (line : List ℕ) → tokens_of line ≡ filter (λ piece. nat_lt 0 (length piece)) (slice_split is_blank line)
