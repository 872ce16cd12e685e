-- Numbers of CNF and LRAT texts: decimal digits without a leading zero, perhaps behind a `-`, or `0`. And the literals of
-- these texts: variable i of a text is variable i - 1 of a formula.
use Rattle.std.specs.Prelude.{ℕ, ◌-◌, Bool, true, false, not, ◌&&◌, ◌==◌, nat_le, List, [], ◌∷◌, Option, None, Some, option_map, option_and_then, unwrap_or, is_some, if◌then◌else◌}
use Rattle.des_base.specs.Numbers.{number_of}
use Rattle.prop_core.specs.declared.lit.Lit.{Lit}
use Rattle.proof_text.specs.declared.number.ClauseItem.{ClauseItem}
use Rattle.proof_text.specs.declared.number.ClauseItem.TheVariants.{Literal, End}

-- a number by its size, and whether a `-` stands before it
pub record Signed : Type 0 where
  pub negative : Bool
  pub size : ℕ

-- the number without a `-`
abbrev pub plain : ℕ → Signed
plain n = record { negative = false; size = n }

-- There is no `-0`.
abbrev pub behind_minus : ℕ → Option Signed
behind_minus n = if n == 0 then None else Some (record { negative = true; size = n })

-- the number that a text spells, where it spells one
abbrev pub signed_of : List ℕ → Option Signed
signed_of [] = None
signed_of (c ∷ cs) = if c == 45 then option_and_then behind_minus (number_of cs) else option_map plain (number_of (c ∷ cs))

-- the text spells a number, with a `-` or without
abbrev pub is_number : List ℕ → Bool
is_number text = is_some (signed_of text)

-- the number that the text spells, or 0
abbrev pub number_in : List ℕ → Signed
number_in text = unwrap_or (signed_of text) (plain 0)

-- the number that the text spells, without its sign, or 0
abbrev pub size_of : List ℕ → ℕ
size_of text = (number_in text).size

-- the text spells a number with a `-`
abbrev pub is_negative : List ℕ → Bool
is_negative text = (number_in text).negative

-- The text is the number 0, which ends a clause or a list of numbers.
abbrev pub is_zero : List ℕ → Bool
is_zero text = is_number text && size_of text == 0

-- the literal of a number that is not 0: i becomes variable i - 1, and a `-` negates it
abbrev pub literal : Signed → Lit
literal n = record { var = n.size - 1; positive = not n.negative }

-- the literal that the text spells; where it spells none, that of `1`
abbrev pub literal_of : List ℕ → Lit
literal_of text = literal (number_in text)

-- a number among the literals of a clause: a literal, or the clause's end
abbrev pub item : Signed → ClauseItem
item n = if n.size == 0 then End else Literal (literal n)

-- the number, where its size is at most `vars`
abbrev pub within : ℕ → Signed → Option Signed
within vars n = if nat_le n.size vars then Some n else None

-- the literal or the end that a text spells, where it is a number and its variable is one of the first `vars`
abbrev pub item_within : ℕ → List ℕ → Option ClauseItem
item_within vars text = option_map item (option_and_then (within vars) (signed_of text))
