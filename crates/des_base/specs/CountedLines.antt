-- A text is cut at its line feeds. Blank lines and comments are skipped; the others count. Lines are cut at spaces and tabs.
use Rattle.std.specs.Prelude.{ℕ, ◌+◌, Bool, false, not, ◌||◌, List, [], ◌∷◌, map, filter, find, length, ◌==◌, nat_lt, nat_le, Option, if◌then◌else◌, max}
use Rattle.std.specs.List.{slice_split}
use Rattle.std.specs.Option.{option_map_or}
use Rattle.std.specs.Str.Lines.{strip_carriage_return}

-- a space or a tab
abbrev pub is_blank : ℕ → Bool
is_blank byte = byte == 32 || byte == 9

-- the pieces, but for a last one that is empty
abbrev pub without_empty_last : List (List ℕ) → List (List ℕ)
without_empty_last [] = []
without_empty_last (piece ∷ []) = if nat_lt 0 (length piece) then piece ∷ [] else []
without_empty_last (piece ∷ next ∷ pieces) = piece ∷ without_empty_last (next ∷ pieces)

-- One carriage return before a line feed, or at the end of the last line, belongs to the line's end.
abbrev pub text_lines : List ℕ → List (List ℕ)
text_lines bytes = map strip_carriage_return (without_empty_last (slice_split (λ byte. byte == 10) bytes))

-- a line of a text: its number among all lines, blank ones and comments too, and its bytes without the line's end
pub record NumberedLine : Type 0 where
  pub number : ℕ
  pub text : List ℕ

-- the line of this number and these bytes
abbrev pub numbered : ℕ → List ℕ → NumberedLine
numbered number text = record { number = number; text = text }

-- these lines in order, of which the first has number n and each later one the next number
abbrev pub numbered_from : ℕ → List (List ℕ) → List NumberedLine
numbered_from n [] = []
numbered_from n (line ∷ lines) = numbered n line ∷ numbered_from (n + 1) lines

-- the line has a byte that isn't blank, and the first such byte doesn't begin a comment
abbrev pub is_counted : ℕ → List ℕ → Bool
is_counted comment text = option_map_or (λ byte. not (byte == comment)) (find (λ byte. not (is_blank byte)) text) false

-- the counted lines, where the first line has number n
abbrev pub counted_from : ℕ → ℕ → List ℕ → List NumberedLine
counted_from comment n bytes = filter (λ line. is_counted comment line.text) (numbered_from n (text_lines bytes))

-- Lines are numbered from 1, all of them.
abbrev pub counted_lines : ℕ → List ℕ → List NumberedLine
counted_lines comment bytes = counted_from comment 1 bytes

-- the number of a text's last line, or 1 if it has none
abbrev pub last_line : List ℕ → ℕ
last_line bytes = max 1 (length (text_lines bytes))

-- a token, and how many bytes of its line stand before it
pub record PlacedToken : Type 0 where
  pub start : ℕ
  pub text : List ℕ

-- a token of these bytes, with `start` bytes of its line before it
abbrev pub placed : ℕ → List ℕ → PlacedToken
placed start text = record { start = start; text = text }

-- the piece that begins here is one byte longer
abbrev pub with_byte : ℕ → ℕ → List PlacedToken → List PlacedToken
with_byte start byte [] = placed start (byte ∷ []) ∷ []
with_byte start byte (piece ∷ pieces) = placed start (byte ∷ piece.text) ∷ pieces

-- the pieces between blanks, where the first byte has this place
abbrev pub pieces_from : ℕ → List ℕ → List PlacedToken
pieces_from start [] = placed start [] ∷ []
pieces_from start (byte ∷ bytes) =
    if is_blank byte then placed start [] ∷ pieces_from (start + 1) bytes
    else with_byte start byte (pieces_from (start + 1) bytes)

-- the tokens among these bytes, the first of which has this place in its line: the pieces between blanks that aren't empty
abbrev pub tokens_from : ℕ → List ℕ → List PlacedToken
tokens_from start bytes = filter (λ piece. nat_lt 0 (length piece.text)) (pieces_from start bytes)

-- the longest pieces of a line without space and tab
abbrev pub placed_tokens : List ℕ → List PlacedToken
placed_tokens line = tokens_from 0 line

-- the first token that begins at this place of the line, or after it
abbrev pub token_from : ℕ → List ℕ → Option PlacedToken
token_from from line = find (λ token. nat_le from token.start) (placed_tokens line)

-- the bytes of tokens, without their places
abbrev pub texts_of : List PlacedToken → List (List ℕ)
texts_of tokens = map (λ token. token.text) tokens

-- the tokens of a line, as bytes
abbrev pub tokens_of : List ℕ → List (List ℕ)
tokens_of line = texts_of (placed_tokens line)
