-- The lines of a text, one after another.
use Rattle.std.proofs.Common.{◌≡◌, ◌<◌, ◌+◌, ℕ, Bool, List, [], ◌∷◌, length, take, drop, cond, refl, arith, ap, ◌∙◌, length-take, length-drop}
use Rattle.std.proofs.lemmas.Bool.Decides.{nat_tests}
use Rattle.std.proofs.lemmas.List.Splits.{length-slice_split}
use Rattle.std.specs.Prelude.{◌==◌, map, nat_lt}
use Rattle.std.specs.List.{slice_split, position_or_len}
use Rattle.std.specs.Str.Lines.{strip_carriage_return}
use Rattle.des_base.specs.CountedLines.{text_lines, without_empty_last}
use Rattle.des_base.proofs.PieceLemmas.{after_cut, slice_split-piece}

abbrev is_feed : ℕ → Bool
is_feed byte = byte == 10

abbrev line_len : List ℕ → ℕ
line_len xs = position_or_len is_feed xs

-- only the last piece is left out
pub without_empty_last-cons : (piece : List ℕ) (pieces : List (List ℕ)) → 0 < length pieces → without_empty_last (piece ∷ pieces) ≡ piece ∷ without_empty_last pieces
without_empty_last-cons piece [] h = absurd (omega arith)
without_empty_last-cons piece (next ∷ pieces) h = refl

last_piece : (n : ℕ) (piece : List ℕ) → 0 < n → cond (nat_lt 0 n) (piece ∷ []) [] ≡ piece ∷ []
last_piece n piece h = grind (arith, nat_tests)

-- behind the piece in front there are the pieces of what follows its line feed
behind_piece : (piece rest : List ℕ) → 0 < length piece + length rest → without_empty_last (piece ∷ after_cut is_feed rest) ≡ piece ∷ without_empty_last (slice_split is_feed (drop 1 rest))
behind_piece piece [] h = last_piece (length piece) piece (omega arith)
behind_piece piece (x ∷ xs) h = without_empty_last-cons piece (slice_split is_feed xs) (omega (arith, length-slice_split is_feed xs))

pub text_lines-cons : (xs : List ℕ) → 0 < length xs → text_lines xs ≡ strip_carriage_return (take (position_or_len (λ byte. byte == 10) xs) xs) ∷ text_lines (drop 1 (drop (position_or_len (λ byte. byte == 10) xs) xs))
text_lines-cons xs h =
    ap (map strip_carriage_return)
    (ap without_empty_last (slice_split-piece is_feed xs)
    ∙ behind_piece (take (line_len xs) xs) (drop (line_len xs) xs) (simp (length-take, length-drop) (omega arith)))
