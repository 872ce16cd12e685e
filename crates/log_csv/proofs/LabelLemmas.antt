-- The labels of a field, one after another.
use Rattle.std.proofs.Common.{◌≡◌, ◌-◌, ◌≤◌, ℕ, suc, Bool, List, [], ◌∷◌, length, take, drop, refl, arith, ap, sym, ◌∙◌, sub-one}
use Rattle.std.specs.Prelude.{◌==◌}
use Rattle.std.specs.List.{position_or_len, slice_split}
use Rattle.des_base.proofs.PieceLemmas.{after_cut, slice_split-piece}

abbrev pub is_bar : ℕ → Bool
is_bar byte = byte == 124

take_all : (xs : List ℕ) → take (length xs) xs ≡ xs
take_all [] = refl
take_all (x ∷ xs) = ap (λ rest. x ∷ rest) (take_all xs)

after : (back : List ℕ) → 1 ≤ length back → after_cut is_bar back ≡ slice_split is_bar (take (length back - 1) (drop 1 back))
after [] h = absurd (omega arith)
after (x ∷ xs) h = ap (slice_split is_bar) (sym (ap (λ n. take n xs) (sub-one (suc (length xs))) ∙ take_all xs))

none_after : (back : List ℕ) → length back ≤ 0 → after_cut is_bar back ≡ []
none_after [] h = refl
none_after (x ∷ xs) h = absurd (omega arith)

-- a field whose first label ends at a bar, and one without a bar
pub split-bar : (text front back : List ℕ) (n : ℕ) → front ≡ take n text → back ≡ drop n text → n ≡ position_or_len is_bar text → 1 ≤ length back
    → slice_split is_bar text ≡ front ∷ slice_split is_bar (take (length back - 1) (drop 1 back))
split-bar text front back n f b e some =
    slice_split-piece is_bar text
    ∙ ap (λ m. take m text ∷ after_cut is_bar (drop m text)) (sym e)
    ∙ ap (λ t. t ∷ after_cut is_bar (drop n text)) (sym f)
    ∙ ap (λ t. front ∷ after_cut is_bar t) (sym b)
    ∙ ap (λ ts. front ∷ ts) (after back some)

pub split-no_bar : (text front back : List ℕ) (n : ℕ) → front ≡ take n text → back ≡ drop n text → n ≡ position_or_len is_bar text → length back ≤ 0
    → slice_split is_bar text ≡ front ∷ []
split-no_bar text front back n f b e none =
    slice_split-piece is_bar text
    ∙ ap (λ m. take m text ∷ after_cut is_bar (drop m text)) (sym e)
    ∙ ap (λ t. t ∷ after_cut is_bar (drop n text)) (sym f)
    ∙ ap (λ t. front ∷ after_cut is_bar t) (sym b)
    ∙ ap (λ ts. front ∷ ts) (none_after back none)
