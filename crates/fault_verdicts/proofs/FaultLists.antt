-- The fault events of a network, number by number.
use Rattle.std.proofs.Common.{◌≡◌, ◌∙◌, ℕ, ◌+◌, Bool, true, false, List, [], ◌∷◌, ◌++◌, refl, sym, ap}
use Rattle.std.proofs.lemmas.List.{append-nil}
use Rattle.std.specs.Prelude.{filter}
use Rattle.des_base.proofs.NumbersBelow.{filter_numbers_no, filter_numbers_yes}
use Rattle.des_base.specs.Lists.{numbers_below}

-- one that passes stands alone, and else nothing does
pub one_passes : (p : ℕ → Bool) (x : ℕ) → p x ≡ true → filter p (x ∷ []) ≡ x ∷ []
one_passes p x h = rw h refl

pub none_passes : (p : ℕ → Bool) (x : ℕ) → p x ≡ false → filter p (x ∷ []) ≡ []
none_passes p x h = rw h refl

-- one more number
pub list_more : (p : ℕ → Bool) (n : ℕ) (list new : List ℕ) → list ≡ filter p (numbers_below n) → new ≡ list ++ filter p (n ∷ []) → new ≡ filter p (numbers_below (n + 1))
list_more p n list new so_far added = added ∙ ap (λ xs. xs ++ filter p (n ∷ [])) so_far ∙ by (p n) refl
  where
    by : (b : Bool) → p n ≡ b → filter p (numbers_below n) ++ filter p (n ∷ []) ≡ filter p (numbers_below (n + 1))
    by true h = ap (λ xs. filter p (numbers_below n) ++ xs) (one_passes p n h) ∙ sym (filter_numbers_yes p n h)
    by false h = ap (λ xs. filter p (numbers_below n) ++ xs) (none_passes p n h) ∙ append-nil (filter p (numbers_below n)) ∙ sym (filter_numbers_no p n h)
