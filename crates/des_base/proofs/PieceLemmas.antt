-- A list is cut where a test passes: the first piece, and the pieces after it.
use Rattle.std.proofs.Common.{◌≡◌, ◌+◌, ℕ, suc, Bool, true, false, List, [], ◌∷◌, take, drop, cond, refl, arith, subst}
use Rattle.std.specs.Prelude.{not}
use Rattle.std.specs.List.{slice_split, position_or_len}

module _ (p : ℕ → Bool) where
  -- the pieces after the element that ends a piece, where there is one
  abbrev pub after_cut : List ℕ → List (List ℕ)
  after_cut [] = []
  after_cut (x ∷ xs) = slice_split p xs

  one_more : (n : ℕ) → suc n ≡ 1 + n
  one_more n = omega arith

  piece_step : (b : Bool) (x : ℕ) (xs : List ℕ) (n : ℕ) → p x ≡ b → slice_split p xs ≡ take n xs ∷ after_cut (drop n xs)
      → slice_split p (x ∷ xs) ≡ take (cond (not b) (1 + n) 0) (x ∷ xs) ∷ after_cut (drop (cond (not b) (1 + n) 0) (x ∷ xs))
  piece_step true x xs n e h = rw e refl
  piece_step false x xs n e h =
      subst (λ m. slice_split p (x ∷ xs) ≡ take m (x ∷ xs) ∷ after_cut (drop m (x ∷ xs))) (one_more n)
      (rw (e, h) refl)

  -- a list is a piece and what follows its end
  pub slice_split-piece : (xs : List ℕ) → slice_split p xs ≡ take (position_or_len p xs) xs ∷ after_cut (drop (position_or_len p xs) xs)
  slice_split-piece [] = refl
  slice_split-piece (x ∷ xs) = piece_step (p x) x xs (position_or_len p xs) refl (slice_split-piece xs)
