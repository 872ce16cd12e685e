-- Digits that are read one after another, up to a greatest number.
use Rattle.std.proofs.Common.{◌≡◌, ◌<◌, ◌+◌, ◌-◌, ◌*◌, ℕ, suc, Bool, true, false, List, [], ◌∷◌, length, get_or, drop, Option, None, Some, cond, refl, arith, drop-cons, sym, ◌∙◌, ap, add-one}
use Rattle.std.proofs.lemmas.Bool.Decides.{nat_tests}
use Rattle.std.specs.Prelude.{nat_le, option_and_then}
use Rattle.std.specs.Char.{is_ascii_digit}
use Rattle.des_base.specs.Numbers.{digits_value, up_to}

above_step : (b : Bool) (most : ℕ) (o : Option ℕ) → up_to most o ≡ None → up_to most (cond b o None) ≡ None
above_step true most o h = h
above_step false most o h = refl

-- More digits never make a number smaller.
up_to-above : (most n : ℕ) (cs : List ℕ) → nat_le n most ≡ false → up_to most (digits_value n cs) ≡ None
up_to-above most n [] h = rw h refl
up_to-above most n (c ∷ cs) h = above_step (is_ascii_digit c) most (digits_value (10 * n + (c - 48)) cs) (up_to-above most (10 * n + (c - 48)) cs (grind (arith, nat_tests)))

fits_step : (b : Bool) (most n : ℕ) (cs : List ℕ) → nat_le n most ≡ b → up_to most (digits_value n cs) ≡ option_and_then (λ m. up_to most (digits_value m cs)) (cond b (Some n) None)
fits_step true most n cs h = refl
fits_step false most n cs h = up_to-above most n cs h

digit_step : (b : Bool) (most n : ℕ) (cs : List ℕ) → up_to most (cond b (digits_value n cs) None) ≡ option_and_then (λ m. up_to most (digits_value m cs)) (up_to most (cond b (Some n) None))
digit_step true most n cs = fits_step (nat_le n most) most n cs refl
digit_step false most n cs = refl

-- one digit, and then the others
pub up_to-cons : (most n c : ℕ) (cs : List ℕ) → up_to most (digits_value n (c ∷ cs)) ≡ option_and_then (λ m. up_to most (digits_value m cs)) (up_to most (digits_value n (c ∷ [])))
up_to-cons most n c cs = digit_step (is_ascii_digit c) most (10 * n + (c - 48)) cs

-- the same for what is left from a place on
pub up_to-drop : (most n : ℕ) (xs : List ℕ) (i : ℕ) → i < length xs → up_to most (digits_value n (drop i xs)) ≡ option_and_then (λ m. up_to most (digits_value m (drop (i + 1) xs))) (up_to most (digits_value n (get_or xs i 0 ∷ [])))
up_to-drop most n xs i h = rw (add-one, drop-cons xs i 0) (up_to-cons most n (get_or xs i 0) (drop (suc i) xs))

pub up_to-drop_none : (most n : ℕ) (xs : List ℕ) (i : ℕ) → i < length xs → None ≡ up_to most (digits_value n (get_or xs i 0 ∷ [])) → up_to most (digits_value n (drop i xs)) ≡ None
up_to-drop_none most n xs i h e = up_to-drop most n xs i h ∙ ap (option_and_then (λ m. up_to most (digits_value m (drop (i + 1) xs)))) (sym e)
