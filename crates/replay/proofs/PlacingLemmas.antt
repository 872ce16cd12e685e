-- The place of an alarm in an order, and what one more alarm at the order's end leaves of it.
use Rattle.std.proofs.Common.{◌≡◌, ◌≢◌, ℕ, suc, ◌+◌, ◌<◌, Bool, true, false, cond, not, ◌||◌, List, [], ◌∷◌, ◌++◌, length, Option, None, Some, refl, arith, ap, sym, ◌∙◌, subst, get_or, get_or-set_same, get_or-set_other}
use Rattle.std.proofs.Math.Bool.{or-false}
use Rattle.std.specs.Prelude.{◌==◌, slice_set}
use Rattle.des_base.proofs.BoolLemmas.{same, itself}
use Rattle.log_order.proofs.MarkLemmas.{in-push}
use Rattle.log_order.specs.Log.{place_in}
use Rattle.log_order.specs.Precedence.{is_in}
use Rattle.replay.specs.Placed.{place_of_alarm}

-- ---- the place

none_step : (b : Bool) (r : Bool) (p n : ℕ) → (b || r) ≡ false → (r ≡ false → p ≡ n) → cond (not b) (1 + p) 0 ≡ suc n
none_step true r p n h rest = cc
none_step false r p n h rest = let e : p ≡ n = rest h in omega arith

pub place-none : (xs : List ℕ) (i : ℕ) → is_in xs i ≡ false → place_in xs i ≡ length xs
place-none [] i h = refl
place-none (x ∷ xs) i h = none_step (x == i) (is_in xs i) (place_in xs i) (length xs) h (place-none xs i)

old_step : (b r : Bool) (p q : ℕ) → (b || r) ≡ true → (r ≡ true → p ≡ q) → cond (not b) (1 + p) 0 ≡ cond (not b) (1 + q) 0
old_step true r p q h rest = refl
old_step false r p q h rest = ap (λ n. 1 + n) (rest h)

pub place-push_old : (xs : List ℕ) (y i : ℕ) → is_in xs i ≡ true → place_in (xs ++ y ∷ []) i ≡ place_in xs i
place-push_old [] y i h = cc
place-push_old (x ∷ xs) y i h = old_step (x == i) (is_in xs i) (place_in (xs ++ y ∷ []) i) (place_in xs i) h (place-push_old xs y i)

pub place-push_new : (xs : List ℕ) (y : ℕ) → is_in xs y ≡ false → place_in (xs ++ y ∷ []) y ≡ length xs
place-push_new [] y h = ap (λ b. cond (not b) (1 + 0) 0) (itself y)
place-push_new (x ∷ xs) y h = none_step (x == y) (is_in xs y) (place_in (xs ++ y ∷ []) y) (length xs) h (place-push_new xs y)

-- ---- the places that are kept

place_new : (order : List ℕ) (y : ℕ) → is_in order y ≡ false → place_of_alarm (order ++ y ∷ []) y ≡ Some (length order)
place_new order y fresh =
    ap (λ b. cond b (Some (place_in (order ++ y ∷ []) y)) None) (in-push order y y ∙ ap (λ b. b || (y == y)) fresh ∙ itself y)
    ∙ ap Some (place-push_new order y fresh)

place_kept : (order : List ℕ) (y i : ℕ) → (y == i) ≡ false → place_of_alarm (order ++ y ∷ []) i ≡ place_of_alarm order i
place_kept order y i other =
    ap (λ b. cond b (Some (place_in (order ++ y ∷ []) i)) None) (in-push order y i ∙ ap (λ b. is_in order i || b) other ∙ or-false (is_in order i)) ∙ by (is_in order i) refl
  where
    by : (b : Bool) → is_in order i ≡ b → cond b (Some (place_in (order ++ y ∷ []) i)) None ≡ cond b (Some (place_in order i)) None
    by true e = ap Some (place-push_old order y i e)
    by false e = refl

pub each-push : (order : List ℕ) (places : List (Option ℕ)) (y i : ℕ) → y < length places → is_in order y ≡ false → get_or places i None ≡ place_of_alarm order i
    → get_or (slice_set places y (Some (length order))) i None ≡ place_of_alarm (order ++ y ∷ []) i
each-push order places y i below fresh before = by (y == i) refl
  where
    by : (b : Bool) → (y == i) ≡ b → get_or (slice_set places y (Some (length order))) i None ≡ place_of_alarm (order ++ y ∷ []) i
    by true e =
        let is : y ≡ i = same y i e in
        subst (λ k. get_or (slice_set places y (Some (length order))) k None ≡ place_of_alarm (order ++ y ∷ []) k) is
        (get_or-set_same places y (Some (length order)) None below ∙ sym (place_new order y fresh))
    by false e =
        let other : i ≢ y = λ is. let k : (y == i) ≡ true = ap (λ n. y == n) is ∙ itself y in cc in
        get_or-set_other places y i (Some (length order)) None other ∙ before ∙ sym (place_kept order y i e)

-- where no place is kept the alarm isn't there
pub not_in : (order : List ℕ) (i : ℕ) → None ≡ place_of_alarm order i → is_in order i ≡ false
not_in order i e = by (is_in order i) refl e
  where
    by : (b : Bool) → is_in order i ≡ b → None ≡ cond b (Some (place_in order i)) None → is_in order i ≡ false
    by true is h = cc
    by false is h = is
