-- Marks, and which numbers are in the front of a list.
use Rattle.std.proofs.Common.{◌≡◌, ℕ, zero, suc, ◌<◌, Bool, true, false, ◌||◌, List, [], ◌∷◌, ◌++◌, length, refl, arith, ap, sym, ◌∙◌, replicate}
use Rattle.std.specs.Prelude.{◌==◌, slice_set}
use Rattle.std.proofs.lemmas.Bool.Decides.{nat_tests}
use Rattle.log_order.specs.Precedence.{is_in, is_marked}
use Rattle.des_base.proofs.BoolLemmas.{differ, or_assoc}

or_true : (b : Bool) → true ≡ (b || true)
or_true true = refl
or_true false = refl

-- no number is marked at first
pub none_marked : (n i : ℕ) → is_marked (replicate n false) i ≡ false
none_marked zero i = refl
none_marked (suc n) zero = refl
none_marked (suc n) (suc i) = none_marked n i

pub or_false : (b k : Bool) → k ≡ false → b ≡ (b || k)
or_false true k e = refl
or_false false k e = sym e

pub eq_suc : (a b : ℕ) → (a == b) ≡ (suc a == suc b)
eq_suc a b = grind (arith, nat_tests)

pub marked-set : (marks : List Bool) (b i : ℕ) → b < length marks → is_marked (slice_set marks b true) i ≡ (is_marked marks i || (b == i))
marked-set [] b i l = absurd (omega arith)
marked-set (m ∷ ms) zero zero l = or_true m
marked-set (m ∷ ms) zero (suc i) l = or_false (is_marked ms i) (0 == suc i) (differ 0 (suc i) (λ e. omega arith))
marked-set (m ∷ ms) (suc b) zero l = or_false m (suc b == 0) (differ (suc b) 0 (λ e. omega arith))
marked-set (m ∷ ms) (suc b) (suc i) l = marked-set ms b i (omega arith) ∙ ap (λ k. is_marked ms i || k) (eq_suc b i)

pub in-push : (xs : List ℕ) (y i : ℕ) → is_in (xs ++ y ∷ []) i ≡ (is_in xs i || (y == i))
in-push [] y i = sym (or_false (y == i) false refl)
in-push (x ∷ xs) y i = ap (λ b. (x == i) || b) (in-push xs y i) ∙ or_assoc (x == i) (is_in xs i) (y == i)
