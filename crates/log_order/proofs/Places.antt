-- Which of two numbers stands first in a list, as a test, and what filters and further elements leave of it.
use Rattle.std.proofs.Common.{◌≡◌, ℕ, zero, suc, ◌+◌, ◌<◌, Bool, true, false, cond, not, ◌||◌, List, [], ◌∷◌, ◌++◌, length, get_or, refl, arith, ap, sym, ◌∙◌, subst}
use Rattle.std.specs.Prelude.{◌==◌, nat_lt, Contains}
use Rattle.std.specs.List.{filter}
use Rattle.std.proofs.lemmas.Bool.Decides.{nat_tests}
use Rattle.log_order.specs.Log.{place_in}
use Rattle.log_order.specs.Precedence.{is_in, moved}
use Rattle.des_base.proofs.BoolLemmas.{or_left, or_right, not_true, not_false, same, itself, less_is, is_less, apart}

-- i is met from the front on, and j not before it
abbrev pub stands : List ℕ → ℕ → ℕ → Bool
stands [] i j = false
stands (x ∷ xs) i j = cond (x == j) false (cond (x == i) true (stands xs i j))

-- ---- places

place_step : (bi bj : Bool) (a b : ℕ) (r : Bool) → nat_lt a b ≡ r → nat_lt (cond (not bi) (1 + a) 0) (cond (not bj) (1 + b) 0) ≡ cond bj false (cond bi true r)
place_step true true a b r h = refl
place_step true false a b r h = is_less 0 (1 + b) (omega arith)
place_step false true a b r h = grind (arith, nat_tests)
place_step false false a b true h = let k : a < b = less_is a b h in is_less (1 + a) (1 + b) (omega arith)
place_step false false a b false h = grind (arith, nat_tests)

pub stands-places : (xs : List ℕ) (i j : ℕ) → nat_lt (place_in xs i) (place_in xs j) ≡ stands xs i j
stands-places [] i j = refl
stands-places (x ∷ xs) i j = place_step (x == i) (x == j) (place_in xs i) (place_in xs j) (stands xs i j) (stands-places xs i j)

pub stands-from : (xs : List ℕ) (i j : ℕ) → place_in xs i < place_in xs j → stands xs i j ≡ true
stands-from xs i j h = sym (stands-places xs i j) ∙ is_less _ _ h

pub places-from : (xs : List ℕ) (i j : ℕ) → stands xs i j ≡ true → place_in xs i < place_in xs j
places-from xs i j h = less_is _ _ (stands-places xs i j ∙ h)

-- ---- being there

in_step : (bj bi r s : Bool) → cond bj false (cond bi true r) ≡ true → (r ≡ true → s ≡ true) → (bi || s) ≡ true
in_step true bi r s h f = cc
in_step false true r s h f = refl
in_step false false r s h f = f h

pub stands-in : (xs : List ℕ) (i j : ℕ) → stands xs i j ≡ true → is_in xs i ≡ true
stands-in [] i j h = h
stands-in (x ∷ xs) i j h = in_step (x == j) (x == i) (stands xs i j) (is_in xs i) h (stands-in xs i j)

in_at : (xs : List ℕ) (i k : ℕ) → k < length xs → get_or xs k i ≡ i → is_in xs i ≡ true
in_at [] i k l h = absurd (omega arith)
in_at (x ∷ xs) i zero l h = or_left (x == i) _ (subst (λ y. (y == i) ≡ true) (sym h) (itself i))
in_at (x ∷ xs) i (suc k) l h = or_right (x == i) _ (in_at xs i k (omega arith) h)

pub in_from : (xs : List ℕ) (i : ℕ) → Contains xs i → is_in xs i ≡ true
in_from xs i h = in_at xs i h.0 h.1 h.2

found_step : (x i : ℕ) (xs : List ℕ) (b : Bool) → (x == i) ≡ b → (b || is_in xs i) ≡ true → (is_in xs i ≡ true → Contains xs i) → Contains (x ∷ xs) i
found_step x i xs true e h f = (0, omega arith, same x i e)
found_step x i xs false e h f = let there = f h in let l : there.0 < length xs = there.1 in (suc there.0, omega arith, there.2)

pub in_is : (xs : List ℕ) (i : ℕ) → is_in xs i ≡ true → Contains xs i
in_is [] i h = cc
in_is (x ∷ xs) i h = found_step x i xs (x == i) refl h (in_is xs i)

pub in-append_left : (xs ys : List ℕ) (i : ℕ) → is_in xs i ≡ true → is_in (xs ++ ys) i ≡ true
in-append_left [] ys i h = cc
in-append_left (x ∷ xs) ys i h = in_step false (x == i) (is_in xs i) (is_in (xs ++ ys) i) (or_is (x == i) (is_in xs i) h) (in-append_left xs ys i)
  where
    or_is : (a b : Bool) → (a || b) ≡ true → cond a true b ≡ true
    or_is true b h = refl
    or_is false b h = h

pub in-append_right : (xs ys : List ℕ) (i : ℕ) → is_in ys i ≡ true → is_in (xs ++ ys) i ≡ true
in-append_right [] ys i h = h
in-append_right (x ∷ xs) ys i h = or_right (x == i) _ (in-append_right xs ys i h)

filter_step : (x i : ℕ) (k b : Bool) (r : Bool) (ys : List ℕ) → (x == i) ≡ b → (b ≡ true → k ≡ true) → (b || r) ≡ true → (r ≡ true → is_in ys i ≡ true) → is_in (cond k (x ∷ ys) ys) i ≡ true
filter_step x i true true r ys e f h rest = or_left (x == i) (is_in ys i) e
filter_step x i true false r ys e f h rest = or_right (x == i) (is_in ys i) (rest h)
filter_step x i false true r ys e f h rest = let k = f refl in cc
filter_step x i false false r ys e f h rest = rest h

pub in-filter : (q : ℕ → Bool) (xs : List ℕ) (i : ℕ) → q i ≡ true → is_in xs i ≡ true → is_in (filter q xs) i ≡ true
in-filter q [] i h there = there
in-filter q (x ∷ xs) i h there = filter_step x i (q x) (x == i) (is_in xs i) (filter q xs) refl (λ e. ap q (same x i e) ∙ h) there (in-filter q xs i h)

-- ---- more elements, and fewer

append_step : (bj bi r s : Bool) → cond bj false (cond bi true r) ≡ true → (r ≡ true → s ≡ true) → cond bj false (cond bi true s) ≡ true
append_step true bi r s h f = cc
append_step false true r s h f = refl
append_step false false r s h f = f h

pub stands-append : (xs ys : List ℕ) (i j : ℕ) → stands xs i j ≡ true → stands (xs ++ ys) i j ≡ true
stands-append [] ys i j h = cc
stands-append (x ∷ xs) ys i j h = append_step (x == j) (x == i) (stands xs i j) (stands (xs ++ ys) i j) h (stands-append xs ys i j)

kept_step : (x i j : ℕ) (k bj bi r : Bool) (ys : List ℕ) → (x == j) ≡ bj → (x == i) ≡ bi → (bi ≡ true → k ≡ true) → cond bj false (cond bi true r) ≡ true → (r ≡ true → stands ys i j ≡ true) → stands (cond k (x ∷ ys) ys) i j ≡ true
kept_step x i j k true bi r ys ej ei f h rest = cc
kept_step x i j true false true r ys ej ei f h rest = rw (ej, ei) refl
kept_step x i j false false true r ys ej ei f h rest = let k = f refl in cc
kept_step x i j true false false r ys ej ei f h rest = rw (ej, ei) (rest h)
kept_step x i j false false false r ys ej ei f h rest = rest h

pub stands-filter : (q : ℕ → Bool) (xs : List ℕ) (i j : ℕ) → q i ≡ true → stands xs i j ≡ true → stands (filter q xs) i j ≡ true
stands-filter q [] i j h s = s
stands-filter q (x ∷ xs) i j h s = kept_step x i j (q x) (x == j) (x == i) (stands xs i j) (filter q xs) refl refl (λ e. ap q (same x i e) ∙ h) s (stands-filter q xs i j h)

-- ---- those that a test moves behind the others

skip_step : (x i j : ℕ) (k r : Bool) (zs ys : List ℕ) → (k ≡ true → (x == j) ≡ false) → (k ≡ true → (x == i) ≡ false) → stands (zs ++ ys) i j ≡ r → stands (cond k (x ∷ zs) zs ++ ys) i j ≡ r
skip_step x i j true r zs ys f g rest = rw (f refl, g refl) rest
skip_step x i j false r zs ys f g rest = rest

stands-skip : (p : ℕ → Bool) (xs ys : List ℕ) (i j : ℕ) → p i ≡ true → p j ≡ true → stands (filter (λ x. not (p x)) xs ++ ys) i j ≡ stands ys i j
stands-skip p [] ys i j a b = refl
stands-skip p (x ∷ xs) ys i j a b = skip_step x i j (not (p x)) (stands ys i j) (filter (λ y. not (p y)) xs) ys (λ k. apart p x j (not_true (p x) k) b) (λ k. apart p x i (not_true (p x) k) a) (stands-skip p xs ys i j a b)

new_step : (x i j : ℕ) (k bi r : Bool) (zs ys : List ℕ) → (x == i) ≡ bi → (bi ≡ true → k ≡ true) → (k ≡ true → (x == j) ≡ false) → (bi || r) ≡ true → (r ≡ true → stands (zs ++ ys) i j ≡ true) → stands (cond k (x ∷ zs) zs ++ ys) i j ≡ true
new_step x i j true true r zs ys e f g h rest = rw (g refl, e) refl
new_step x i j false true r zs ys e f g h rest = let k = f refl in cc
new_step x i j true false r zs ys e f g h rest = rw (g refl, e) (rest h)
new_step x i j false false r zs ys e f g h rest = rest h

stands-new : (p : ℕ → Bool) (xs ys : List ℕ) (i j : ℕ) → p i ≡ false → p j ≡ true → is_in xs i ≡ true → stands (filter (λ x. not (p x)) xs ++ ys) i j ≡ true
stands-new p [] ys i j a b there = cc
stands-new p (x ∷ xs) ys i j a b there = new_step x i j (not (p x)) (x == i) (is_in xs i) (filter (λ y. not (p y)) xs) ys refl (λ e. not_false (p x) (ap p (same x i e) ∙ a)) (λ k. apart p x j (not_true (p x) k) b) there (stands-new p xs ys i j a b)

moved_cases : (p : ℕ → Bool) (xs : List ℕ) (i j : ℕ) (a b : Bool) → p i ≡ a → p j ≡ b → stands xs i j ≡ true → (a ≡ true → b ≡ true) → stands (moved p xs) i j ≡ true
moved_cases p xs i j true true pi pj s f = stands-skip p xs (filter p xs) i j pi pj ∙ stands-filter p xs i j pi s
moved_cases p xs i j true false pi pj s f = let k = f refl in cc
moved_cases p xs i j false true pi pj s f = stands-new p xs (filter p xs) i j pi pj (stands-in xs i j s)
moved_cases p xs i j false false pi pj s f = stands-append (filter (λ x. not (p x)) xs) (filter p xs) i j (stands-filter (λ x. not (p x)) xs i j (not_false (p i) pi) s)

-- the order stays where the test holds of what comes after what it holds of
pub stands-moved : (p : ℕ → Bool) (xs : List ℕ) (i j : ℕ) → stands xs i j ≡ true → (p i ≡ true → p j ≡ true) → stands (moved p xs) i j ≡ true
stands-moved p xs i j s f = moved_cases p xs i j (p i) (p j) refl refl s f

pub stands-moved_new : (p : ℕ → Bool) (xs : List ℕ) (i j : ℕ) → p i ≡ false → p j ≡ true → is_in xs i ≡ true → stands (moved p xs) i j ≡ true
stands-moved_new p xs i j a b there = stands-new p xs (filter p xs) i j a b there

in_moved_cases : (p : ℕ → Bool) (xs : List ℕ) (i : ℕ) (a : Bool) → p i ≡ a → is_in xs i ≡ true → is_in (moved p xs) i ≡ true
in_moved_cases p xs i true e there = in-append_right (filter (λ x. not (p x)) xs) (filter p xs) i (in-filter p xs i e there)
in_moved_cases p xs i false e there = in-append_left (filter (λ x. not (p x)) xs) (filter p xs) i (in-filter (λ x. not (p x)) xs i (not_false (p i) e) there)

pub in-moved : (p : ℕ → Bool) (xs : List ℕ) (i : ℕ) → is_in xs i ≡ true → is_in (moved p xs) i ≡ true
in-moved p xs i there = in_moved_cases p xs i (p i) refl there
