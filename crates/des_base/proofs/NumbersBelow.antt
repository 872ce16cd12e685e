-- The numbers below a bound, one number further.
use Rattle.std.proofs.Common.{◌≡◌, ◌≢◌, ◌∙◌, ℕ, zero, suc, ◌+◌, ◌<◌, Bool, true, false, List, [], ◌∷◌, ◌++◌, map, filter, flat_map, refl, ap, subst, arith, append-nil, Some, slice_get}
use Rattle.std.specs.Prelude.{sum_by}
use Rattle.std.specs.List.{AllByRecursion, range_with_len}
use Rattle.std.proofs.lemmas.List.{map-append}
use Rattle.std.proofs.lemmas.Grind.{flat_map-append}
use Rattle.std.proofs.lemmas.List.Sums.{sum_by-append}
use Rattle.des_base.specs.Lists.{EachPair, numbers_below}

pub range_more : (a n b : ℕ) → a + n ≡ b → range_with_len a (suc n) ≡ range_with_len a n ++ b ∷ []
range_more a zero b h = let same : a ≡ b = omega (arith, h) in ap (λ x. x ∷ []) same
range_more a (suc n) b h = ap (λ xs. a ∷ xs) (range_more (a + 1) n b (omega (arith, h)))

pub numbers_more : (n : ℕ) → numbers_below (n + 1) ≡ numbers_below n ++ n ∷ []
numbers_more n =
    let next : suc n ≡ n + 1 = omega arith in
    let zero_first : 0 + n ≡ n = omega arith in
    subst (λ k. numbers_below k ≡ numbers_below n ++ n ∷ []) next (range_more 0 n n zero_first)

pub sum_numbers_more : (f : ℕ → ℕ) (n : ℕ) → sum_by f (numbers_below (n + 1)) ≡ sum_by f (numbers_below n) + f n
sum_numbers_more f n = ap (sum_by f) (numbers_more n) ∙ sum_by-append f (numbers_below n) (n ∷ []) ∙ omega arith

pub map_numbers_more : {X : Type 0} (f : ℕ → X) (n : ℕ) → map f (numbers_below (n + 1)) ≡ map f (numbers_below n) ++ f n ∷ []
map_numbers_more f n = ap (map f) (numbers_more n) ∙ map-append f (numbers_below n) (n ∷ [])

pub flat_numbers_more : {X : Type 0} (f : ℕ → List X) (n : ℕ) → flat_map f (numbers_below (n + 1)) ≡ flat_map f (numbers_below n) ++ f n
flat_numbers_more f n = ap (flat_map f) (numbers_more n) ∙ flat_map-append f (numbers_below n) (n ∷ []) ∙ ap (λ xs. flat_map f (numbers_below n) ++ xs) (append-nil (f n))

filter_push : (p : ℕ → Bool) (xs : List ℕ) (x : ℕ) → filter p (xs ++ x ∷ []) ≡ filter p xs ++ filter p (x ∷ [])
filter_push p [] x = refl
filter_push p (y ∷ xs) x = by (p y) refl (filter_push p xs x)
  where
    by : (b : Bool) → p y ≡ b → filter p (xs ++ x ∷ []) ≡ filter p xs ++ filter p (x ∷ []) → filter p ((y ∷ xs) ++ x ∷ []) ≡ filter p (y ∷ xs) ++ filter p (x ∷ [])
    by true e rest = rw e (ap (λ ys. y ∷ ys) rest)
    by false e rest = rw e rest

-- what stands at a place of what is made of numbers in a row
pub range_there : {X : Type 0} (f : ℕ → X) (a n k : ℕ) → k < n → slice_get (map f (range_with_len a n)) k ≡ Some (f (a + k))
range_there f a zero k h = absurd (omega arith)
range_there f a (suc n) zero h = let same : a ≡ a + 0 = omega arith in ap (λ b. Some (f b)) same
range_there f a (suc n) (suc k) h = let same : a + 1 + k ≡ a + suc k = omega arith in range_there f (a + 1) n k (omega arith) ∙ ap (λ b. Some (f b)) same

-- the next number passes the test, or doesn't
pub filter_numbers_yes : (p : ℕ → Bool) (n : ℕ) → p n ≡ true → filter p (numbers_below (n + 1)) ≡ filter p (numbers_below n) ++ n ∷ []
filter_numbers_yes p n h =
    let single : filter p (n ∷ []) ≡ n ∷ [] = rw h refl in
    ap (filter p) (numbers_more n) ∙ filter_push p (numbers_below n) n ∙ ap (λ xs. filter p (numbers_below n) ++ xs) single

pub filter_numbers_no : (p : ℕ → Bool) (n : ℕ) → p n ≡ false → filter p (numbers_below (n + 1)) ≡ filter p (numbers_below n)
filter_numbers_no p n h =
    let none : filter p (n ∷ []) ≡ [] = rw h refl in
    ap (filter p) (numbers_more n) ∙ filter_push p (numbers_below n) n ∙ ap (λ xs. filter p (numbers_below n) ++ xs) none ∙ append-nil (filter p (numbers_below n))

-- no number stands twice
pub range_once : (a n : ℕ) → EachPair (λ e f. e ≢ f) (range_with_len a n)
range_once a zero = tt
range_once a (suc n) = (all_above a n (a + 1) (omega arith), range_once (a + 1) n)
  where
    all_above : (x m b : ℕ) → x < b → AllByRecursion (λ y. x ≢ y) (range_with_len b m)
    all_above x zero b h = tt
    all_above x (suc m) b h = (λ same. omega arith, all_above x m (b + 1) (omega arith))
