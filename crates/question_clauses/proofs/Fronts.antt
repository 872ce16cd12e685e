-- Tests over lists, fronts of a list, and lists in a row.
use Rattle.std.proofs.Common.{◌≡◌, ◌≢◌, ℕ, zero, suc, ◌<◌, Bool, true, false, List, [], ◌∷◌, ◌++◌, ◌∙◌, length, Some, refl, sym, ap, arith, Contains, slice_get, inl, inr, ◌⊎◌, ◌==◌, take, drop, get_or}
use Rattle.std.proofs.lemmas.Bool.{eqb-true, eqb-false}
use Rattle.des_base.proofs.Elements.{cons_cases, here_first, here_later, none_in_nil, contains_at, all_from}
use Rattle.des_base.specs.Lists.{EachPair}
use Rattle.des_net.specs.Width.{joined}
use Rattle.question_clauses.proofs.Lists.{all_at}
use Rattle.log_order.specs.Log.{place_in}
use Rattle.std.proofs.lemmas.List.Elements.{Contains-append_left, Contains-append_right}

-- fronts of a list
pub take_has : {X : Type 0} (xs : List X) (j k : ℕ) (x : X) → slice_get xs j ≡ Some x → j < k → Contains (take k xs) x
take_has [] j k x h less = cc
take_has (y ∷ xs) j zero x h less = absurd (omega arith)
take_has (y ∷ xs) zero (suc k) x h less = let is : y ≡ x = cc in here_first y (take k xs) x is
take_has (y ∷ xs) (suc j) (suc k) x h less = here_later y (take k xs) x (take_has xs j k x h (omega arith))

pub take_grows : {X : Type 0} (xs : List X) (k : ℕ) (x : X) → Contains (take k xs) x → Contains (take (suc k) xs) x
take_grows [] zero x in' = absurd (none_in_nil x in')
take_grows [] (suc k) x in' = in'
take_grows (y ∷ xs) zero x in' = absurd (none_in_nil x in')
take_grows (y ∷ xs) (suc k) x in' = by (cons_cases y (take k xs) x in') (take_grows xs k x)
  where
    by : (y ≡ x) ⊎ Contains (take k xs) x → (Contains (take k xs) x → Contains (take (suc k) xs) x) → Contains (y ∷ take (suc k) xs) x
    by (inl is) later = here_first y (take (suc k) xs) x is
    by (inr rest) later = here_later y (take (suc k) xs) x (later rest)

pub take_last : {X : Type 0} (xs : List X) (k : ℕ) (x y : X) → slice_get xs k ≡ Some y → Contains (take (suc k) xs) x → Contains (take k xs) x ⊎ (y ≡ x)
take_last [] k x y h in' = cc
take_last (z ∷ xs) zero x y h in' = by (cons_cases z (take 0 xs) x in')
  where
    by : (z ≡ x) ⊎ Contains (take 0 xs) x → Contains (take 0 (z ∷ xs)) x ⊎ (y ≡ x)
    by (inl is) = let same : z ≡ y = cc in inr (sym same ∙ is)
    by (inr rest) = absurd (none_in_nil x rest)
take_last (z ∷ xs) (suc k) x y h in' = by (cons_cases z (take (suc k) xs) x in') (take_last xs k x y h)
  where
    by : (z ≡ x) ⊎ Contains (take (suc k) xs) x → (Contains (take (suc k) xs) x → Contains (take k xs) x ⊎ (y ≡ x)) → Contains (z ∷ take k xs) x ⊎ (y ≡ x)
    by (inl is) later = inl (here_first z (take k xs) x is)
    by (inr rest) later = at (later rest)
      where
        at : Contains (take k xs) x ⊎ (y ≡ x) → Contains (z ∷ take k xs) x ⊎ (y ≡ x)
        at (inl a) = inl (here_later z (take k xs) x a)
        at (inr b) = inr b

pub take_not : {X : Type 0} (xs : List X) (k : ℕ) (y : X) → EachPair (λ a b. a ≢ b) xs → slice_get xs k ≡ Some y → Contains (take k xs) y → ⊥
take_not [] k y once h in' = cc
take_not (z ∷ xs) zero y once h in' = none_in_nil y in'
take_not (z ∷ xs) (suc k) y once h in' = by (cons_cases z (take k xs) y in') (take_not xs k y once.1 h)
  where
    by : (z ≡ y) ⊎ Contains (take k xs) y → (Contains (take k xs) y → ⊥) → ⊥
    by (inl is) later = all_at (λ b. z ≢ b) xs once.0 y (contains_at xs k y h) is
    by (inr rest) later = later rest

-- lists in a row
pub apart_append : (xs ys : List ℕ) (a : ℕ) → EachPair (λ x y. x ≢ y) (xs ++ ys) → Contains xs a → Contains ys a → ⊥
apart_append [] ys a once in' in2 = none_in_nil a in'
apart_append (x ∷ xs) ys a once in' in2 = by (cons_cases x xs a in') (λ rest. apart_append xs ys a once.1 rest in2)
  where
    by : (x ≡ a) ⊎ Contains xs a → (Contains xs a → ⊥) → ⊥
    by (inl is) later = all_at (λ b. x ≢ b) (xs ++ ys) once.0 a (Contains-append_right xs ys a in2) is
    by (inr rest) later = later rest

pub once_left : (xs ys : List ℕ) → EachPair (λ x y. x ≢ y) (xs ++ ys) → EachPair (λ x y. x ≢ y) xs
once_left [] ys once = tt
once_left (x ∷ xs) ys once = (all_from (λ b. x ≢ b) xs (λ y in'. all_at (λ b. x ≢ b) (xs ++ ys) once.0 y (Contains-append_left xs ys y in')), once_left xs ys once.1)

pub once_right : (xs ys : List ℕ) → EachPair (λ x y. x ≢ y) (xs ++ ys) → EachPair (λ x y. x ≢ y) ys
once_right [] ys once = once
once_right (x ∷ xs) ys once = once_right xs ys once.1

pub block_once : (blocks : List (List ℕ)) (t : ℕ) → EachPair (λ x y. x ≢ y) (joined blocks) → EachPair (λ x y. x ≢ y) (get_or blocks t [])
block_once [] t once = tt
block_once (block ∷ blocks) zero once = once_left block (joined blocks) once
block_once (block ∷ blocks) (suc t) once = block_once blocks t (once_right block (joined blocks) once)

pub appends : (xs ys zs : List ℕ) → xs ++ (ys ++ zs) ≡ (xs ++ ys) ++ zs
appends [] ys zs = refl
appends (x ∷ xs) ys zs = ap (λ rest. x ∷ rest) (appends xs ys zs)

pub next_front : (blocks : List (List ℕ)) (t : ℕ) → t < length blocks → joined (take (suc t) blocks) ≡ joined (take t blocks) ++ get_or blocks t []
next_front [] t h = absurd (omega arith)
next_front (block ∷ blocks) zero h = nil block
  where
    nil : (xs : List ℕ) → xs ++ [] ≡ xs
    nil [] = refl
    nil (x ∷ xs) = ap (λ rest. x ∷ rest) (nil xs)
next_front (block ∷ blocks) (suc t) h = ap (λ rest. block ++ rest) (next_front blocks t (omega arith)) ∙ appends block (joined (take t blocks)) (get_or blocks t [])

pub front_and_rest : (blocks : List (List ℕ)) (t : ℕ) → joined blocks ≡ joined (take t blocks) ++ joined (drop t blocks)
front_and_rest blocks zero = refl
front_and_rest [] (suc t) = refl
front_and_rest (block ∷ blocks) (suc t) = ap (λ rest. block ++ rest) (front_and_rest blocks t) ∙ appends block (joined (take t blocks)) (joined (drop t blocks))

pub place_inside : (xs ys : List ℕ) (i : ℕ) → Contains xs i → place_in (xs ++ ys) i < length xs
place_inside [] ys i in' = absurd (none_in_nil i in')
place_inside (x ∷ xs) ys i in' = by (x == i) refl (cons_cases x xs i in') (place_inside xs ys i)
  where
    by : (b : Bool) → (x == i) ≡ b → (x ≡ i) ⊎ Contains xs i → (Contains xs i → place_in (xs ++ ys) i < length xs) → place_in (x ∷ (xs ++ ys)) i < suc (length xs)
    by true e which later = rw e (omega arith)
    by false e (inl is) later = absurd (eqb-false x i e is)
    by false e (inr rest) later = let less = later rest in rw e (omega (arith, less))

pub inside_place : (xs ys : List ℕ) (i : ℕ) → place_in (xs ++ ys) i < length xs → Contains xs i
inside_place [] ys i less = absurd (omega arith)
inside_place (x ∷ xs) ys i less = by (x == i) refl (inside_place xs ys i)
  where
    by : (b : Bool) → (x == i) ≡ b → (place_in (xs ++ ys) i < length xs → Contains xs i) → Contains (x ∷ xs) i
    by true e later = here_first x xs i (eqb-true x i e)
    by false e later = let less' = rw e at less in here_later x xs i (later (omega (arith, less')))
