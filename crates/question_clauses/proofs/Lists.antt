-- Lists of numbers and of names: what they hold, what tests and filters find, what stands at a place, and pairs of elements.
use Rattle.std.proofs.Common.{◌≡◌, ℕ, zero, suc, ◌∙◌, ◌<◌, Bool, true, false, List, [], ◌∷◌, Some, refl, ap, arith, Contains, map, filter, find, unwrap_or, slice_get, not, ◌||◌, lit<, ◌++◌, ◌≢◌, ◌+◌, ◌≤◌, sym, subst, cond, inl, inr, ◌⊎◌, ◌==◌, flat_map, length}
use Rattle.std.proofs.lemmas.Bool.{eqb-true, eqb-false, eq-eqb, cases_lt}
use Rattle.std.proofs.lemmas.List.Elements.{All-contains, All-contains_itself, All-filter, filter_passes}
use Rattle.std.proofs.lemmas.List.FromFn.{length-range_with_len, get_or-range_with_len}
use Rattle.std.specs.List.{AllByRecursion, list_any, range_with_len}
use Rattle.des_base.proofs.BoolLemmas.{otherwise, clash}
use Rattle.des_base.proofs.Elements.{cons_cases, here_first, here_later, none_in_nil, all_from, pairs_append, flat_from, map_from}
use Rattle.des_base.specs.Lists.{numbers_below, EachPair}
use Rattle.prop_core.specs.NamedClauses.{named_true}
use Rattle.prop_core.specs.VariableNames.{Meaning, yes}
use Rattle.log_order.specs.Log.{place_in}

pub in_numbers : (m e : ℕ) → e < m → Contains (numbers_below m) e
in_numbers m e h = (e, omega (arith, length-range_with_len 0 m), omega (arith, get_or-range_with_len 0 m e e h))

pub from_numbers : (m e : ℕ) → Contains (numbers_below m) e → e < m
from_numbers m e (k, below, is) =
    let inside : k < m = omega (arith, length-range_with_len 0 m) in
    omega (arith, is, get_or-range_with_len 0 m k e inside)

pub in_filter : (p : ℕ → Bool) (xs : List ℕ) (x : ℕ) → Contains xs x → p x ≡ true → Contains (filter p xs) x
in_filter p [] x (k, below, is) h = absurd (omega arith)
in_filter p (y ∷ xs) x (zero, below, is) h = let passes : p y ≡ true = ap p is ∙ h in rw passes (0, omega arith, is)
in_filter p (y ∷ xs) x (suc k, below, is) h = by (p y) refl (in_filter p xs x (k, omega arith, is) h)
  where
    by : (b : Bool) → p y ≡ b → Contains (filter p xs) x → Contains (filter p (y ∷ xs)) x
    by true e rest = rw e (suc rest.0, omega (arith, rest.1), rest.2)
    by false e rest = rw e rest

pub from_filter : (p : ℕ → Bool) (xs : List ℕ) (x : ℕ) → Contains (filter p xs) x → Contains xs x × (p x ≡ true)
from_filter p xs x here = (
  All-contains (Contains xs) (filter p xs) x (All-filter p (Contains xs) xs (All-contains_itself xs)) here,
  All-contains (λ y. p y ≡ true) (filter p xs) x (filter_passes p xs) here,
)

-- the first that passes
pub first_passes : (p : ℕ → Bool) (xs : List ℕ) → list_any p xs ≡ true → Contains xs (unwrap_or (find p xs) 0) × (p (unwrap_or (find p xs) 0) ≡ true)
first_passes p [] h = cc
first_passes p (x ∷ xs) h = by (p x) refl (first_passes p xs)
  where
    by : (b : Bool) → p x ≡ b → (list_any p xs ≡ true → Contains xs (unwrap_or (find p xs) 0) × (p (unwrap_or (find p xs) 0) ≡ true)) →
        Contains (x ∷ xs) (unwrap_or (find p (x ∷ xs)) 0) × (p (unwrap_or (find p (x ∷ xs)) 0) ≡ true)
    by true e later = rw e ((0, omega arith, refl), e)
    by false e later = let rest = later (rw e at h) in rw e ((suc rest.0.0, omega (arith, rest.0.1), rest.0.2), rest.1)

-- where none passes, each fails
pub each_fails : (p : ℕ → Bool) (xs : List ℕ) → list_any p xs ≡ false → AllByRecursion (λ x. p x ≡ false) xs
each_fails p [] h = tt
each_fails p (x ∷ xs) h = by (p x) refl (each_fails p xs)
  where
    by : (b : Bool) → p x ≡ b → (list_any p xs ≡ false → AllByRecursion (λ y. p y ≡ false) xs) → AllByRecursion (λ y. p y ≡ false) (x ∷ xs)
    by true e later = cc (rw e at h)
    by false e later = (e, later (rw e at h))

-- a literal that is true among names
pub any_named : (value : Meaning → Bool) (meaning : ℕ → Meaning) (xs : List ℕ) → list_any (named_true value) (map (λ y. yes (meaning y)) xs) ≡ list_any (λ y. value (meaning y)) xs
any_named value meaning [] = refl
any_named value meaning (x ∷ xs) = ap (λ b. value (meaning x) || b) (any_named value meaning xs)

pub from_premises : (a b d : Bool) → not a || (not b || d) ≡ true → a ≡ true → b ≡ true → d ≡ true
from_premises true true d h e f = h
from_premises true false d h e f = cc
from_premises false b d h e f = cc

pub only : (q m : ℕ) → Contains (q ∷ []) m → q ≡ m
only q m (zero, below, here) = here
only q m (suc k, below, here) = absurd (omega arith)

pub itself : (q : ℕ) → Contains (q ∷ []) q
itself q = (0, lit< tt, refl)

pub get_more : {X : Type 0} (xs ys : List X) (k : ℕ) (x : X) → slice_get xs k ≡ Some x → slice_get (xs ++ ys) k ≡ Some x
get_more [] ys k x h = cc
get_more (y ∷ xs) ys zero x h = h
get_more (y ∷ xs) ys (suc k) x h = get_more xs ys k x h

pub get_past : {X : Type 0} (xs ys : List X) (k : ℕ) → slice_get (xs ++ ys) (length xs + k) ≡ slice_get ys k
get_past [] ys k = let same : 0 + k ≡ k = omega arith in ap (slice_get ys) same
get_past (x ∷ xs) ys k = let same : suc (length xs) + k ≡ suc (length xs + k) = omega arith in ap (slice_get (x ∷ (xs ++ ys))) same ∙ get_past xs ys k

-- what stands at a place of the images
pub unmapped_at : {X Y : Type 0} (f : X → Y) (xs : List X) (k : ℕ) (y : Y) → slice_get (map f xs) k ≡ Some y → (x : X) × (slice_get xs k ≡ Some x) × (f x ≡ y)
unmapped_at f [] k y at = cc
unmapped_at f (x ∷ xs) zero y at = let same : f x ≡ y = cc in (x, refl, same)
unmapped_at f (x ∷ xs) (suc k) y at = unmapped_at f xs k y at

pub range_has : (a m x : ℕ) → a ≤ x → x < a + m → Contains (range_with_len a m) x
range_has a zero x low high = absurd (omega arith)
range_has a (suc m) x low high = by (cases_lt a x) (range_has (a + 1) m x)
  where
    by : (a < x) ⊎ (x ≤ a) → (a + 1 ≤ x → x < (a + 1) + m → Contains (range_with_len (a + 1) m) x) → Contains (range_with_len a (suc m)) x
    by (inl h) later = here_later a (range_with_len (a + 1) m) x (later (omega arith) (omega arith))
    by (inr h) later = let is : a ≡ x = omega arith in here_first a (range_with_len (a + 1) m) x is

pub range_from : (a m x : ℕ) → Contains (range_with_len a m) x → (a ≤ x) × (x < a + m)
range_from a zero x h = absurd (none_in_nil x h)
range_from a (suc m) x h = by (cons_cases a (range_with_len (a + 1) m) x h) (range_from (a + 1) m x)
  where
    by : (a ≡ x) ⊎ Contains (range_with_len (a + 1) m) x → (Contains (range_with_len (a + 1) m) x → (a + 1 ≤ x) × (x < (a + 1) + m)) → (a ≤ x) × (x < a + suc m)
    by (inl is) later = (omega arith, omega arith)
    by (inr rest) later = let found = later rest in (omega (arith, found.0), omega (arith, found.1))

pub all_at : {X : Type 0} (P : X → Type 0) (xs : List X) → AllByRecursion P xs → (x : X) → Contains xs x → P x
all_at P [] all x in' = absurd (none_in_nil x in')
all_at P (y ∷ xs) all x in' = by (cons_cases y xs x in') (all_at P xs all.1 x)
  where
    by : (y ≡ x) ⊎ Contains xs x → (Contains xs x → P x) → P x
    by (inl is) later = subst P is all.0
    by (inr rest) later = later rest

pub found_is : {X : Type 0} (p : X → Bool) (xs : List X) (x : X) → find p xs ≡ Some x → (p x ≡ true) × Contains xs x
found_is p [] x h = cc
found_is p (y ∷ xs) x h = by (p y) refl h (found_is p xs x)
  where
    by : (b : Bool) → p y ≡ b → cond b (Some y) (find p xs) ≡ Some x → (find p xs ≡ Some x → (p x ≡ true) × Contains xs x) → (p x ≡ true) × Contains (y ∷ xs) x
    by true e is later = let same : y ≡ x = cc in (ap p (sym same) ∙ e, here_first y xs x same)
    by false e is later = let rest = later is in (rest.0, here_later y xs x rest.1)

pub finds : {X : Type 0} (p : X → Bool) (xs : List X) (x : X) → Contains xs x → p x ≡ true → (y : X) × (find p xs ≡ Some y)
finds p [] x in' h = absurd (none_in_nil x in')
finds p (y ∷ xs) x in' h = by (p y) refl (cons_cases y xs x in') (λ rest. finds p xs x rest h)
  where
    by : (b : Bool) → p y ≡ b → (y ≡ x) ⊎ Contains xs x → (Contains xs x → (z : _) × (find p xs ≡ Some z)) → (z : _) × (cond b (Some y) (find p xs) ≡ Some z)
    by true e which later = (y, refl)
    by false e (inl is) later = clash (p x) h (ap p (sym is) ∙ e)
    by false e (inr rest) later = later rest

-- the numbers before the other in a list without a repeated number
pub is_before : (R : ℕ → ℕ → Type 0) (xs : List ℕ) (i j : ℕ) → EachPair R xs → Contains xs i → Contains xs j → i ≢ j → (R j i → ⊥) → place_in xs i < place_in xs j
is_before R [] i j each in' in2 differ h = absurd (none_in_nil i in')
is_before R (x ∷ xs) i j each in' in2 differ h = by (x == i) refl (x == j) refl (is_before R xs i j each.1)
  where
    tail : (k : ℕ) → Contains (x ∷ xs) k → (x == k) ≡ false → Contains xs k
    tail k there e = at (cons_cases x xs k there)
      where
        at : (x ≡ k) ⊎ Contains xs k → Contains xs k
        at (inl is) = absurd (eqb-false x k e is)
        at (inr rest) = rest

    by : (a : Bool) → (x == i) ≡ a → (b : Bool) → (x == j) ≡ b → (Contains xs i → Contains xs j → i ≢ j → (R j i → ⊥) → place_in xs i < place_in xs j) → place_in (x ∷ xs) i < place_in (x ∷ xs) j
    by true e true f later = absurd (differ (sym (eqb-true x i e) ∙ eqb-true x j f))
    by true e false f later = rw (e, f) (omega arith)
    by false e true f later =
        let is = eqb-true x j f in
        absurd (h (subst (λ y. R y i) is (all_at (R x) xs each.0 i (tail i in' e))))
    by false e false f later = let rest = later (tail i in' e) (tail j in2 f) differ h in rw (e, f) (omega (arith, rest))

-- and the other way round: what the places say of each two elements of the list
pub from_places : (Q : ℕ → ℕ → Type 0) (xs : List ℕ) → EachPair (λ a b. a ≢ b) xs →
    ((a b : ℕ) → Contains xs a → Contains xs b → Q b a → place_in xs b < place_in xs a) → EachPair (λ a b. (a ≢ b) × (Q b a → ⊥)) xs
from_places Q [] once h = tt
from_places Q (x ∷ xs) once h = (all_from (λ b. (x ≢ b) × (Q b x → ⊥)) xs first, from_places Q xs once.1 later)
  where
    at_head : place_in (x ∷ xs) x ≡ 0
    at_head = rw (eq-eqb x x refl) refl

    other : (b : ℕ) → Contains xs b → (x == b) ≡ false
    other b in' = otherwise (x == b) (λ e. all_at (λ c. x ≢ c) xs once.0 b in' (eqb-true x b e))

    first : (b : ℕ) → Contains xs b → (x ≢ b) × (Q b x → ⊥)
    first b in' = (all_at (λ c. x ≢ c) xs once.0 b in', λ q. let less = h x b (here_first x xs x refl) (here_later x xs b in') q in omega (arith, less, at_head))

    later : (a b : ℕ) → Contains xs a → Contains xs b → Q b a → place_in xs b < place_in xs a
    later a b in' in2 q =
        let less = h a b (here_later x xs a in') (here_later x xs b in2) q in
        let first' = other a in' in
        let second = other b in2 in
        let less' = rw (first', second) at less in
        omega (arith, less')

-- lists in a row, each without a repeated element, that have no element in common
pub pairs_flat : {Y : Type 0} (f : ℕ → List Y) (xs : List ℕ) → EachPair (λ a b. a ≢ b) xs → ((x : ℕ) → EachPair (λ a b. a ≢ b) (f x)) →
    ((x y : ℕ) (a : Y) → Contains (f x) a → Contains (f y) a → x ≡ y) → EachPair (λ a b. a ≢ b) (flat_map f xs)
pairs_flat f [] once each apart = tt
pairs_flat f (x ∷ xs) once each apart =
    pairs_append (λ a b. a ≢ b) (f x) (flat_map f xs) (each x) (pairs_flat f xs once.1 each apart) (λ a b in' in2 same.
    let found = flat_from f xs b in2 in
    all_at (λ y. x ≢ y) xs once.0 found.0 found.1 (apart x found.0 b (subst (λ c. Contains (f x) c) same in') found.2))

pub pairs_map : {Y : Type 0} (f : ℕ → Y) (xs : List ℕ) → EachPair (λ a b. a ≢ b) xs → ((x y : ℕ) → f x ≡ f y → x ≡ y) → EachPair (λ a b. a ≢ b) (map f xs)
pairs_map f [] once apart = tt
pairs_map f (x ∷ xs) once apart =
    (all_from (λ b. f x ≢ b) (map f xs) (λ b in' same. let found = map_from f xs b in' in all_at (λ y. x ≢ y) xs once.0 found.0 found.1 (apart x found.0 (same ∙ sym found.2))), pairs_map f xs once.1 apart)
