-- What a list has: elements by their places, what holds of each, lists that are made of others, and what a test finds.
use Rattle.std.proofs.Common.{◌≡◌, ℕ, zero, suc, ◌+◌, ◌<◌, Bool, true, false, ◌||◌, ◌∙◌, List, [], ◌∷◌, ◌++◌, length, take, map, flat_map, filter, filter_map, cond, Option, Some, None, inl, inr, ◌⊎◌, refl, sym, ap, subst, arith, Contains, slice_get}
use Rattle.std.specs.List.{AllByRecursion, AllZip, list_all, list_any, cons_option}
use Rattle.std.proofs.lemmas.List.Elements.{Contains-append_left, Contains-append_right, Contains-append_cases}
use Rattle.des_base.proofs.BoolLemmas.{both, join, either, or_left, or_right, clash}
use Rattle.des_base.specs.Lists.{EachPair}

-- ---- elements by their places

-- an element is the first or a later one
pub cons_cases : {X : Type 0} (y : X) (xs : List X) (x : X) → Contains (y ∷ xs) x → (y ≡ x) ⊎ Contains xs x
cons_cases y xs x (zero, below, is) = inl is
cons_cases y xs x (suc k, below, is) = inr (k, omega arith, is)

pub here_first : {X : Type 0} (y : X) (xs : List X) (x : X) → y ≡ x → Contains (y ∷ xs) x
here_first y xs x is = (0, omega arith, is)

pub here_later : {X : Type 0} (y : X) (xs : List X) (x : X) → Contains xs x → Contains (y ∷ xs) x
here_later y xs x (k, below, is) = (suc k, omega arith, is)

pub none_in_nil : {X : Type 0} (x : X) → Contains [] x → ⊥
none_in_nil x (k, below, is) = omega arith

pub some_at : {X : Type 0} (xs : List X) (k : ℕ) → k < length xs → (x : X) × (slice_get xs k ≡ Some x)
some_at [] k h = absurd (omega arith)
some_at (x ∷ xs) zero h = (x, refl)
some_at (x ∷ xs) (suc k) h = some_at xs k (omega arith)

pub contains_at : {X : Type 0} (xs : List X) (k : ℕ) (x : X) → slice_get xs k ≡ Some x → Contains xs x
contains_at [] k x h = cc
contains_at (y ∷ xs) zero x h = (0, omega arith, cc)
contains_at (y ∷ xs) (suc k) x h = let rest = contains_at xs k x h in (suc rest.0, omega (arith, rest.1), rest.2)

pub at_place : {X : Type 0} (xs : List X) (x : X) → Contains xs x → (k : ℕ) × (slice_get xs k ≡ Some x)
at_place [] x (k, below, is) = absurd (omega arith)
at_place (y ∷ xs) x (zero, below, is) = (0, ap (λ z. Some z) is)
at_place (y ∷ xs) x (suc k, below, is) = let rest = at_place xs x (k, omega arith, is) in (suc rest.0, rest.1)

-- an element of a list with one more is there already, or is the last
pub at_push : {X : Type 0} (xs : List X) (x : X) (k : ℕ) (y : X) → slice_get (xs ++ x ∷ []) k ≡ Some y → (slice_get xs k ≡ Some y) ⊎ ((k ≡ length xs) × (x ≡ y))
at_push [] x zero y h = inr (refl, cc)
at_push [] x (suc k) y h = cc
at_push (z ∷ xs) x zero y h = inl h
at_push (z ∷ xs) x (suc k) y h = by (at_push xs x k y h)
  where
    by : (slice_get xs k ≡ Some y) ⊎ ((k ≡ length xs) × (x ≡ y)) → (slice_get xs k ≡ Some y) ⊎ ((suc k ≡ suc (length xs)) × (x ≡ y))
    by (inl front) = inl front
    by (inr last) = inr (ap suc last.0, last.1)

-- ---- what holds of each

pub all_append : {X : Type 0} (P : X → Type 0) (xs ys : List X) → AllByRecursion P xs → AllByRecursion P ys → AllByRecursion P (xs ++ ys)
all_append P [] ys h k = k
all_append P (x ∷ xs) ys h k = (h.0, all_append P xs ys h.1 k)

pub all_split : {X : Type 0} (P : X → Type 0) (xs ys : List X) → AllByRecursion P (xs ++ ys) → AllByRecursion P xs × AllByRecursion P ys
all_split P [] ys all = (tt, all)
all_split P (x ∷ xs) ys all = let rest = all_split P xs ys all.1 in ((all.0, rest.0), rest.1)

pub all_push : {X : Type 0} (P : X → Type 0) (xs : List X) (x : X) → AllByRecursion P xs → P x → AllByRecursion P (xs ++ x ∷ [])
all_push P [] x all last = (last, tt)
all_push P (y ∷ xs) x all last = (all.0, all_push P xs x all.1 last)

pub all_change : {X : Type 0} (P Q : X → Type 0) (xs : List X) → ((x : X) → P x → Q x) → AllByRecursion P xs → AllByRecursion Q xs
all_change P Q [] to all = tt
all_change P Q (x ∷ xs) to all = (to x all.0, all_change P Q xs to all.1)

pub all_from : {X : Type 0} (P : X → Type 0) (xs : List X) → ((x : X) → Contains xs x → P x) → AllByRecursion P xs
all_from P [] f = tt
all_from P (x ∷ xs) f = (f x (0, omega arith, refl), all_from P xs (λ y here. f y (suc here.0, omega (arith, here.1), here.2)))

pub all_at : {X : Type 0} (P : X → Type 0) (xs : List X) (x : X) → AllByRecursion P xs → Contains xs x → P x
all_at P [] x all (k, below, is) = absurd (omega arith)
all_at P (y ∷ xs) x all (zero, below, is) = subst P is all.0
all_at P (y ∷ xs) x all (suc k, below, is) = all_at P xs x all.1 (k, omega arith, is)

pub pair_at : {X : Type 0} (R : X → X → Type 0) (xs : List X) (i j : ℕ) (x y : X) → EachPair R xs → i < j → slice_get xs i ≡ Some x → slice_get xs j ≡ Some y → R x y
pair_at R [] i j x y pairs less at_i at_j = cc
pair_at R (z ∷ xs) i zero x y pairs less at_i at_j = absurd (omega arith)
pair_at R (z ∷ xs) zero (suc j) x y pairs less at_i at_j = let same : z ≡ x = cc in subst (λ w. R w y) same (all_at (R z) xs y pairs.0 (contains_at xs j y at_j))
pair_at R (z ∷ xs) (suc i) (suc j) x y pairs less at_i at_j = pair_at R xs i j x y pairs.1 (omega arith) at_i at_j

pub zip_append : {A B : Type 0} (R : A → B → Type 0) (xs : List A) (ys : List B) (us : List A) (vs : List B) → AllZip R xs ys → AllZip R us vs → AllZip R (xs ++ us) (ys ++ vs)
zip_append R [] [] us vs first second = second
zip_append R [] (y ∷ ys) us vs first second = absurd first
zip_append R (x ∷ xs) [] us vs first second = absurd first
zip_append R (x ∷ xs) (y ∷ ys) us vs first second = (first.0, zip_append R xs ys us vs first.1 second)

pub list_all-put : (test : ℕ → Bool) (xs ys : List ℕ) → list_all test xs ≡ true → list_all test ys ≡ true → list_all test (xs ++ ys) ≡ true
list_all-put test [] ys h k = k
list_all-put test (x ∷ xs) ys h k = let parts = both (test x) (list_all test xs) h in join (test x) (list_all test (xs ++ ys)) parts.0 (list_all-put test xs ys parts.1 k)

-- ---- lists that are made of others

pub take_whole : {X : Type 0} (xs : List X) → take (length xs) xs ≡ xs
take_whole [] = refl
take_whole (x ∷ xs) = ap (λ rest. x ∷ rest) (take_whole xs)

pub filter_alike : {X : Type 0} (p q : X → Bool) (xs : List X) → ((x : X) → p x ≡ q x) → filter p xs ≡ filter q xs
filter_alike p q [] same = refl
filter_alike p q (x ∷ xs) same = rw (same x, filter_alike p q xs same) refl

pub map_has : {X Y : Type 0} (f : X → Y) (xs : List X) (x : X) → Contains xs x → Contains (map f xs) (f x)
map_has f [] x (k, below, is) = absurd (omega arith)
map_has f (y ∷ xs) x (zero, below, is) = (0, omega arith, ap f is)
map_has f (y ∷ xs) x (suc k, below, is) = let rest = map_has f xs x (k, omega arith, is) in (suc rest.0, omega (arith, rest.1), rest.2)

pub map_from : {X Y : Type 0} (f : X → Y) (xs : List X) (y : Y) → Contains (map f xs) y → (x : X) × Contains xs x × (f x ≡ y)
map_from f [] y (k, below, is) = absurd (omega arith)
map_from f (x ∷ xs) y (zero, below, is) = (x, (0, omega arith, refl), is)
map_from f (x ∷ xs) y (suc k, below, is) = let rest = map_from f xs y (k, omega arith, is) in (rest.0, (suc rest.1.0, omega (arith, rest.1.1), rest.1.2), rest.2)

pub flat_has : {X Y : Type 0} (f : X → List Y) (xs : List X) (x : X) (y : Y) → Contains xs x → Contains (f x) y → Contains (flat_map f xs) y
flat_has f [] x y (k, below, is) there = absurd (omega arith)
flat_has f (z ∷ xs) x y (zero, below, is) there = Contains-append_left (f z) (flat_map f xs) y (subst (λ w. Contains (f w) y) (sym is) there)
flat_has f (z ∷ xs) x y (suc k, below, is) there = Contains-append_right (f z) (flat_map f xs) y (flat_has f xs x y (k, omega arith, is) there)

pub flat_from : {X Y : Type 0} (f : X → List Y) (xs : List X) (y : Y) → Contains (flat_map f xs) y → (x : X) × Contains xs x × Contains (f x) y
flat_from f [] y (k, below, is) = absurd (omega arith)
flat_from {X} {Y} f (x ∷ xs) y here = by (Contains-append_cases (f x) (flat_map f xs) y here) (flat_from f xs y)
  where
    by : Contains (f x) y ⊎ Contains (flat_map f xs) y → (Contains (flat_map f xs) y → (z : X) × Contains xs z × Contains (f z) y) → (z : X) × Contains (x ∷ xs) z × Contains (f z) y
    by (inl first) later = (x, (0, omega arith, refl), first)
    by (inr more) later = let rest = later more in (rest.0, (suc rest.1.0, omega (arith, rest.1.1), rest.1.2), rest.2)

pub filter_has : {X : Type 0} (p : X → Bool) (xs : List X) (x : X) → p x ≡ true → Contains xs x → Contains (filter p xs) x
filter_has p [] x h in' = absurd (none_in_nil x in')
filter_has p (y ∷ xs) x h in' = by (p y) refl (cons_cases y xs x in') (filter_has p xs x h)
  where
    by : (b : Bool) → p y ≡ b → (y ≡ x) ⊎ Contains xs x → (Contains xs x → Contains (filter p xs) x) → Contains (cond b (y ∷ filter p xs) (filter p xs)) x
    by true e (inl is) later = here_first y (filter p xs) x is
    by true e (inr rest) later = here_later y (filter p xs) x (later rest)
    by false e (inl is) later = clash (p x) h (ap p (sym is) ∙ e)
    by false e (inr rest) later = later rest

pub filter_from : {X : Type 0} (p : X → Bool) (xs : List X) (x : X) → Contains (filter p xs) x → (p x ≡ true) × Contains xs x
filter_from p [] x in' = absurd (none_in_nil x in')
filter_from p (y ∷ xs) x in' = by (p y) refl in' (filter_from p xs x)
  where
    by : (b : Bool) → p y ≡ b → Contains (cond b (y ∷ filter p xs) (filter p xs)) x → (Contains (filter p xs) x → (p x ≡ true) × Contains xs x) → (p x ≡ true) × Contains (y ∷ xs) x
    by true e here later = at (cons_cases y (filter p xs) x here)
      where
        at : (y ≡ x) ⊎ Contains (filter p xs) x → (p x ≡ true) × Contains (y ∷ xs) x
        at (inl is) = (ap p (sym is) ∙ e, here_first y xs x is)
        at (inr rest) = let found = later rest in (found.0, here_later y xs x found.1)
    by false e here later = let found = later here in (found.0, here_later y xs x found.1)

pub pairs_filter : {X : Type 0} (R : X → X → Type 0) (p : X → Bool) (xs : List X) → EachPair R xs → EachPair R (filter p xs)
pairs_filter R p [] each = tt
pairs_filter R p (y ∷ xs) each = by (p y) (pairs_filter R p xs each.1)
  where
    by : (b : Bool) → EachPair R (filter p xs) → EachPair R (cond b (y ∷ filter p xs) (filter p xs))
    by true rest = (all_from (R y) (filter p xs) (λ x in'. all_at (R y) xs x each.0 (filter_from p xs x in').1), rest)
    by false rest = rest

-- each element with each later one, of two lists together
pub pairs_append : {X : Type 0} (R : X → X → Type 0) (xs ys : List X) → EachPair R xs → EachPair R ys → ((x y : X) → Contains xs x → Contains ys y → R x y) → EachPair R (xs ++ ys)
pairs_append R [] ys first second across = second
pairs_append R (x ∷ xs) ys first second across = (
  all_append (R x) xs ys first.0 (all_from (R x) ys (λ y here. across x y (0, omega arith, refl) here)),
  pairs_append R xs ys first.1 second (λ z y here there. across z y (suc here.0, omega (arith, here.1), here.2) there),
)

pub mapped_has : {X Y : Type 0} (f : X → Option Y) (xs : List X) (x : X) (y : Y) → Contains xs x → f x ≡ Some y → Contains (filter_map f xs) y
mapped_has f [] x y in' is = absurd (none_in_nil x in')
mapped_has f (z ∷ xs) x y in' is = by (f z) refl (cons_cases z xs x in') (mapped_has f xs x y)
  where
    by : (o : Option _) → f z ≡ o → (z ≡ x) ⊎ Contains xs x → (Contains xs x → f x ≡ Some y → Contains (filter_map f xs) y) → Contains (cons_option o (filter_map f xs)) y
    by None e (inl same) later = let none : None ≡ Some y = sym e ∙ ap f same ∙ is in cc
    by None e (inr rest) later = later rest is
    by (Some w) e (inl same) later = let here : Some w ≡ Some y = sym e ∙ ap f same ∙ is in here_first w (filter_map f xs) y cc
    by (Some w) e (inr rest) later = here_later w (filter_map f xs) y (later rest is)

pub mapped_from : {X Y : Type 0} (f : X → Option Y) (xs : List X) (y : Y) → Contains (filter_map f xs) y → (x : X) × Contains xs x × (f x ≡ Some y)
mapped_from f [] y in' = absurd (none_in_nil y in')
mapped_from f (z ∷ xs) y in' = by (f z) refl in' (mapped_from f xs y)
  where
    by : (o : Option _) → f z ≡ o → Contains (cons_option o (filter_map f xs)) y → (Contains (filter_map f xs) y → (x : _) × Contains xs x × (f x ≡ Some y)) → (x : _) × Contains (z ∷ xs) x × (f x ≡ Some y)
    by None e here later = let found = later here in (found.0, here_later z xs found.0 found.1, found.2)
    by (Some w) e here later = at (cons_cases w (filter_map f xs) y here)
      where
        at : (w ≡ y) ⊎ Contains (filter_map f xs) y → (x : _) × Contains (z ∷ xs) x × (f x ≡ Some y)
        at (inl same) = (z, here_first z xs z refl, e ∙ ap Some same)
        at (inr rest) = let found = later rest in (found.0, here_later z xs found.0 found.1, found.2)

-- a front of the list with one more element
pub take_push : {X : Type 0} (xs : List X) (k : ℕ) (x : X) → slice_get xs k ≡ Some x → take (suc k) xs ≡ take k xs ++ x ∷ []
take_push [] k x h = cc
take_push (y ∷ xs) zero x h = let same : y ≡ x = cc in ap (λ z. z ∷ []) same
take_push (y ∷ xs) (suc k) x h = ap (λ rest. y ∷ rest) (take_push xs k x h)

pub take_at : {X : Type 0} (xs : List X) (k : ℕ) (x : X) → slice_get xs k ≡ Some x → take (k + 1) xs ≡ take k xs ++ x ∷ []
take_at xs k x h = let on : k + 1 ≡ suc k = omega arith in ap (λ n. take n xs) on ∙ take_push xs k x h

-- ---- what a test finds

pub has_any : {X : Type 0} (p : X → Bool) (xs : List X) (x : X) → Contains xs x → p x ≡ true → list_any p xs ≡ true
has_any p [] x in' h = absurd (none_in_nil x in')
has_any p (y ∷ xs) x in' h = by (cons_cases y xs x in') (λ rest. has_any p xs x rest h)
  where
    by : (y ≡ x) ⊎ Contains xs x → (Contains xs x → list_any p xs ≡ true) → p y || list_any p xs ≡ true
    by (inl is) later = or_left (p y) (list_any p xs) (ap p is ∙ h)
    by (inr rest) later = or_right (p y) (list_any p xs) (later rest)

pub any_has : {X : Type 0} (p : X → Bool) (xs : List X) → list_any p xs ≡ true → (x : X) × Contains xs x × (p x ≡ true)
any_has p [] h = cc
any_has p (y ∷ xs) h = by (either (p y) (list_any p xs) h) (any_has p xs)
  where
    by : (p y ≡ true) ⊎ (list_any p xs ≡ true) → (list_any p xs ≡ true → (x : _) × Contains xs x × (p x ≡ true)) → (x : _) × Contains (y ∷ xs) x × (p x ≡ true)
    by (inl e) later = (y, here_first y xs y refl, e)
    by (inr rest) later = let found = later rest in (found.0, here_later y xs found.0 found.1, found.2)
