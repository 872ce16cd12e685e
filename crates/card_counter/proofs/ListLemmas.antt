-- Lists: facts of all elements, fronts, and lists that are put together number by number.
use Rattle.std.proofs.Common.{◌≡◌, ℕ, zero, suc, ◌+◌, ◌<◌, ◌∙◌, List, [], ◌∷◌, ◌++◌, map, flat_map, refl, sym, ap, subst, arith, Contains, append-nil, append_assoc, ◌⊎◌, inl, inr}
use Rattle.std.specs.List.{AllByRecursion, range_with_len}
use Rattle.std.proofs.lemmas.List.Elements.{Contains-append_left, Contains-append_right, Contains-append_cases}
use Rattle.std.proofs.lemmas.Bool.{cases_order}
use Rattle.des_base.proofs.Elements.{all_append, all_split, pairs_append}
use Rattle.des_base.specs.Lists.{EachPair}

pub all_both : {X : Type 0} (P Q : X → Type 0) (xs : List X) → AllByRecursion P xs → AllByRecursion Q xs → AllByRecursion (λ x. P x × Q x) xs
all_both P Q [] first second = tt
all_both P Q (x ∷ xs) first second = ((first.0, second.0), all_both P Q xs first.1 second.1)

-- ---- a list for each number

pub flat_more : {X : Type 0} (f : ℕ → List X) (a n : ℕ) → flat_map f (range_with_len a (suc n)) ≡ flat_map f (range_with_len a n) ++ f (a + n)
flat_more f a zero = let here : a + 0 ≡ a = omega arith in rw here (append-nil (f a))
flat_more f a (suc n) =
    let here : a + suc n ≡ a + 1 + n = omega arith in
    rw here (ap (λ rest. f a ++ rest) (flat_more f (a + 1) n) ∙ sym (append_assoc (f a) (flat_map f (range_with_len (a + 1) n)) (f (a + 1 + n))))

pub flat_next : {X : Type 0} (f : ℕ → List X) (n : ℕ) → flat_map f (range_with_len 0 (suc n)) ≡ flat_map f (range_with_len 0 n) ++ f n
flat_next f n = let none : 0 + n ≡ n = omega arith in flat_more f 0 n ∙ ap (λ k. flat_map f (range_with_len 0 n) ++ f k) none

pub flat_same : {X : Type 0} (f g : ℕ → List X) (n : ℕ) → ((i : ℕ) → i < n → f i ≡ g i) → flat_map f (range_with_len 0 n) ≡ flat_map g (range_with_len 0 n)
flat_same f g zero same = refl
flat_same f g (suc n) same =
    let before = flat_same f g n (λ i h. same i (omega arith)) in
    let here = same n (omega arith) in
    flat_next f n ∙ ap (λ xs. xs ++ f n) before ∙ ap (λ xs. flat_map g (range_with_len 0 n) ++ xs) here ∙ sym (flat_next g n)

pub flat_each : {X : Type 0} (P : X → Type 0) (f : ℕ → List X) (n : ℕ) → AllByRecursion P (flat_map f (range_with_len 0 n)) → (i : ℕ) → i < n → AllByRecursion P (f i)
flat_each P f zero all i h = absurd (omega arith)
flat_each P f (suc n) all i h = by (cases_order i n) (λ less. flat_each P f n both.0 i less)
  where
    both : AllByRecursion P (flat_map f (range_with_len 0 n)) × AllByRecursion P (f n)
    both = all_split P (flat_map f (range_with_len 0 n)) (f n) (subst (AllByRecursion P) (flat_next f n) all)

    by : (i ≡ n) ⊎ ((i < n) ⊎ (n < i)) → (i < n → AllByRecursion P (f i)) → AllByRecursion P (f i)
    by (inl same) before = subst (λ k. AllByRecursion P (f k)) (sym same) both.1
    by (inr (inl less)) before = before less
    by (inr (inr more)) before = absurd (omega arith)

pub flat_from : {X : Type 0} (P : X → Type 0) (f : ℕ → List X) (n : ℕ) → ((i : ℕ) → i < n → AllByRecursion P (f i)) → AllByRecursion P (flat_map f (range_with_len 0 n))
flat_from P f zero each = tt
flat_from P f (suc n) each =
    subst (AllByRecursion P) (sym (flat_next f n))
    (all_append P (flat_map f (range_with_len 0 n)) (f n) (flat_from P f n (λ i h. each i (omega arith))) (each n (omega arith)))

pub flat_contains : {X : Type 0} (f : ℕ → List X) (n i : ℕ) (x : X) → i < n → Contains (f i) x → Contains (flat_map f (range_with_len 0 n)) x
flat_contains f zero i x h here = absurd (omega arith)
flat_contains f (suc n) i x h here = subst (λ xs. Contains xs x) (sym (flat_next f n)) (by (cases_order i n) (λ less. flat_contains f n i x less here))
  where
    by : (i ≡ n) ⊎ ((i < n) ⊎ (n < i)) → (i < n → Contains (flat_map f (range_with_len 0 n)) x) → Contains (flat_map f (range_with_len 0 n) ++ f n) x
    by (inl same) before = Contains-append_right (flat_map f (range_with_len 0 n)) (f n) x (subst (λ k. Contains (f k) x) same here)
    by (inr (inl less)) before = Contains-append_left (flat_map f (range_with_len 0 n)) (f n) x (before less)
    by (inr (inr more)) before = absurd (omega arith)

pub flat_of : {X : Type 0} (f : ℕ → List X) (n : ℕ) (x : X) → Contains (flat_map f (range_with_len 0 n)) x → (i : ℕ) × (i < n) × Contains (f i) x
flat_of f zero x (k, below, is) = absurd (omega arith)
flat_of f (suc n) x here = by (Contains-append_cases (flat_map f (range_with_len 0 n)) (f n) x (subst (λ xs. Contains xs x) (flat_next f n) here)) (flat_of f n x)
  where
    by : Contains (flat_map f (range_with_len 0 n)) x ⊎ Contains (f n) x → (Contains (flat_map f (range_with_len 0 n)) x → (i : ℕ) × (i < n) × Contains (f i) x) → (i : ℕ) × (i < suc n) × Contains (f i) x
    by (inl before) later = let rest = later before in (rest.0, omega (arith, rest.1), rest.2)
    by (inr last) later = (n, omega arith, last)

-- an element for each number
pub map_as_flat : {X : Type 0} (f : ℕ → X) (ns : List ℕ) → map f ns ≡ flat_map (λ i. f i ∷ []) ns
map_as_flat f [] = refl
map_as_flat f (n ∷ ns) = ap (λ rest. f n ∷ rest) (map_as_flat f ns)

pub map_same : {X : Type 0} (f g : ℕ → X) (n : ℕ) → ((i : ℕ) → i < n → f i ≡ g i) → map f (range_with_len 0 n) ≡ map g (range_with_len 0 n)
map_same f g n same =
    map_as_flat f (range_with_len 0 n) ∙ flat_same (λ i. f i ∷ []) (λ i. g i ∷ []) n (λ i h. ap (λ x. x ∷ []) (same i h)) ∙ sym (map_as_flat g (range_with_len 0 n))

pub map_contains : {X : Type 0} (f : ℕ → X) (n i : ℕ) → i < n → Contains (map f (range_with_len 0 n)) (f i)
map_contains f n i h = subst (λ xs. Contains xs (f i)) (sym (map_as_flat f (range_with_len 0 n))) (flat_contains (λ k. f k ∷ []) n i (f i) h (0, omega arith, refl))

pub map_of : {X : Type 0} (f : ℕ → X) (n : ℕ) (x : X) → Contains (map f (range_with_len 0 n)) x → (i : ℕ) × (i < n) × (f i ≡ x)
map_of f n x here =
    let from = flat_of (λ k. f k ∷ []) n x (subst (λ xs. Contains xs x) (map_as_flat f (range_with_len 0 n)) here) in
    (from.0, from.1, only (f from.0) from.2)
  where
    only : (y : _) → Contains (y ∷ []) x → y ≡ x
    only y (zero, below, is) = is
    only y (suc k, below, is) = absurd (omega arith)

pub pairs_flat : {X : Type 0} (R : X → X → Type 0) (f : ℕ → List X) (n : ℕ) → ((i : ℕ) → i < n → EachPair R (f i)) → ((i k : ℕ) (x y : X) → i < k → k < n → Contains (f i) x → Contains (f k) y → R x y) → EachPair R (flat_map f (range_with_len 0 n))
pairs_flat R f zero within across = tt
pairs_flat R f (suc n) within across = subst (EachPair R) (sym (flat_next f n)) (pairs_append R (flat_map f (range_with_len 0 n)) (f n)
    (pairs_flat R f n (λ i h. within i (omega arith)) (λ i k x y less h here there. across i k x y less (omega arith) here there))
    (within n (omega arith))
    (λ x y here there. let from = flat_of f n x here in across from.0 n x y from.1 (omega arith) from.2 there))

pub pairs_map : {X : Type 0} (R : X → X → Type 0) (f : ℕ → X) (n : ℕ) → ((i k : ℕ) → i < k → k < n → R (f i) (f k)) → EachPair R (map f (range_with_len 0 n))
pairs_map R f n each = subst (EachPair R) (sym (map_as_flat f (range_with_len 0 n))) (pairs_flat R (λ k. f k ∷ []) n (λ i h. (tt, tt))
    (λ i k x y less h here there. by i k x y less h here there))
  where
    by : (i k : ℕ) (x y : _) → i < k → k < n → Contains (f i ∷ []) x → Contains (f k ∷ []) y → R x y
    by i k x y less h (zero, below, is) (zero, under, alike) = subst (λ z. R z y) is (subst (R (f i)) alike (each i k less h))
    by i k x y less h (suc p, below, is) there = absurd (omega arith)
    by i k x y less h (zero, below, is) (suc p, under, alike) = absurd (omega arith)
