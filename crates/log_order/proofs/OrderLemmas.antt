-- An order that keeps the pairs, under a further pair and a further number.
use Rattle.std.proofs.Common.{◌≡◌, ℕ, ◌+◌, ◌<◌, ◌≤◌, Bool, true, false, cond, not, ◌&&◌, ◌||◌, List, [], ◌∷◌, ◌++◌, refl, inl, inr, arith, ap, sym, subst}
use Rattle.std.specs.Prelude.{◌==◌, nat_le, ◌≢◌}
use Rattle.std.specs.List.{filter, AllByRecursion}
use Rattle.log_order.specs.Log.{ListsOnce, Keeps, AreKnown, place_in, has_pair, reaches}
use Rattle.des_base.specs.Lists.{EachPair}
use Rattle.des_base.proofs.BoolLemmas.{both, either, same, is_most, most_is, not_true}
use Rattle.log_order.proofs.Places.{stands, stands-from, places-from, stands-append, stands-moved, stands-moved_new, in-moved, in_from, in_is, in-append_left, in-append_right}
use Rattle.log_order.specs.Precedence.{is_in, moved}
use Rattle.log_order.proofs.Reaching.{IsClosed, IsClosed-rest, has_pair-first, reaches-least}

-- ---- lists

module _ {X : Type 0} (P : X → Type 0) where
  pub all_append : (xs ys : List X) → AllByRecursion P xs → AllByRecursion P ys → AllByRecursion P (xs ++ ys)
  all_append [] ys h k = k
  all_append (x ∷ xs) ys h k = (h.0, all_append xs ys h.1 k)

  pub all_weaker : (Q : X → Type 0) → ((x : X) → P x → Q x) → (xs : List X) → AllByRecursion P xs → AllByRecursion Q xs
  all_weaker Q f [] h = h
  all_weaker Q f (x ∷ xs) h = (f x h.0, all_weaker Q f xs h.1)

  all_filter_step : (q : X → Bool) (x : X) (b : Bool) (ys : List X) → P x → AllByRecursion P ys → AllByRecursion P (cond b (x ∷ ys) ys)
  all_filter_step q x true ys h k = (h, k)
  all_filter_step q x false ys h k = k

  pub all_filter : (q : X → Bool) (xs : List X) → AllByRecursion P xs → AllByRecursion P (filter q xs)
  all_filter q [] h = h
  all_filter q (x ∷ xs) h = all_filter_step q x (q x) (filter q xs) h.0 (all_filter q xs h.1)

passes_step : {X : Type 0} (q : X → Bool) (x : X) (b : Bool) (ys : List X) → q x ≡ b → AllByRecursion (λ y. q y ≡ true) ys → AllByRecursion (λ y. q y ≡ true) (cond b (x ∷ ys) ys)
passes_step q x true ys e k = (e, k)
passes_step q x false ys e k = k

pub filter-passes : {X : Type 0} (q : X → Bool) (xs : List X) → AllByRecursion (λ y. q y ≡ true) (filter q xs)
filter-passes q [] = tt
filter-passes q (x ∷ xs) = passes_step q x (q x) (filter q xs) refl (filter-passes q xs)

module _ {X : Type 0} (R : X → X → Type 0) where
  each_filter_step : (q : X → Bool) (x : X) (b : Bool) (xs : List X) → AllByRecursion (R x) xs → EachPair R (filter q xs) → EachPair R (cond b (x ∷ filter q xs) (filter q xs))
  each_filter_step q x true xs h k = (all_filter (R x) q xs h, k)
  each_filter_step q x false xs h k = k

  pub each_filter : (q : X → Bool) (xs : List X) → EachPair R xs → EachPair R (filter q xs)
  each_filter q [] h = h
  each_filter q (x ∷ xs) h = each_filter_step q x (q x) xs h.0 (each_filter q xs h.1)

  pub each_append : (xs ys : List X) → EachPair R xs → EachPair R ys → AllByRecursion (λ x. AllByRecursion (R x) ys) xs → EachPair R (xs ++ ys)
  each_append [] ys h k across = k
  each_append (x ∷ xs) ys h k across = (all_append (R x) xs ys h.0 across.0, each_append xs ys h.1 k across.1)

-- ---- those that a test moves behind the others

pub ListsOnce-moved : (p : ℕ → Bool) (m : ℕ) (order : List ℕ) → ListsOnce m order → ListsOnce m (moved p order)
ListsOnce-moved p m order h = record {
  below = all_append (λ i. i < m) (filter (λ x. not (p x)) order) (filter p order) (all_filter (λ i. i < m) (λ x. not (p x)) order h.below) (all_filter (λ i. i < m) p order h.below);
  each = λ i l. in_is (moved p order) i (in-moved p order i (in_from order i (h.each i l)));
  once = each_append (λ i j. i ≢ j) (filter (λ x. not (p x)) order) (filter p order) (each_filter (λ i j. i ≢ j) (λ x. not (p x)) order h.once) (each_filter (λ i j. i ≢ j) p order h.once)
      (all_weaker (λ x. not (p x) ≡ true) (λ x. AllByRecursion (λ y. x ≢ y) (filter p order))
      (λ x a. all_weaker (λ y. p y ≡ true) (λ y. x ≢ y) (λ y b e. let k : p x ≡ p y = ap p e in let l : p x ≡ false = not_true (p x) a in cc) (filter p order) (filter-passes p order))
      (filter (λ x. not (p x)) order) (filter-passes (λ x. not (p x)) order));
}

-- each pair's numbers stand in its order
pub stands-kept : (order : List ℕ) (pairs : List (ℕ × ℕ)) (i j : ℕ) → Keeps order pairs → has_pair pairs i j ≡ true → stands order i j ≡ true
stands-kept order [] i j kept h = cc
stands-kept order (pair ∷ pairs) i j kept h = elim (either (pair.0 == i && pair.1 == j) (has_pair pairs i j) h) [
  | inl first ↦
      let parts = both (pair.0 == i) (pair.1 == j) first in
      stands-from order i j (subst (λ a. place_in order a < place_in order j) (same pair.0 i parts.0) (subst (λ b. place_in order pair.0 < place_in order b) (same pair.1 j parts.1) kept.0))
  | inr later ↦ stands-kept order pairs i j kept.1 later
]

pub Keeps-moved : (p : ℕ → Bool) (order : List ℕ) (pairs : List (ℕ × ℕ)) → IsClosed p pairs → Keeps order pairs → Keeps (moved p order) pairs
Keeps-moved p order [] closed kept = kept
Keeps-moved p order (pair ∷ pairs) closed kept = (
  places-from (moved p order) pair.0 pair.1 (stands-moved p order pair.0 pair.1 (stands-from order pair.0 pair.1 kept.0) (closed.at pair.0 pair.1 (has_pair-first pair pairs))),
  Keeps-moved p order pairs (IsClosed-rest p pair pairs closed) kept.1,
)

-- an order for a further pair: what comes after the second number goes behind the first
pub Keeps-moved_new : (p : ℕ → Bool) (m : ℕ) (order : List ℕ) (pairs : List (ℕ × ℕ)) (i j : ℕ) → ListsOnce m order → IsClosed p pairs → Keeps order pairs → i < m → p i ≡ false → p j ≡ true → Keeps (moved p order) (pairs ++ (i, j) ∷ [])
Keeps-moved_new p m order pairs i j listed closed kept l a b =
    all_append (λ (pair : ℕ × ℕ). place_in (moved p order) pair.0 < place_in (moved p order) pair.1) pairs ((i, j) ∷ []) (Keeps-moved p order pairs closed kept)
    (places-from (moved p order) i j (stands-moved_new p order i j a b (in_from order i (listed.each i l))), tt)

-- and none where the first comes after the second
pub Keeps-cycle : (order : List ℕ) (pairs : List (ℕ × ℕ)) (i j : ℕ) → Keeps order pairs → place_in order i < place_in order j → reaches pairs j i ≡ true → ⊥
Keeps-cycle order pairs i j kept before r =
    let p : ℕ → Bool = λ x. nat_le (place_in order j) (place_in order x) in
    let closed : IsClosed p pairs = record {
      at = λ c d h a.
          let further : place_in order c < place_in order d = places-from order c d (stands-kept order pairs c d kept h) in
          let there : place_in order j ≤ place_in order c = most_is _ _ a in
          is_most (place_in order j) (place_in order d) (omega arith);
    } in
    let behind : place_in order j ≤ place_in order i = most_is _ _ (reaches-least p pairs j i closed (is_most (place_in order j) (place_in order j) (omega arith)) r) in
    omega arith

-- ---- a further number

last_cases : (m i : ℕ) (order : List ℕ) → i < m + 1 → ((k : ℕ) → k < m → is_in order k ≡ true) → (b : Bool) → (m == i) ≡ b → is_in (order ++ m ∷ []) i ≡ true
last_cases m i order l h true e = in-append_right order (m ∷ []) i (subst (λ b. (b || false) ≡ true) (sym e) refl)
last_cases m i order l h false e = in-append_left order (m ∷ []) i (h i (grind (arith)))

pub ListsOnce-push : (m : ℕ) (order : List ℕ) → ListsOnce m order → ListsOnce (m + 1) (order ++ m ∷ [])
ListsOnce-push m order h = record {
  below = all_append (λ i. i < m + 1) order (m ∷ []) (all_weaker (λ i. i < m) (λ i. i < m + 1) (λ i l. omega arith) order h.below) (omega arith, tt);
  each = λ i l. in_is (order ++ m ∷ []) i (last_cases m i order l (λ k b. in_from order k (h.each k b)) (m == i) refl);
  once = each_append (λ i j. i ≢ j) order (m ∷ []) h.once (tt, tt) (all_weaker (λ i. i < m) (λ i. AllByRecursion (λ j. i ≢ j) (m ∷ [])) (λ i l. (λ e. omega arith, tt)) order h.below);
}

pub Keeps-push : (order ys : List ℕ) (pairs : List (ℕ × ℕ)) → Keeps order pairs → Keeps (order ++ ys) pairs
Keeps-push order ys [] kept = kept
Keeps-push order ys (pair ∷ pairs) kept = (places-from (order ++ ys) pair.0 pair.1 (stands-append order ys pair.0 pair.1 (stands-from order pair.0 pair.1 kept.0)), Keeps-push order ys pairs kept.1)

pub AreKnown-more : (m : ℕ) (pairs : List (ℕ × ℕ)) → AreKnown m pairs → AreKnown (m + 1) pairs
AreKnown-more m pairs h = all_weaker (λ (pair : ℕ × ℕ). (pair.0 < m) × (pair.1 < m)) (λ pair. (pair.0 < m + 1) × (pair.1 < m + 1)) (λ pair k. (let l = k.0 in omega arith, let l = k.1 in omega arith)) pairs h
