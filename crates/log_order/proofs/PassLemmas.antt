-- One pass along the order marks exactly what is reached.
use Rattle.std.proofs.Common.{◌≡◌, ℕ, zero, suc, ◌+◌, ◌<◌, ◌≤◌, Bool, true, false, cond, not, ◌||◌, ◌&&◌, List, [], ◌∷◌, length, get_or, replicate, refl, inl, inr, arith, ap, sym, ◌∙◌, subst}
use Rattle.std.specs.Prelude.{◌==◌, ◌≢◌, slice_set, All}
use Rattle.std.specs.List.{AllByRecursion}
use Rattle.std.proofs.lemmas.List.{get_or_default}
use Rattle.std.proofs.lemmas.List.Elements.{All-from_recursion}
use Rattle.log_order.specs.Log.{ListsOnce, AreKnown, place_in, has_pair, reaches}
use Rattle.des_base.specs.Lists.{EachPair}
use Rattle.log_order.specs.Precedence.{is_in, is_marked, IsKeptOrder}
use Rattle.des_base.proofs.BoolLemmas.{both, either, or_left, or_right, otherwise, same, itself, alike}
use Rattle.log_order.proofs.Places.{places-from}
use Rattle.log_order.proofs.Reaching.{IsClosed, reaches-least, reaches-closed, reaches-itself}
use Rattle.log_order.proofs.OrderLemmas.{stands-kept}
use Rattle.log_order.proofs.MarkLemmas.{marked-set, none_marked}

-- along the first k of the order, each marked number's followers are marked, and only what is reached is
pub record IsPassed (pairs : List (ℕ × ℕ)) (order : List ℕ) (from : ℕ) (marks : List Bool) (k : ℕ) : Type 0 where
  pub long : length marks ≡ length order
  pub start : is_marked marks from ≡ true
  pub sound : (i : ℕ) → is_marked marks i ≡ true → reaches pairs from i ≡ true
  pub closed : (i j : ℕ) → has_pair pairs i j ≡ true → place_in order i < k → is_marked marks i ≡ true → is_marked marks j ≡ true

-- ---- places in an order

all_at : (P : ℕ → Type 0) (xs : List ℕ) (k d : ℕ) → AllByRecursion P xs → k < length xs → P (get_or xs k d)
all_at P [] k d h l = absurd (omega arith)
all_at P (x ∷ xs) zero d h l = h.0
all_at P (x ∷ xs) (suc k) d h l = all_at P xs k d h.1 (omega arith)

place_later : (x y p k : ℕ) → (x ≡ y → ⊥) → p ≡ k → cond (not (x == y)) (1 + p) 0 ≡ suc k
place_later x y p k h e = rw (otherwise (x == y) (λ t. h (same x y t))) (omega arith)

pub place-at : (xs : List ℕ) (k d : ℕ) → EachPair (λ i j. i ≢ j) xs → k < length xs → place_in xs (get_or xs k d) ≡ k
place-at [] k d h l = absurd (omega arith)
place-at (x ∷ xs) zero d h l = rw (itself x) refl
place-at (x ∷ xs) (suc k) d h l = place_later x (get_or xs k d) (place_in xs (get_or xs k d)) k (all_at (λ y. x ≢ y) xs k d h.0 (omega arith)) (place-at xs k d h.1 (omega arith))

-- a number that is listed stands at its place
pub record StandsAt (order : List ℕ) (i : ℕ) : Type 0 where
  pub within : place_in order i < length order
  pub there : get_or order (place_in order i) i ≡ i

pub stands-at : (m : ℕ) (order : List ℕ) (i : ℕ) → ListsOnce m order → i < m → StandsAt order i
stands-at m order i h l =
    let at = h.each i l in
    let k : ℕ = at.0 in
    let within : k < length order = at.1 in
    let there : get_or order k i ≡ i = at.2 in
    let place : place_in order i ≡ k = ap (place_in order) (sym there) ∙ place-at order k i h.once within in
    record { within = subst (λ p. p < length order) (sym place) within; there = ap (λ p. get_or order p i) place ∙ there }

pub known-at : (m : ℕ) (pairs : List (ℕ × ℕ)) (i j : ℕ) → AreKnown m pairs → has_pair pairs i j ≡ true → (i < m) × (j < m)
known-at m [] i j h there = cc
known-at m (pair ∷ pairs) i j h there = elim (either (pair.0 == i && pair.1 == j) (has_pair pairs i j) there) [
  | inl first ↦ let parts = both (pair.0 == i) (pair.1 == j) first in
      (subst (λ a. a < m) (same pair.0 i parts.0) h.0.0, subst (λ b. b < m) (same pair.1 j parts.1) h.0.1)
  | inr later ↦ known-at m pairs i j h.1 later
]

all_from : (m : ℕ) (xs : List ℕ) → ((j : ℕ) → is_in xs j ≡ true → j < m) → AllByRecursion (λ j. j < m) xs
all_from m [] h = tt
all_from m (x ∷ xs) h = (h x (or_left (x == x) _ (itself x)), all_from m xs (λ j t. h j (or_right (x == j) _ t)))

-- what follows a number is below the count
pub followers-known : (pairs : List (ℕ × ℕ)) (order : List ℕ) (lists : List (List ℕ)) (x m : ℕ) (list : List ℕ) → IsKeptOrder pairs order lists → list ≡ get_or lists x [] → m ≡ length order → All (λ j. j < m) list
followers-known pairs order lists x m list h e same = All-from_recursion (λ j. j < m) list (all_from m list (λ j there.
    let pair : has_pair pairs x j ≡ true = sym (h.followers.same x j) ∙ ap (λ l. is_in l j) (sym e) ∙ there in
    subst (λ n. j < n) (sym same) (known-at (length order) pairs x j h.known pair).1))

-- the list of a number of the order
pub list-at : (pairs : List (ℕ × ℕ)) (order : List ℕ) (lists : List (List ℕ)) (k x : ℕ) (list : List ℕ) → IsKeptOrder pairs order lists → k < length order → x ≡ get_or order k x → list ≡ get_or lists x list → list ≡ get_or lists x []
list-at pairs order lists k x list h l at is =
    let below : x < length order = subst (λ y. y < length order) (sym at) (all_at (λ i. i < length order) order k x h.listed.below l) in
    is ∙ get_or_default lists x list [] (let same = h.matched in omega arith)

-- ---- the pass

length_replicate : (n : ℕ) → length (replicate n false) ≡ n
length_replicate zero = refl
length_replicate (suc n) = ap suc (length_replicate n)

length_set : (marks : List Bool) (i : ℕ) → length (slice_set marks i true) ≡ length marks
length_set [] i = refl
length_set (m ∷ ms) zero = refl
length_set (m ∷ ms) (suc i) = ap suc (length_set ms i)

pub IsPassed-start : (pairs : List (ℕ × ℕ)) (order : List ℕ) (from : ℕ) (marks : List Bool) → from < length order → marks ≡ slice_set (replicate (length order) false) from true → IsPassed pairs order from marks 0
IsPassed-start pairs order from marks l e =
    let n = length order in
    let none : List Bool = replicate (length order) false in
    let within : from < length none = subst (λ k. from < k) (sym (length_replicate n)) l in
    let is : (i : ℕ) → is_marked marks i ≡ (false || (from == i)) = λ i. ap (λ ms. is_marked ms i) e ∙ marked-set none from i within ∙ ap (λ b. b || (from == i)) (none_marked n i) in
    record {
      long = ap length e ∙ length_set none from ∙ length_replicate n;
      start = is from ∙ itself from;
      sound = λ i h. ap (reaches pairs from) (sym (same from i (sym (is i) ∙ h))) ∙ reaches-itself pairs from;
      closed = λ i j h b m. absurd (omega arith);
    }

-- an order's number at k, and another whose place is no greater
before : (m : ℕ) (order : List ℕ) (k x i : ℕ) → ListsOnce m order → i < m → k < length order → x ≡ get_or order k x → place_in order i < k + 1 → (i ≡ x → ⊥) → place_in order i < k
before m order k x i h l within at b differ =
    let there = stands-at m order i h l in
    let not_here : place_in order i ≡ k → ⊥ = λ e. differ (sym there.there ∙ ap (λ p. get_or order p i) e ∙ get_or_default order k i x within ∙ sym at) in
    grind arith

passed_case : (pairs : List (ℕ × ℕ)) (order : List ℕ) (lists : List (List ℕ)) (from : ℕ) (marks new : List Bool) (k x : ℕ) (list : List ℕ) → IsKeptOrder pairs order lists → IsPassed pairs order from marks k
    → k < length order → x ≡ get_or order k x → is_marked marks x ≡ true → list ≡ get_or lists x [] → ((i : ℕ) → is_marked new i ≡ (is_marked marks i || is_in list i))
    → (i j : ℕ) → has_pair pairs i j ≡ true → place_in order i < k + 1 → is_marked new i ≡ true → (b : Bool) → (i == x) ≡ b → is_marked new j ≡ true
passed_case pairs order lists from marks new k x list kept h l at marked e more i j pair b m true is =
    let follows : is_in list j ≡ true = ap (λ ys. is_in ys j) e ∙ kept.followers.same x j ∙ ap (λ a. has_pair pairs a j) (sym (same i x is)) ∙ pair in
    more j ∙ or_right (is_marked marks j) (is_in list j) follows
passed_case pairs order lists from marks new k x list kept h l at marked e more i j pair b m false is =
    let known = known-at (length order) pairs i j kept.known pair in
    let earlier : place_in order i < k = before (length order) order k x i kept.listed known.0 l at b (λ t. let yes : (i == x) ≡ true = ap (λ y. i == y) (sym t) ∙ itself i in cc) in
    elim (either (is_marked marks i) (is_in list i) (sym (more i) ∙ m)) [
      | inl old ↦ more j ∙ or_left (is_marked marks j) (is_in list j) (h.closed i j pair earlier old)
      | inr follows ↦
          let after : has_pair pairs x i ≡ true = sym (kept.followers.same x i) ∙ ap (λ ys. is_in ys i) (sym e) ∙ follows in
          let places : place_in order x < place_in order i = places-from order x i (stands-kept order pairs x i kept.kept after) in
          let here : place_in order x ≡ k = ap (place_in order) at ∙ place-at order k x kept.listed.once l in
          absurd (omega arith)
    ]

pub IsPassed-marked : (pairs : List (ℕ × ℕ)) (order : List ℕ) (lists : List (List ℕ)) (from : ℕ) (marks new : List Bool) (k x : ℕ) (list : List ℕ) → IsKeptOrder pairs order lists → IsPassed pairs order from marks k
    → k < length order → x ≡ get_or order k x → is_marked marks x ≡ true → list ≡ get_or lists x [] → length new ≡ length marks → ((i : ℕ) → is_marked new i ≡ (is_marked marks i || is_in list i)) → IsPassed pairs order from new (k + 1)
IsPassed-marked pairs order lists from marks new k x list kept h l at marked e long more = record {
  long = long ∙ h.long;
  start = more from ∙ or_left (is_marked marks from) (is_in list from) h.start;
  sound = λ i m. elim (either (is_marked marks i) (is_in list i) (sym (more i) ∙ m)) [
    | inl old ↦ h.sound i old
    | inr follows ↦ let after : has_pair pairs x i ≡ true = sym (kept.followers.same x i) ∙ ap (λ ys. is_in ys i) (sym e) ∙ follows in
        (reaches-closed pairs from).at x i after (h.sound x marked)
  ];
  closed = λ i j pair b m. passed_case pairs order lists from marks new k x list kept h l at marked e more i j pair b m (i == x) refl;
}

unmarked_case : (pairs : List (ℕ × ℕ)) (order : List ℕ) (lists : List (List ℕ)) (from : ℕ) (marks : List Bool) (k x : ℕ) → IsKeptOrder pairs order lists → IsPassed pairs order from marks k
    → k < length order → x ≡ get_or order k x → is_marked marks x ≡ false → (i j : ℕ) → has_pair pairs i j ≡ true → place_in order i < k + 1 → is_marked marks i ≡ true → (b : Bool) → (i == x) ≡ b → is_marked marks j ≡ true
unmarked_case pairs order lists from marks k x kept h l at none i j pair b m true is = let k : is_marked marks i ≡ is_marked marks x = ap (is_marked marks) (same i x is) in cc
unmarked_case pairs order lists from marks k x kept h l at none i j pair b m false is =
    h.closed i j pair (before (length order) order k x i kept.listed (known-at (length order) pairs i j kept.known pair).0 l at b (λ t. let yes : (i == x) ≡ true = ap (λ y. i == y) (sym t) ∙ itself i in cc)) m

pub IsPassed-unmarked : (pairs : List (ℕ × ℕ)) (order : List ℕ) (lists : List (List ℕ)) (from : ℕ) (marks : List Bool) (k x : ℕ) → IsKeptOrder pairs order lists → IsPassed pairs order from marks k
    → k < length order → x ≡ get_or order k x → is_marked marks x ≡ false → IsPassed pairs order from marks (k + 1)
IsPassed-unmarked pairs order lists from marks k x kept h l at none = record {
  long = h.long;
  start = h.start;
  sound = h.sound;
  closed = λ i j pair b m. unmarked_case pairs order lists from marks k x kept h l at none i j pair b m (i == x) refl;
}

pub IsPassed-end : (pairs : List (ℕ × ℕ)) (order : List ℕ) (lists : List (List ℕ)) (from : ℕ) (marks : List Bool) (k : ℕ) → IsKeptOrder pairs order lists → IsPassed pairs order from marks k → length order ≤ k → (i : ℕ) → is_marked marks i ≡ reaches pairs from i
IsPassed-end pairs order lists from marks k kept h l i =
    let closed : IsClosed (is_marked marks) pairs = record {
      at = λ a b pair m.
          let within = (stands-at (length order) order a kept.listed (known-at (length order) pairs a b kept.known pair).0).within in
          h.closed a b pair (omega arith) m;
    } in
    alike (is_marked marks i) (reaches pairs from i) (h.sound i) (reaches-least (is_marked marks) pairs from i closed h.start)
