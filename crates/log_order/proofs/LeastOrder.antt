-- The order that takes the smallest free number lists each once, and keeps the pairs.
use Rattle.std.proofs.Common.{◌≡◌, ℕ, zero, suc, ◌+◌, ◌<◌, ◌≤◌, Bool, true, false, cond, not, ◌||◌, ◌&&◌, List, [], ◌∷◌, ◌++◌, length, Option, None, Some, refl, inl, inr, arith, ap, sym, ◌∙◌, subst}
use Rattle.std.specs.Prelude.{◌==◌, ◌≢◌, slice_set}
use Rattle.std.specs.List.{list_any, AllByRecursion}
use Rattle.std.specs.Option.{option_map_or}
use Rattle.log_order.specs.Log.{ListsOnce, Keeps, AreKnown, AreOrdered, has_pair}
use Rattle.des_base.specs.Lists.{EachPair}
use Rattle.log_order.specs.Precedence.{is_in, is_marked}
use Rattle.log_order.specs.Order.{first_below, is_held_back, with_next, taken_first, least_order}
use Rattle.des_base.proofs.BoolLemmas.{both, join, either, or_left, or_right, not_false, not_true, otherwise, same, itself, neither}
use Rattle.log_order.proofs.Places.{stands, places-from, stands-append, in_from, in_is}
use Rattle.log_order.proofs.OrderLemmas.{all_append, each_append, stands-kept}
use Rattle.log_order.proofs.Reaching.{has_pair-first, has_pair-later}
use Rattle.log_order.proofs.MarkLemmas.{in-push, marked-set}

-- ---- the smallest number

pub record IsFirst (m : ℕ) (p : ℕ → Bool) (i : ℕ) : Type 0 where
  pub below : i < m
  pub holds : p i ≡ true

first_step : (m : ℕ) (p : ℕ → Bool) (o : Option ℕ) (b : Bool) (i : ℕ) → p m ≡ b → ((j : ℕ) → o ≡ Some j → IsFirst m p j) → option_map_or (λ j. Some j) o (cond b (Some m) None) ≡ Some i → IsFirst (suc m) p i
first_step m p (Some j) b i e f h = let first = f j refl in let is : j ≡ i = cc in record { below = (let l : j < m = first.below in omega arith); holds = ap p (sym is) ∙ first.holds }
first_step m p None true i e f h = let is : m ≡ i = cc in record { below = omega arith; holds = ap p (sym is) ∙ e }
first_step m p None false i e f h = cc

pub first_below-some : (m : ℕ) (p : ℕ → Bool) (i : ℕ) → first_below m p ≡ Some i → IsFirst m p i
first_below-some zero p i h = cc
first_below-some (suc m) p i h = first_step m p (first_below m p) (p m) i refl (first_below-some m p) h

none_step : (m i : ℕ) (p : ℕ → Bool) (o : Option ℕ) (b : Bool) → p m ≡ b → (o ≡ None → i < m → p i ≡ false) → option_map_or (λ j. Some j) o (cond b (Some m) None) ≡ None → i < suc m → (c : Bool) → (i == m) ≡ c → p i ≡ false
none_step m i p (Some j) b e f h l c is = cc
none_step m i p None true e f h l c is = cc
none_step m i p None false e f h l true is = ap p (same i m is) ∙ e
none_step m i p None false e f h l false is = f refl (let differ : i ≡ m → ⊥ = λ t. let yes : (i == m) ≡ true = ap (λ y. i == y) (sym t) ∙ itself i in cc in grind arith)

pub first_below-none : (m : ℕ) (p : ℕ → Bool) (i : ℕ) → first_below m p ≡ None → i < m → p i ≡ false
first_below-none zero p i h l = absurd (omega arith)
first_below-none (suc m) p i h l = none_step m i p (first_below m p) (p m) refl (first_below-none m p i) h l (i == m) refl

-- ---- what is held back

any_at : (pairs : List (ℕ × ℕ)) (taken : ℕ → Bool) (a i : ℕ) → list_any (λ pair. pair.1 == i && not (taken pair.0)) pairs ≡ false → has_pair pairs a i ≡ true → taken a ≡ true
any_at [] taken a i h there = cc
any_at (pair ∷ pairs) taken a i h there =
    let parts = neither (pair.1 == i && not (taken pair.0)) _ h in
    elim (either (pair.0 == a && pair.1 == i) (has_pair pairs a i) there) [
      | inl first ↦ let is = both (pair.0 == a) (pair.1 == i) first in at_first (taken pair.0) refl is parts.0
      | inr later ↦ any_at pairs taken a i parts.1 later
    ]
  where
    at_first : (b : Bool) → taken pair.0 ≡ b → ((pair.0 == a) ≡ true) × ((pair.1 == i) ≡ true) → (pair.1 == i && not (taken pair.0)) ≡ false → taken a ≡ true
    at_first true e is none = ap taken (sym (same pair.0 a is.0)) ∙ e
    at_first false e is none = let yes : (pair.1 == i && not (taken pair.0)) ≡ true = join (pair.1 == i) (not (taken pair.0)) is.1 (not_false (taken pair.0) e) in cc

none_waits : (pairs : List (ℕ × ℕ)) (taken : ℕ → Bool) (i : ℕ) → ((a : ℕ) → has_pair pairs a i ≡ true → taken a ≡ true) → list_any (λ pair. pair.1 == i && not (taken pair.0)) pairs ≡ false
none_waits [] taken i h = refl
none_waits (pair ∷ pairs) taken i h = rw (first) (none_waits pairs taken i (λ a there. h a (has_pair-later pair pairs a i there)))
  where
    first : (pair.1 == i && not (taken pair.0)) ≡ false
    first = otherwise (pair.1 == i && not (taken pair.0)) (λ yes.
        let parts = both (pair.1 == i) (not (taken pair.0)) yes in
        let there : has_pair (pair ∷ pairs) pair.0 i ≡ true = subst (λ b. has_pair (pair ∷ pairs) pair.0 b ≡ true) (same pair.1 i parts.0) (has_pair-first pair pairs) in
        let a = h pair.0 there in let b = not_true (taken pair.0) parts.1 in cc)

-- ---- there is a free number where one isn't taken

pub record IsNext (o taken : List ℕ) (x : ℕ) : Type 0 where
  pub there : is_in o x ≡ true
  pub new : is_in taken x ≡ false
  pub before : (a : ℕ) → stands o a x ≡ true → is_in taken a ≡ true

later_step : (y a x : ℕ) (b c r : Bool) (taken : List ℕ) → (y == x) ≡ b → (y == a) ≡ c → is_in taken y ≡ true → (r ≡ true → is_in taken a ≡ true) → cond b false (cond c true r) ≡ true → is_in taken a ≡ true
later_step y a x true c r taken e f h rest s = cc
later_step y a x false true r taken e f h rest s = ap (is_in taken) (sym (same y a f)) ∙ h
later_step y a x false false r taken e f h rest s = rest s

next_from : (o taken : List ℕ) (i : ℕ) → is_in o i ≡ true → is_in taken i ≡ false → (x : ℕ) × IsNext o taken x
next_from [] taken i h none = cc
next_from (y ∷ o) taken i h none = next_case (λ later. next_from o taken i later none) (is_in taken y) refl
  where
    next_case : (is_in o i ≡ true → (x : ℕ) × IsNext o taken x) → (b : Bool) → is_in taken y ≡ b → (x : ℕ) × IsNext (y ∷ o) taken x
    next_case rest false e = (y, record { there = or_left (y == y) _ (itself y); new = e; before = λ a s. let no : stands (y ∷ o) a y ≡ false = ap (λ b. cond b false (cond (y == a) true (stands o a y))) (itself y) in cc })
    next_case rest true e =
        let differ : (y == i) ≡ false = otherwise (y == i) (λ t. let k : is_in taken y ≡ is_in taken i = ap (is_in taken) (same y i t) in cc) in
        let later : is_in o i ≡ true = ap (λ b. b || is_in o i) (sym differ) ∙ h in
        let next = rest later in
        let is = next.1 in
        (next.0, record { there = or_right (y == next.0) _ is.there; new = is.new; before = λ a s. later_step y a next.0 (y == next.0) (y == a) (stands o a next.0) taken refl refl e (is.before a) s })

-- ---- how many aren't taken

pub missing : ℕ → List ℕ → ℕ
missing zero taken = 0
missing (suc m) taken = cond (is_in taken m) 0 1 + missing m taken

missing-none : (m : ℕ) → missing m [] ≤ m
unfolding missing
missing-none zero = omega arith
missing-none (suc m) = let rest = missing-none m in omega arith

missing_most : (a b : Bool) (j k : ℕ) → k ≤ j → cond (a || b) 0 1 + k ≤ cond a 0 1 + j
missing_most true b j k h = omega arith
missing_most false true j k h = omega arith
missing_most false false j k h = omega arith

missing-most : (m : ℕ) (taken : List ℕ) (i : ℕ) → missing m (taken ++ i ∷ []) ≤ missing m taken
unfolding missing
missing-most zero taken i = omega arith
missing-most (suc m) taken i = subst (λ b. cond b 0 1 + missing m (taken ++ i ∷ []) ≤ cond (is_in taken m) 0 1 + missing m taken) (sym (in-push taken i m)) (missing_most (is_in taken m) (i == m) (missing m taken) (missing m (taken ++ i ∷ [])) (missing-most m taken i))

less_step : (i m : ℕ) (taken : List ℕ) (b a : Bool) (j k : ℕ) → (i == m) ≡ b → is_in taken m ≡ a → is_in taken i ≡ false → i < suc m → k ≤ j → (i < m → k + 1 ≤ j) → cond (a || b) 0 1 + k + 1 ≤ cond a 0 1 + j
less_step i m taken true true j k e f none l most rest = let t : is_in taken i ≡ is_in taken m = ap (is_in taken) (same i m e) in cc
less_step i m taken true false j k e f none l most rest = omega arith
less_step i m taken false true j k e f none l most rest = let less : i < m = (let differ : i ≡ m → ⊥ = λ t. let yes : (i == m) ≡ true = ap (λ y. i == y) (sym t) ∙ itself i in cc in grind arith) in let r = rest less in omega arith
less_step i m taken false false j k e f none l most rest = let less : i < m = (let differ : i ≡ m → ⊥ = λ t. let yes : (i == m) ≡ true = ap (λ y. i == y) (sym t) ∙ itself i in cc in grind arith) in let r = rest less in omega arith

missing-less : (m : ℕ) (taken : List ℕ) (i : ℕ) → i < m → is_in taken i ≡ false → missing m (taken ++ i ∷ []) + 1 ≤ missing m taken
unfolding missing
missing-less zero taken i l none = absurd (omega arith)
missing-less (suc m) taken i l none = subst (λ b. cond b 0 1 + missing m (taken ++ i ∷ []) + 1 ≤ cond (is_in taken m) 0 1 + missing m taken) (sym (in-push taken i m))
    (less_step i m taken (i == m) (is_in taken m) (missing m taken) (missing m (taken ++ i ∷ [])) refl refl none l (missing-most m taken i) (λ less. missing-less m taken i less none))

missing-all : (m : ℕ) (taken : List ℕ) → ((i : ℕ) → i < m → is_in taken i ≡ true) → missing m taken ≡ 0
unfolding missing
missing-all zero taken h = refl
missing-all (suc m) taken h = rw (h m (omega arith)) (let rest = missing-all m taken (λ i l. h i (omega arith)) in omega arith)

all_step : (m i : ℕ) (taken : List ℕ) (a b : Bool) (k : ℕ) → is_in taken m ≡ a → (i == m) ≡ b → cond a 0 1 + k ≡ 0 → i < suc m → (k ≡ 0 → i < m → is_in taken i ≡ true) → is_in taken i ≡ true
all_step m i taken false b k e f h l rest = absurd (omega arith)
all_step m i taken true true k e f h l rest = ap (is_in taken) (same i m f) ∙ e
all_step m i taken true false k e f h l rest = rest (omega arith) (let differ : i ≡ m → ⊥ = λ t. let yes : (i == m) ≡ true = ap (λ y. i == y) (sym t) ∙ itself i in cc in grind arith)

missing-zero : (m : ℕ) (taken : List ℕ) (i : ℕ) → missing m taken ≡ 0 → i < m → is_in taken i ≡ true
unfolding missing
missing-zero zero taken i h l = absurd (omega arith)
missing-zero (suc m) taken i h l = all_step m i taken (is_in taken m) (i == m) (missing m taken) refl refl h l (λ k s. missing-zero m taken i k s)

-- ---- what is true of the numbers taken so far

pub record IsFront (m : ℕ) (pairs : List (ℕ × ℕ)) (taken : List ℕ) (k : ℕ) : Type 0 where
  pub below : AllByRecursion (λ i. i < m) taken
  pub once : EachPair (λ i j. i ≢ j) taken
  pub kept : (i j : ℕ) → has_pair pairs i j ≡ true → is_in taken j ≡ true → stands taken i j ≡ true
  pub few : missing m taken + k ≤ m

last_step : (x a i : ℕ) (b c r s : Bool) → (x == i) ≡ b → (c || r) ≡ true → (r ≡ true → s ≡ true) → b ≡ false → cond b false (cond c true s) ≡ true
last_step x a i true c r s e h f none = cc
last_step x a i false true r s e h f none = refl
last_step x a i false false r s e h f none = f h

stands-last : (xs ys : List ℕ) (a i : ℕ) → is_in xs a ≡ true → is_in xs i ≡ false → stands (xs ++ ys) a i ≡ true
stands-last [] ys a i h none = cc
stands-last (x ∷ xs) ys a i h none = let parts = neither (x == i) (is_in xs i) none in last_step x a i (x == i) (x == a) (is_in xs a) (stands (xs ++ ys) a i) refl h (λ t. stands-last xs ys a i t parts.1) parts.0

absent : (xs : List ℕ) (i : ℕ) → is_in xs i ≡ false → AllByRecursion (λ x. AllByRecursion (λ y. x ≢ y) (i ∷ [])) xs
absent [] i h = tt
absent (x ∷ xs) i h = let parts = neither (x == i) (is_in xs i) h in ((λ e. let yes : (x == i) ≡ true = ap (λ y. x == y) (sym e) ∙ itself x in let no = parts.0 in cc, tt), absent xs i parts.1)

front_next : (m : ℕ) (pairs : List (ℕ × ℕ)) (taken : List ℕ) (k i : ℕ) → IsFront m pairs taken k → i < m → is_in taken i ≡ false → list_any (λ pair. pair.1 == i && not (is_in taken pair.0)) pairs ≡ false → IsFront m pairs (taken ++ i ∷ []) (k + 1)
front_next m pairs taken k i h l new free = record {
  below = all_append (λ j. j < m) taken (i ∷ []) h.below (l, tt);
  once = each_append (λ a b. a ≢ b) taken (i ∷ []) h.once (tt, tt) (absent taken i new);
  kept = λ a b pair there. elim (either (is_in taken b) (i == b) (sym (in-push taken i b) ∙ there)) [
    | inl old ↦ stands-append taken (i ∷ []) a b (h.kept a b pair old)
    | inr is ↦
        let e : i ≡ b = same i b is in
        let before : is_in taken a ≡ true = any_at pairs (is_in taken) a i free (subst (λ j. has_pair pairs a j ≡ true) (sym e) pair) in
        subst (λ j. stands (taken ++ i ∷ []) a j ≡ true) e (stands-last taken (i ∷ []) a i before new)
  ];
  few = let less = missing-less m taken i l new in let few = h.few in omega arith;
}

front_case : (m : ℕ) (pairs : List (ℕ × ℕ)) (taken : List ℕ) (k : ℕ) (o : Option ℕ) → first_below m (λ i. not (is_held_back (is_in taken) pairs i)) ≡ o → AreOrdered m pairs → IsFront m pairs taken k → k < m → IsFront m pairs (option_map_or (λ i. taken ++ i ∷ []) o taken) (k + 1)
front_case m pairs taken k (Some i) e order h l =
    let first = first_below-some m (λ i. not (is_held_back (is_in taken) pairs i)) i e in
    let free = neither (is_in taken i) _ (not_true (is_held_back (is_in taken) pairs i) first.holds) in
    front_next m pairs taken k i h first.below free.0 free.1
front_case m pairs taken k None e order h l = record {
  below = h.below;
  once = h.once;
  kept = h.kept;
  few = let none = missing-all m taken (λ i within. all_taken i within (is_in taken i) refl) in omega arith;
}
  where
    all_taken : (i : ℕ) → i < m → (b : Bool) → is_in taken i ≡ b → is_in taken i ≡ true
    all_taken i within true is = is
    all_taken i within false is =
        let next = next_from order.order taken i (in_from order.order i (order.complete.each i within)) is in
        let x : ℕ = next.0 in
        let at = next.1 in
        let free : list_any (λ pair. pair.1 == next.0 && not (is_in taken pair.0)) pairs ≡ false = none_waits pairs (is_in taken) next.0 (λ a pair. at.before a (stands-kept order.order pairs a next.0 order.kept pair)) in
        let waiting : is_held_back (is_in taken) pairs next.0 ≡ false = ap (λ b. b || list_any (λ pair. pair.1 == next.0 && not (is_in taken pair.0)) pairs) at.new ∙ free in
        let below : next.0 < m = below_of order.order next.0 order.complete.below at.there in
        let no = first_below-none m (λ i. not (is_held_back (is_in taken) pairs i)) next.0 e below in
        let yes : not (is_held_back (is_in taken) pairs next.0) ≡ true = not_false (is_held_back (is_in taken) pairs next.0) waiting in
        cc
      where
        below_of : (xs : List ℕ) (x : ℕ) → AllByRecursion (λ i. i < m) xs → is_in xs x ≡ true → x < m
        below_of [] x h there = cc
        below_of (y ∷ xs) x h there = elim (either (y == x) (is_in xs x) there) [ inl is ↦ subst (λ i. i < m) (same y x is) h.0 | inr later ↦ below_of xs x h.1 later ]

front : (m : ℕ) (pairs : List (ℕ × ℕ)) → AreOrdered m pairs → (k : ℕ) → k ≤ m → IsFront m pairs (taken_first m pairs k) k
front m pairs order zero l = record { below = tt; once = tt; kept = λ i j pair there. cc; few = let none = missing-none m in omega arith }
front m pairs order (suc k) l =
    subst (λ n. IsFront m pairs (taken_first m pairs (suc k)) n) (omega arith)
    (front_case m pairs (taken_first m pairs k) k (first_below m (λ i. not (is_held_back (is_in (taken_first m pairs k)) pairs i))) refl order (front m pairs order k (omega arith)) (omega arith))

keeps_from : (m : ℕ) (taken : List ℕ) (pairs : List (ℕ × ℕ)) → ((i : ℕ) → i < m → is_in taken i ≡ true) → AreKnown m pairs → ((i j : ℕ) → has_pair pairs i j ≡ true → is_in taken j ≡ true → stands taken i j ≡ true) → Keeps taken pairs
keeps_from m taken [] all known h = tt
keeps_from m taken (pair ∷ pairs) all known h = (
  places-from taken pair.0 pair.1 (h pair.0 pair.1 (has_pair-first pair pairs) (all pair.1 known.0.1)),
  keeps_from m taken pairs all known.1 (λ i j there in'. h i j (has_pair-later pair pairs i j there) in'),
)

pub record IsOrder (m : ℕ) (pairs : List (ℕ × ℕ)) (order : List ℕ) : Type 0 where
  pub listed : ListsOnce m order
  pub kept : Keeps order pairs

pub least_order-is : (m : ℕ) (pairs : List (ℕ × ℕ)) → AreOrdered m pairs → IsOrder m pairs (least_order m pairs)
least_order-is m pairs order =
    let h = front m pairs order m (omega arith) in
    let all : (i : ℕ) → i < m → is_in (least_order m pairs) i ≡ true = λ i l. missing-zero m (least_order m pairs) i (let few = h.few in omega arith) l in
    record {
      listed = record { below = h.below; each = λ i l. in_is (least_order m pairs) i (all i l); once = h.once };
      kept = keeps_from m (least_order m pairs) pairs all order.known h.kept;
    }

-- ---- as marks

found_step : (m k : ℕ) (p : ℕ → Bool) → p k ≡ true → first_below k p ≡ None → k < suc m → (k < m → first_below m p ≡ Some k) → (b : Bool) → (k == m) ≡ b → option_map_or (λ j. Some j) (first_below m p) (cond (p m) (Some m) None) ≡ Some k
found_step m k p h none l rest true e =
    let is : k ≡ m = same k m e in
    ap (λ o. option_map_or (λ j. Some j) o (cond (p m) (Some m) None)) (ap (λ n. first_below n p) (sym is) ∙ none) ∙ ap (λ b. cond b (Some m) None) (ap p (sym is) ∙ h) ∙ ap Some (sym is)
found_step m k p h none l rest false e =
    let less : k < m = (let differ : k ≡ m → ⊥ = λ t. let yes : (k == m) ≡ true = ap (λ y. k == y) (sym t) ∙ itself k in cc in grind arith) in
    ap (λ o. option_map_or (λ j. Some j) o (cond (p m) (Some m) None)) (rest less)

-- none before k passes, and k does
pub first_below-found : (m k : ℕ) (p : ℕ → Bool) → p k ≡ true → first_below k p ≡ None → k < m → first_below m p ≡ Some k
first_below-found zero k p h none l = absurd (omega arith)
first_below-found (suc m) k p h none l = found_step m k p h none l (λ less. first_below-found m k p h none less) (k == m) refl

pub with_next-some : (m : ℕ) (pairs : List (ℕ × ℕ)) (taken : List ℕ) (i : ℕ) → first_below m (λ i. not (is_held_back (is_in taken) pairs i)) ≡ Some i → with_next m pairs taken ≡ taken ++ i ∷ []
with_next-some m pairs taken i h = ap (λ o. option_map_or (λ i. taken ++ i ∷ []) o taken) h

pub taken-more : (order : List ℕ) (taken new : List Bool) (next i : ℕ) → next < length taken → new ≡ slice_set taken next true → ((j : ℕ) → is_marked taken j ≡ is_in order j) → is_marked new i ≡ is_in (order ++ next ∷ []) i
taken-more order taken new next i l e h = ap (λ ms. is_marked ms i) e ∙ marked-set taken next i l ∙ ap (λ b. b || (next == i)) (h i) ∙ sym (in-push order next i)
