-- Tests on lists of numbers, of labels and of pairs mean what the definitions say.
use Rattle.std.proofs.Common.{◌≡◌, ◌≢◌, ℕ, zero, suc, ◌<◌, Bool, true, false, cond, not, ◌||◌, ◌&&◌, List, [], ◌∷◌, ◌++◌, Option, None, Some, refl, arith, ap, sym, ◌∙◌, subst, Contains, inl, inr}
use Rattle.std.specs.Prelude.{◌==◌, nat_lt, bytes_eq, is_none}
use Rattle.std.specs.List.{AllByRecursion, list_any, list_all}
use Rattle.std.specs.Option.{option_map_or}
use Rattle.std.proofs.lemmas.Slice.Eq.{bytes_eq-Decides}
use Rattle.des_base.specs.Lists.{EachPair}
use Rattle.des_base.proofs.BoolLemmas.{both, join, either, neither, or_left, or_right, not_false, not_true, not_is_false, otherwise, same, itself, is_less, less_is}
use Rattle.log_order.proofs.MarkLemmas.{in-push}
use Rattle.log_order.specs.Log.{ListsOnce, Keeps, place_in}
use Rattle.log_order.specs.Order.{first_below}
use Rattle.log_order.specs.Precedence.{is_in}
use Rattle.log_order.proofs.LeastOrder.{first_below-none}
use Rattle.log_order.proofs.Places.{in_from, in_is}
use Rattle.replay.specs.Matching.{missing_alarm, wrong_pair}
use Rattle.replay.specs.Deciding.{is_distinct, lists_once}

pub none_is : {X : Type 0} (o : Option X) → is_none o ≡ true → o ≡ None
none_is None h = refl
none_is (Some x) h = cc

-- ---- labels

first_in : (x : List ℕ) (xs : List (List ℕ)) → Contains (x ∷ xs) x
first_in x xs = (0, omega arith, refl)

later_in : (x y : List ℕ) (xs : List (List ℕ)) → Contains xs y → Contains (x ∷ xs) y
later_in x y xs (k, below, is) = (suc k, omega arith, is)

pub text_in : (text : List ℕ) (texts : List (List ℕ)) → list_any (bytes_eq text) texts ≡ true → Contains texts text
text_in text [] h = cc
text_in text (x ∷ xs) h = elim (either (bytes_eq text x) (list_any (bytes_eq text) xs) h) [
  | inl here ↦ subst (λ (y : List ℕ). Contains (y ∷ xs) text) ((bytes_eq-Decides text x).0 here) (first_in text xs)
  | inr later ↦ later_in x text xs (text_in text xs later)
]

pub in_text : (text : List ℕ) (texts : List (List ℕ)) → Contains texts text → list_any (bytes_eq text) texts ≡ true
in_text text [] (k, below, is) = absurd (omega arith)
in_text text (x ∷ xs) (zero, below, is) = or_left (bytes_eq text x) _ ((bytes_eq-Decides text x).1 (sym is))
in_text text (x ∷ xs) (suc k, below, is) = or_right (bytes_eq text x) _ (in_text text xs (k, omega arith, is))

-- ---- numbers that stand once

pub others_from : (x : ℕ) (xs : List ℕ) → is_in xs x ≡ false → AllByRecursion (λ j. x ≢ j) xs
others_from x [] none = tt
others_from x (y ∷ ys) none =
    let two = neither (y == x) (is_in ys x) none in
    (λ e. let k : (y == x) ≡ true = ap (λ n. y == n) e ∙ itself y in cc, others_from x ys two.1)

pub none_of : (x : ℕ) (xs : List ℕ) → AllByRecursion (λ j. x ≢ j) xs → is_in xs x ≡ false
none_of x [] others = refl
none_of x (y ∷ ys) others = otherwise (is_in (y ∷ ys) x) (λ some. elim (either (y == x) (is_in ys x) some) [
  | inl is ↦ others.0 (sym (same y x is))
  | inr later ↦ let none = none_of x ys others.1 in cc
])

pub distinct_from : (xs : List ℕ) → is_distinct xs ≡ true → EachPair (λ i j. i ≢ j) xs
distinct_from [] h = tt
distinct_from (x ∷ xs) h = let two = both (not (is_in xs x)) (is_distinct xs) h in (others_from x xs (not_true _ two.0), distinct_from xs two.1)

pub distinct_test : (xs : List ℕ) → EachPair (λ i j. i ≢ j) xs → is_distinct xs ≡ true
distinct_test [] h = refl
distinct_test (x ∷ xs) h = join (not (is_in xs x)) (is_distinct xs) (not_false _ (none_of x xs h.0)) (distinct_test xs h.1)

below_from : (m : ℕ) (xs : List ℕ) → list_all (λ i. nat_lt i m) xs ≡ true → AllByRecursion (λ i. i < m) xs
below_from m [] h = tt
below_from m (x ∷ xs) h = let two = both (nat_lt x m) (list_all (λ i. nat_lt i m) xs) h in (less_is x m two.0, below_from m xs two.1)

below_test : (m : ℕ) (xs : List ℕ) → AllByRecursion (λ i. i < m) xs → list_all (λ i. nat_lt i m) xs ≡ true
below_test m [] h = refl
below_test m (x ∷ xs) h = join (nat_lt x m) (list_all (λ i. nat_lt i m) xs) (is_less x m h.0) (below_test m xs h.1)

-- ---- all numbers are there

step_none : (o : Option ℕ) (b : Bool) (m : ℕ) → o ≡ None → b ≡ false → option_map_or (λ i. Some i) o (cond b (Some m) None) ≡ None
step_none None b m h e = ap (λ d. cond d (Some m) None) e
step_none (Some i) b m h e = cc

none_below : (m : ℕ) (p : ℕ → Bool) → ((i : ℕ) → i < m → p i ≡ false) → first_below m p ≡ None
none_below zero p h = refl
none_below (suc m) p h = step_none (first_below m p) (p m) m (none_below m p (λ i l. h i (omega arith))) (h m (omega arith))

pub each_from : (m : ℕ) (order : List ℕ) → missing_alarm m order ≡ None → (i : ℕ) → i < m → Contains order i
each_from m order none i l = in_is order i (not_is_false _ (first_below-none m (λ j. not (is_in order j)) i none l))

pub none_missing : (m : ℕ) (order : List ℕ) → ((i : ℕ) → i < m → Contains order i) → missing_alarm m order ≡ None
none_missing m order each = none_below m (λ j. not (is_in order j)) (λ i l. ap not (in_from order i (each i l)))

pub listed_from : (m : ℕ) (order : List ℕ) → lists_once m order ≡ true → ListsOnce m order
listed_from m order h =
    let two = both (list_all (λ i. nat_lt i m) order && is_none (missing_alarm m order)) (is_distinct order) h in
    let parts = both (list_all (λ i. nat_lt i m) order) (is_none (missing_alarm m order)) two.0 in
    record { below = below_from m order parts.0; each = each_from m order (none_is _ parts.1); once = distinct_from order two.1 }

pub listed_test : (m : ℕ) (order : List ℕ) → ListsOnce m order → lists_once m order ≡ true
listed_test m order h =
    join (list_all (λ i. nat_lt i m) order && is_none (missing_alarm m order)) (is_distinct order)
    (join (list_all (λ i. nat_lt i m) order) (is_none (missing_alarm m order)) (below_test m order h.below) (ap is_none (none_missing m order h.each)))
    (distinct_test order h.once)

-- ---- pairs

right_step : (b : Bool) (pair : ℕ × ℕ) (o : Option (ℕ × ℕ)) → cond (not b) (Some pair) o ≡ None → (b ≡ true) × (o ≡ None)
right_step true pair o h = (refl, h)
right_step false pair o h = cc

pub kept_from : (order : List ℕ) (pairs : List (ℕ × ℕ)) → wrong_pair order pairs ≡ None → Keeps order pairs
kept_from order [] h = tt
kept_from order (pair ∷ pairs) h =
    let two = right_step (nat_lt (place_in order pair.0) (place_in order pair.1)) pair (wrong_pair order pairs) h in
    (less_is _ _ two.0, kept_from order pairs two.1)

pub none_wrong : (order : List ℕ) (pairs : List (ℕ × ℕ)) → Keeps order pairs → wrong_pair order pairs ≡ None
none_wrong order [] h = refl
none_wrong order (pair ∷ pairs) h = ap (λ b. cond (not b) (Some pair) (wrong_pair order pairs)) (is_less _ _ h.0) ∙ none_wrong order pairs h.1

-- ---- one more number

pub fresh_split : (earlier : List ℕ) (i : ℕ) (order : List ℕ) → AllByRecursion (λ j. is_in (earlier ++ i ∷ []) j ≡ false) order
    → AllByRecursion (λ j. is_in earlier j ≡ false) order × AllByRecursion (λ j. i ≢ j) order
fresh_split earlier i [] h = (tt, tt)
fresh_split earlier i (j ∷ order) h =
    let rest = fresh_split earlier i order h.1 in
    let two = neither (is_in earlier j) (i == j) (sym (in-push earlier i j) ∙ h.0) in
    ((two.0, rest.0), (λ e. let k : (i == j) ≡ true = ap (λ n. i == n) (sym e) ∙ itself i in let no = two.1 in cc, rest.1))

pub fresh_both : (earlier : List ℕ) (i : ℕ) (order : List ℕ) → AllByRecursion (λ j. is_in earlier j ≡ false) order → AllByRecursion (λ j. i ≢ j) order
    → AllByRecursion (λ j. is_in (earlier ++ i ∷ []) j ≡ false) order
fresh_both earlier i [] fresh others = tt
fresh_both earlier i (j ∷ order) fresh others = (
  in-push earlier i j ∙ ap (λ b. b || (i == j)) fresh.0 ∙ otherwise (i == j) (λ is. others.0 (same i j is)),
  fresh_both earlier i order fresh.1 others.1,
)

pub fresh_none : (order : List ℕ) → AllByRecursion (λ j. is_in [] j ≡ false) order
fresh_none [] = tt
fresh_none (j ∷ order) = (refl, fresh_none order)
