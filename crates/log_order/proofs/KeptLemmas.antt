-- What is kept beside the pairs, under a further number and a further pair.
use Rattle.std.proofs.Common.{◌≡◌, ℕ, zero, suc, ◌+◌, ◌<◌, Bool, true, false, cond, not, ◌||◌, ◌&&◌, List, [], ◌∷◌, ◌++◌, length, get_or, refl, arith, ap, sym, ◌∙◌, subst, length-append}
use Rattle.std.specs.Prelude.{◌==◌, slice_set}
use Rattle.std.specs.List.{filter}
use Rattle.std.proofs.lemmas.List.Filters.{length-filter_both}
use Rattle.des_base.proofs.Elements.{all_split}
use Rattle.log_order.specs.Log.{AreKnown, AreOrdered, ListsOnce, StandOnce, place_in, has_pair, reaches}
use Rattle.log_order.specs.Adding.{with_pair}
use Rattle.log_order.proofs.Places.{places-from}
use Rattle.log_order.specs.Precedence.{is_in, is_marked, moved, with_follower, IsKeptOrder}
use Rattle.log_order.proofs.Reaching.{IsClosed, reaches-closed, reaches-itself}
use Rattle.log_order.proofs.OrderLemmas.{all_append, ListsOnce-push, Keeps-push, AreKnown-more, ListsOnce-moved, Keeps-moved_new, Keeps-cycle, stands-kept}
use Rattle.des_base.proofs.BoolLemmas.{itself, neither, otherwise, same, differ, or_assoc}
use Rattle.log_order.proofs.MarkLemmas.{in-push, or_false, eq_suc}
use Rattle.std.proofs.lemmas.Bool.{and_left}

-- ---- a further number

get_or-none : (lists : List (List ℕ)) (i : ℕ) → get_or (lists ++ [] ∷ []) i [] ≡ get_or lists i []
get_or-none [] zero = refl
get_or-none [] (suc i) = refl
get_or-none (l ∷ ls) zero = refl
get_or-none (l ∷ ls) (suc i) = get_or-none ls i

pub IsKeptOrder-push : (pairs : List (ℕ × ℕ)) (order : List ℕ) (lists : List (List ℕ)) → IsKeptOrder pairs order lists → IsKeptOrder pairs (order ++ length order ∷ []) (lists ++ [] ∷ [])
IsKeptOrder-push pairs order lists h =
    let long : length (order ++ length order ∷ []) ≡ length order + 1 = length-append order (length order ∷ []) in
    record {
      known = subst (λ m. AreKnown m pairs) (sym long) (AreKnown-more (length order) pairs h.known);
      listed = subst (λ m. ListsOnce m (order ++ length order ∷ [])) (sym long) (ListsOnce-push (length order) order h.listed);
      kept = Keeps-push order (length order ∷ []) pairs h.kept;
      matched = length-append lists ([] ∷ []) ∙ ap (λ m. m + 1) h.matched ∙ sym long;
      followers = record { same = λ i j. ap (λ l. is_in l j) (get_or-none lists i) ∙ h.followers.same i j };
    }

-- ---- a further pair

pub has_pair-push : (pairs : List (ℕ × ℕ)) (a b i j : ℕ) → has_pair (pairs ++ (a, b) ∷ []) i j ≡ (has_pair pairs i j || (a == i && b == j))
has_pair-push [] a b i j = sym (or_false (a == i && b == j) false refl)
has_pair-push (pair ∷ pairs) a b i j = ap (λ t. (pair.0 == i && pair.1 == j) || t) (has_pair-push pairs a b i j) ∙ or_assoc (pair.0 == i && pair.1 == j) (has_pair pairs i j) (a == i && b == j)

follower-set : (lists : List (List ℕ)) (a b i j : ℕ) → a < length lists → is_in (get_or (with_follower lists a b) i []) j ≡ (is_in (get_or lists i []) j || (a == i && b == j))
follower-set [] a b i j l = absurd (omega arith)
follower-set (x ∷ xs) zero b zero j l = in-push x b j
follower-set (x ∷ xs) zero b (suc i) j l = or_false (is_in (get_or xs i []) j) _ (and_left (0 == suc i) (b == j) (differ 0 (suc i) (λ e. omega arith)))
follower-set (x ∷ xs) (suc a) b zero j l = or_false (is_in x j) _ (and_left (suc a == 0) (b == j) (differ (suc a) 0 (λ e. omega arith)))
follower-set (x ∷ xs) (suc a) b (suc i) j l = follower-set xs a b i j (omega arith) ∙ ap (λ t. is_in (get_or xs i []) j || (t && b == j)) (eq_suc a i)

length-set : (lists : List (List ℕ)) (a : ℕ) (l : List ℕ) → length (slice_set lists a l) ≡ length lists
length-set [] a l = refl
length-set (x ∷ xs) zero l = refl
length-set (x ∷ xs) (suc a) l = ap suc (length-set xs a l)

pub length-moved : (p : ℕ → Bool) (order : List ℕ) → length (moved p order) ≡ length order
length-moved p order = omega (arith, length-append (filter (λ x. not (p x)) order) (filter p order), length-filter_both p (λ x. not (p x)) (λ x. refl) order)

pub IsKeptOrder-with : (pairs : List (ℕ × ℕ)) (order : List ℕ) (lists : List (List ℕ)) (first second : ℕ) (marks : List Bool) → IsKeptOrder pairs order lists → first < length order → second < length order
    → ((i : ℕ) → is_marked marks i ≡ reaches pairs second i) → reaches pairs second first ≡ false → IsKeptOrder (pairs ++ (first, second) ∷ []) (moved (is_marked marks) order) (with_follower lists first second)
IsKeptOrder-with pairs order lists first second marks h l k same apart =
    let long : length (moved (is_marked marks) order) ≡ length order = length-moved (is_marked marks) order in
    let closed : IsClosed (is_marked marks) pairs = record { at = λ i j pair m. same j ∙ (reaches-closed pairs second).at i j pair (sym (same i) ∙ m) } in
    record {
      known = subst (λ m. AreKnown m (pairs ++ (first, second) ∷ [])) (sym long) (all_append (λ (pair : ℕ × ℕ). (pair.0 < length order) × (pair.1 < length order)) pairs ((first, second) ∷ []) h.known ((l, k), tt));
      listed = subst (λ m. ListsOnce m (moved (is_marked marks) order)) (sym long) (ListsOnce-moved (is_marked marks) (length order) order h.listed);
      kept = Keeps-moved_new (is_marked marks) (length order) order pairs first second h.listed closed h.kept l (same first ∙ apart) (same second ∙ reaches-itself pairs second);
      matched = length-set lists first _ ∙ h.matched ∙ sym long;
      followers = record { same = λ i j. follower-set lists first second i j (subst (λ m. first < m) (sym h.matched) l) ∙ ap (λ t. t || (first == i && second == j)) (h.followers.same i j) ∙ sym (has_pair-push pairs first second i j) };
    }

-- with lists that are equal to these
pub IsKeptOrder-as : (pairs new_pairs : List (ℕ × ℕ)) (order new_order : List ℕ) (lists new_lists : List (List ℕ)) → new_pairs ≡ pairs → new_order ≡ order → new_lists ≡ lists → IsKeptOrder pairs order lists → IsKeptOrder new_pairs new_order new_lists
IsKeptOrder-as pairs new_pairs order new_order lists new_lists e f g h =
    subst (λ p. IsKeptOrder p new_order new_lists) (sym e) (subst (λ o. IsKeptOrder pairs o new_lists) (sym f) (subst (λ l. IsKeptOrder pairs order l) (sym g) h))

-- ---- orders and cycles

with_case : (m : ℕ) (pairs : List (ℕ × ℕ)) (i j : ℕ) (b : Bool) → AreOrdered m pairs → i < m → j < m → reaches pairs j i ≡ false → AreOrdered m (cond b pairs (pairs ++ (i, j) ∷ []))
with_case m pairs i j true h l k apart = h
with_case m pairs i j false h l k apart = record {
  known = all_append (λ (pair : ℕ × ℕ). (pair.0 < m) × (pair.1 < m)) pairs ((i, j) ∷ []) h.known ((l, k), tt);
  order = moved (reaches pairs j) h.order;
  complete = ListsOnce-moved (reaches pairs j) m h.order h.complete;
  kept = Keeps-moved_new (reaches pairs j) m h.order pairs i j h.complete (reaches-closed pairs j) h.kept l apart (reaches-itself pairs j);
}

-- a pair that is new stands last
pub with_pair-new : (pairs : List (ℕ × ℕ)) (i j : ℕ) → has_pair pairs i j ≡ false → with_pair pairs i j ≡ pairs ++ (i, j) ∷ []
with_pair-new pairs i j new = ap (λ b. cond b pairs (pairs ++ (i, j) ∷ [])) new

-- a pair that closes no cycle leaves an order
pub AreOrdered-with : (m : ℕ) (pairs : List (ℕ × ℕ)) (i j : ℕ) → AreOrdered m pairs → i < m → j < m → reaches pairs j i ≡ false → AreOrdered m (with_pair pairs i j)
AreOrdered-with m pairs i j h l k apart = with_case m pairs i j (has_pair pairs i j) h l k apart

cycle_case : (m : ℕ) (pairs : List (ℕ × ℕ)) (i j : ℕ) (b : Bool) → has_pair pairs i j ≡ b → reaches pairs j i ≡ true → AreOrdered m (cond b pairs (pairs ++ (i, j) ∷ [])) → ⊥
cycle_case m pairs i j true e r h = Keeps-cycle h.order pairs i j h.kept (places-from h.order i j (stands-kept h.order pairs i j h.kept e)) r
cycle_case m pairs i j false e r h =
    let parts = all_split (λ (pair : ℕ × ℕ). place_in h.order pair.0 < place_in h.order pair.1) pairs ((i, j) ∷ []) h.kept in
    Keeps-cycle h.order pairs i j parts.0 parts.1.0 r

-- and one that closes a cycle leaves none
pub AreOrdered-cycle : (m : ℕ) (pairs : List (ℕ × ℕ)) (i j : ℕ) → reaches pairs j i ≡ true → AreOrdered m (with_pair pairs i j) → ⊥
AreOrdered-cycle m pairs i j r h = cycle_case m pairs i j (has_pair pairs i j) refl r h

-- ---- pairs that stand once

pub turned : (x y : ℕ) (b : Bool) → (x == y) ≡ b → (y == x) ≡ b
turned x y true h = ap (λ z. y == z) (same x y h) ∙ itself y
turned x y false h = otherwise (y == x) (λ e. let k : (x == y) ≡ true = ap (λ z. x == z) (same y x e) ∙ itself x in cc)

pub not_both : (a b c d : Bool) → a ≡ c → b ≡ d → (a && b) ≡ false → (c && d) ≡ false
not_both a b c d e f h = cc

pub StandOnce-push : (pairs : List (ℕ × ℕ)) (i j : ℕ) → StandOnce pairs → has_pair pairs i j ≡ false → StandOnce (pairs ++ (i, j) ∷ [])
StandOnce-push [] i j h new = (refl, tt)
StandOnce-push (pair ∷ pairs) i j h new =
    let parts = neither (pair.0 == i && pair.1 == j) (has_pair pairs i j) new in
    let apart : (i == pair.0 && j == pair.1) ≡ false = not_both (pair.0 == i) (pair.1 == j) (i == pair.0) (j == pair.1) (sym (turned pair.0 i (pair.0 == i) refl)) (sym (turned pair.1 j (pair.1 == j) refl)) parts.0 in
    (has_pair-push pairs i j pair.0 pair.1 ∙ ap (λ b. b || (i == pair.0 && j == pair.1)) h.0 ∙ apart, StandOnce-push pairs i j h.1 parts.1)
