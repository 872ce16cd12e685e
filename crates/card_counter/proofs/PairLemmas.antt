-- The clauses of all pairs of a list.
use Rattle.std.proofs.Common.{◌≡◌, ℕ, zero, suc, ◌+◌, ◌*◌, ◌-◌, ◌<◌, ◌≤◌, ◌∙◌, Bool, true, false, List, [], ◌∷◌, ◌++◌, map, length, take, drop, Some, refl, sym, ap, arith, slice_get, IsTrue, not, ◌||◌, append_assoc, append-nil, length-append, get_or}
use Rattle.std.proofs.Math.Nat.{suc-mul, mul-suc}
use Rattle.std.proofs.lemmas.List.{length-map, length-take-le, take-append-drop}
use Rattle.std.proofs.lemmas.Option.{slice_get-get_or}
use Rattle.std.specs.Bool.{beq}
use Rattle.std.specs.List.{AllByRecursion}
use Rattle.des_base.proofs.Elements.{all_append, all_split, all_change, some_at, take_push}
use Rattle.des_base.specs.Lists.{EachPair}
use Rattle.prop_core.proofs.Premises.{opposite}
use Rattle.prop_core.specs.declared.lit.Lit.{Lit}
use Rattle.prop_core.specs.Clauses.{Clause, negation, literal_true, clause_true, AllClausesTrue}
use Rattle.card_counter.proofs.ListLemmas.{all_both}
use Rattle.card_counter.specs.AtMostOne.{AreNotBothTrue, not_both, pairs_after, excluded_pairs, AtMostOneTrue}
use Rattle.std.specs.Prelude.{◌↔◌}

-- The clauses of all pairs are true exactly if at most one input is.
abbrev pub PairsExclude : Type 0
PairsExclude = (value : ℕ → Bool) (inputs : List Lit) → AllClausesTrue value (excluded_pairs inputs) ↔ AtMostOneTrue value inputs

-- ---- the pairs of a longer list

pub pairs_append : (earlier xs ys : List Lit) → pairs_after earlier (xs ++ ys) ≡ pairs_after earlier xs ++ pairs_after (earlier ++ xs) ys
pairs_append earlier [] ys = ap (λ zs. pairs_after zs ys) (sym (append-nil earlier))
pairs_append earlier (x ∷ xs) ys =
    ap (λ rest. map (not_both x) earlier ++ rest) (pairs_append (earlier ++ x ∷ []) xs ys)
    ∙ ap (λ zs. map (not_both x) earlier ++ (pairs_after (earlier ++ x ∷ []) xs ++ pairs_after zs ys)) (append_assoc earlier (x ∷ []) xs)
    ∙ sym (append_assoc (map (not_both x) earlier) (pairs_after (earlier ++ x ∷ []) xs) (pairs_after (earlier ++ x ∷ xs) ys))

pub pairs_more : (xs : List Lit) (x : Lit) → excluded_pairs (xs ++ x ∷ []) ≡ excluded_pairs xs ++ map (not_both x) xs
pairs_more xs x = pairs_append [] xs (x ∷ []) ∙ ap (λ ys. excluded_pairs xs ++ ys) (append-nil (map (not_both x) xs))

pub pairs_take : (inputs : List Lit) (k : ℕ) (x : Lit) → slice_get inputs k ≡ Some x → excluded_pairs (take (suc k) inputs) ≡ excluded_pairs (take k inputs) ++ map (not_both x) (take k inputs)
pairs_take inputs k x h = ap excluded_pairs (take_push inputs k x h) ∙ pairs_more (take k inputs) x

pub pairs_next : (inputs : List Lit) (k : ℕ) (d : Lit) → k < length inputs → excluded_pairs (take (k + 1) inputs) ≡ excluded_pairs (take k inputs) ++ map (not_both (get_or inputs k d)) (take k inputs)
pairs_next inputs k d h =
    let next : k + 1 ≡ suc k = omega arith in
    rw next (pairs_take inputs k (get_or inputs k d) (slice_get-get_or inputs k d h))

-- ---- what they say

negation_from : (a b : Bool) → (beq a b ≡ true → ⊥) → beq a (not b) ≡ true
negation_from true true h = absurd (h refl)
negation_from true false h = refl
negation_from false true h = refl
negation_from false false h = absurd (h refl)

module _ (value : ℕ → Bool) where
  excludes : (x y : Lit) → IsTrue (clause_true value (not_both x y)) → AreNotBothTrue value y x
  excludes x y h first second = by (literal_true value (negation y)) refl (literal_true value (negation x)) refl h
    where
      by : (a : Bool) → literal_true value (negation y) ≡ a → (b : Bool) → literal_true value (negation x) ≡ b → a || (b || false) ≡ true → ⊥
      by true e b f g = opposite (value y.var) y.positive e first
      by false e true f g = opposite (value x.var) x.positive f second
      by false e false f g = cc

  excluded : (x y : Lit) → AreNotBothTrue value y x → IsTrue (clause_true value (not_both x y))
  excluded x y apart = by (literal_true value y) refl
    where
      by : (a : Bool) → literal_true value y ≡ a → IsTrue (clause_true value (not_both x y))
      by true e = let other = negation_from (value x.var) x.positive (apart e) in by_last (literal_true value (negation y)) other
        where
          by_last : (b : Bool) → literal_true value (negation x) ≡ true → b || (literal_true value (negation x) || false) ≡ true
          by_last true f = refl
          by_last false f = rw f refl
      by false e = let other = negation_from (value y.var) y.positive (λ h. cc) in rw other refl

  each_excludes : (x : Lit) (earlier : List Lit) → AllClausesTrue value (map (not_both x) earlier) → AllByRecursion (λ y. AreNotBothTrue value y x) earlier
  each_excludes x [] all = tt
  each_excludes x (y ∷ earlier) all = (excludes x y all.0, each_excludes x earlier all.1)

  each_excluded : (x : Lit) (earlier : List Lit) → AllByRecursion (λ y. AreNotBothTrue value y x) earlier → AllClausesTrue value (map (not_both x) earlier)
  each_excluded x [] all = tt
  each_excluded x (y ∷ earlier) all = (excluded x y all.0, each_excluded x earlier all.1)

  -- each later input with each earlier one
  abbrev Across : List Lit → List Lit → Type 0
  Across earlier later = AllByRecursion (λ x. AllByRecursion (λ y. AreNotBothTrue value y x) earlier) later

  pairs_say : (earlier later : List Lit) → AllClausesTrue value (pairs_after earlier later) → Across earlier later × EachPair (AreNotBothTrue value) later
  pairs_say earlier [] all = (tt, tt)
  pairs_say earlier (x ∷ later) all =
      let both = all_split (λ clause. IsTrue (clause_true value clause)) (map (not_both x) earlier) (pairs_after (earlier ++ x ∷ []) later) all in
      let rest = pairs_say (earlier ++ x ∷ []) later both.1 in (
        (
          each_excludes x earlier both.0,
          all_change (λ z. AllByRecursion (λ y. AreNotBothTrue value y z) (earlier ++ x ∷ [])) (λ z. AllByRecursion (λ y. AreNotBothTrue value y z) earlier) later
              (λ z h. (all_split (λ y. AreNotBothTrue value y z) earlier (x ∷ []) h).0) rest.0,
        ),
        (
          all_change (λ z. AllByRecursion (λ y. AreNotBothTrue value y z) (earlier ++ x ∷ [])) (AreNotBothTrue value x) later
              (λ z h. (all_split (λ y. AreNotBothTrue value y z) earlier (x ∷ []) h).1.0) rest.0,
          rest.1,
        ),
      )

  pairs_said : (earlier later : List Lit) → Across earlier later → EachPair (AreNotBothTrue value) later → AllClausesTrue value (pairs_after earlier later)
  pairs_said earlier [] across pairs = tt
  pairs_said earlier (x ∷ later) across pairs =
      all_append (λ clause. IsTrue (clause_true value clause)) (map (not_both x) earlier) (pairs_after (earlier ++ x ∷ []) later)
      (each_excluded x earlier across.0)
      (pairs_said (earlier ++ x ∷ []) later
      (all_change (λ z. AllByRecursion (λ y. AreNotBothTrue value y z) earlier × AreNotBothTrue value x z) (λ z. AllByRecursion (λ y. AreNotBothTrue value y z) (earlier ++ x ∷ [])) later
      (λ z h. all_append (λ y. AreNotBothTrue value y z) earlier (x ∷ []) h.0 (h.1, tt))
      (all_both (λ z. AllByRecursion (λ y. AreNotBothTrue value y z) earlier) (AreNotBothTrue value x) later across.1 pairs.0)) pairs.1)

  none_across : (later : List Lit) → Across [] later
  none_across [] = tt
  none_across (x ∷ later) = (tt, none_across later)

pub pairs_exclude : PairsExclude
pairs_exclude value inputs = ((λ all. (pairs_say value [] inputs all).1), (λ pairs. pairs_said value [] inputs (none_across value inputs) pairs))

-- ---- how many they are

next_product : (n : ℕ) → suc n * n ≡ n * (n - 1) + (n + n)
next_product zero = refl
next_product (suc n) =
    let less : suc n - 1 ≡ n = omega arith in
    rw less (omega (arith, suc-mul (suc n) (suc n), mul-suc (suc n) n))

count_after : (earlier later : List Lit) →
    length (pairs_after earlier later) + length (pairs_after earlier later) + length earlier * (length earlier - 1) ≡ (length earlier + length later) * (length earlier + length later - 1)
count_after earlier [] = let same : length earlier + 0 ≡ length earlier = omega arith in rw same (omega arith)
count_after earlier (x ∷ later) =
    let rest = count_after (earlier ++ x ∷ []) later in
    let longer : length (earlier ++ x ∷ []) ≡ suc (length earlier) = omega (arith, length-append earlier (x ∷ [])) in
    let less : suc (length earlier) - 1 ≡ length earlier = omega arith in
    let sum : suc (length earlier) + length later ≡ length earlier + suc (length later) = omega arith in
    let here = simp (longer, less, sum) at rest in
    omega (arith, here, next_product (length earlier), length-append (map (not_both x) earlier) (pairs_after (earlier ++ x ∷ []) later), length-map earlier (not_both x))

pub pairs_count : (inputs : List Lit) → length (excluded_pairs inputs) + length (excluded_pairs inputs) ≡ length inputs * (length inputs - 1)
pairs_count inputs =
    let sum : 0 + length inputs ≡ length inputs = omega arith in
    let here = rw sum at (count_after [] inputs) in
    omega (arith, here)

-- the pairs of a place and of those before it are within all
pub pairs_within : (inputs : List Lit) (k : ℕ) → k < length inputs → length (excluded_pairs (take k inputs)) + k ≤ length (excluded_pairs inputs)
pairs_within inputs k h =
    let at = some_at inputs k h in
    let front = pairs_take inputs k at.0 at.1 in
    let whole : excluded_pairs (take (suc k) inputs ++ drop (suc k) inputs) ≡ excluded_pairs inputs = ap excluded_pairs (take-append-drop (suc k) inputs) in
    let parts = pairs_append [] (take (suc k) inputs) (drop (suc k) inputs) in
    omega (
      arith,
      ap length front,
      ap length whole,
      ap length parts,
      length-append (excluded_pairs (take k inputs)) (map (not_both at.0) (take k inputs)),
      length-append (excluded_pairs (take (suc k) inputs)) (pairs_after (take (suc k) inputs) (drop (suc k) inputs)),
      length-map (take k inputs) (not_both at.0),
      length-take-le k inputs (omega arith),
    )

-- ---- one more place

pub push_next : (inputs : List Lit) (k : ℕ) (d : Lit) (old mid new : List Clause) → k < length inputs → mid ≡ old ++ excluded_pairs (take k inputs) →
    new ≡ mid ++ map (not_both (get_or inputs k d)) (take k inputs) → new ≡ old ++ excluded_pairs (take (k + 1) inputs)
push_next inputs k d old mid new h before now =
    now ∙ ap (λ xs. xs ++ map (not_both (get_or inputs k d)) (take k inputs)) before
    ∙ append_assoc old (excluded_pairs (take k inputs)) (map (not_both (get_or inputs k d)) (take k inputs))
    ∙ ap (λ xs. old ++ xs) (sym (pairs_next inputs k d h))

pub pairs_next_count : (inputs : List Lit) (k : ℕ) → k < length inputs → length (excluded_pairs (take (k + 1) inputs)) ≡ length (excluded_pairs (take k inputs)) + length (take k inputs)
pairs_next_count inputs k h =
    let at = some_at inputs k h in
    omega (
      arith,
      ap length (pairs_next inputs k at.0 h),
      length-append (excluded_pairs (take k inputs)) (map (not_both (get_or inputs k at.0)) (take k inputs)),
      length-map (take k inputs) (not_both (get_or inputs k at.0)),
    )

-- the pairs of a place have room where all have
pub has_room : (inputs : List Lit) (k spare start : ℕ) → k < length inputs → spare + length (excluded_pairs (take k inputs)) ≡ start → length (excluded_pairs inputs) ≤ start → length (take k inputs) ≤ spare
has_room inputs k spare start h used room = omega (arith, pairs_within inputs k h, length-take-le k inputs (omega arith))

pub has_room_twice : (inputs : List Lit) (k spare start : ℕ) → k < length inputs → spare + 2 * length (excluded_pairs (take k inputs)) ≡ start → 2 * length (excluded_pairs inputs) ≤ start → 2 * length (take k inputs) ≤ spare
has_room_twice inputs k spare start h used room = omega (arith, pairs_within inputs k h, length-take-le k inputs (omega arith))
