-- The clauses of an "at most one", one after another.
use Rattle.std.proofs.Common.{◌≡◌, ℕ, zero, suc, ◌+◌, ◌-◌, ◌*◌, ◌<◌, ◌≤◌, ◌∙◌, Bool, true, false, cond, List, [], ◌∷◌, ◌++◌, map, flat_map, length, take, Some, refl, sym, ap, subst, arith, tests, Contains, slice_get, get_or, nat_le, nat_lt, length-append}
use Rattle.des_base.specs.ChainCount.{chain_count}
use Rattle.std.specs.List.{AllZip, range_with_len}
use Rattle.std.proofs.lemmas.Bool.{ltb-true, lt-ltb}
use Rattle.std.proofs.lemmas.List.FromFn.{length-map-range_with_len}
use Rattle.std.proofs.lemmas.Option.{slice_get_within, slice_get-get_or, get_or_from_slice_get}
use Rattle.des_base.proofs.Elements.{some_at, zip_append, take_whole, take_push}
use Rattle.prop_core.specs.declared.lit.Lit.{Lit}
use Rattle.prop_core.specs.Clauses.{Clause, negation}
use Rattle.prop_core.specs.VariableNames.{Meaning, Exclusion, asked, some_of_first, NamedLiteral, yes, no, named_literal, named_clause}
use Rattle.prop_core.proofs.FamilyLemmas.{code_same}
use Rattle.card_counter.proofs.CodeLemmas.{read_negation, read_two}
use Rattle.card_counter.proofs.Exclusions.{count as called_count, input_reads, open_reads}
use Rattle.card_counter.proofs.ListLemmas.{map_as_flat, flat_next, flat_of, flat_contains, map_of, map_contains}
use Rattle.card_counter.proofs.PairLemmas.{pairs_take}
use Rattle.card_counter.specs.AtMostOne.{not_both, excluded_pairs, link_clauses, chain_clauses, exclusion_clauses, IsNamedChain, ExclusionIsCode, ExclusionIsListed}
use Rattle.card_counter.specs.CounterState.{positive, negative, input_at}
use Rattle.card_counter.specs.Exclusions.{ExclusionClause, exclusion_clause, IsExclusionClause, two, opens, goes_on, shuts_out, input_meaning, pairs_with, link_at, ExclusionsAreListed, named_exclusion, IsNamedExclusion, exclusion_list}
use Rattle.std.proofs.lemmas.List.{map-append}
use Rattle.prop_core.proofs.Listed.{Has, has_map, listed_are_code, listed_from}

-- ---- which they are

few_inputs : (n : ℕ) → nat_le n 4 ≡ true → n ≤ 4
few_inputs n e = search (arith, tests)

many_inputs : (n : ℕ) → nat_le n 4 ≡ false → 5 ≤ n
many_inputs n e = search (arith, tests)

input_at_place : (inputs : List Meaning) (i : ℕ) → i < length inputs → slice_get inputs i ≡ Some (input_meaning inputs i)
input_at_place inputs i h = slice_get-get_or inputs i asked h

input_is : (inputs : List Meaning) (i : ℕ) (x : Meaning) → slice_get inputs i ≡ Some x → input_meaning inputs i ≡ x
input_is inputs i x at = get_or_from_slice_get inputs i x asked at

pairs_to : (inputs : List Meaning) (which : ExclusionClause) → length inputs ≤ 4 → Contains (flat_map (pairs_with inputs) (range_with_len 0 (length inputs))) which → IsExclusionClause inputs which
pairs_to inputs which short in' =
    let row = flat_of (pairs_with inputs) (length inputs) which in' in
    let pair = map_of (λ i. two i row.0 (input_meaning inputs i) (input_meaning inputs row.0)) row.0 which row.2 in
    subst (IsExclusionClause inputs) pair.2 (short, pair.1, input_at_place inputs pair.0 (omega (arith, row.1, pair.1)), input_at_place inputs row.0 row.1)

pairs_back : (inputs : List Meaning) (which : ExclusionClause) → length inputs ≤ 4 → IsExclusionClause inputs which → Contains (flat_map (pairs_with inputs) (range_with_len 0 (length inputs))) which
pairs_back inputs (two i j x y) short (few, less, at_i, at_j) =
    let here = map_contains (λ k. two k j (input_meaning inputs k) (input_meaning inputs j)) j i less in
    flat_contains (pairs_with inputs) (length inputs) j (two i j x y) (slice_get_within inputs j y at_j)
    (subst (λ a. Contains (pairs_with inputs j) (two i j a y)) (input_is inputs i x at_i) (subst (λ b. Contains (pairs_with inputs j) (two i j (input_meaning inputs i) b)) (input_is inputs j y at_j) here))
pairs_back inputs (opens i x) short (long, below, at) = absurd (omega (arith, short, long))
pairs_back inputs (goes_on i) short (long, below) = absurd (omega (arith, short, long))
pairs_back inputs (shuts_out i x) short (long, at) = absurd (omega (arith, short, long))

link_to : (inputs : List Meaning) (which : ExclusionClause) (i : ℕ) → 5 ≤ length inputs → i < length inputs - 1 → Contains (link_at inputs i) which → IsExclusionClause inputs which
link_to inputs which i long below (zero, inside, is) = subst (IsExclusionClause inputs) is (long, omega (arith, below), input_at_place inputs i (omega (arith, below)))
link_to inputs which i long below (suc zero, inside, is) = subst (IsExclusionClause inputs) is (long, input_at_place inputs (suc i) (omega (arith, below)))
link_to inputs which i long below (suc (suc k), inside, is) = by (nat_lt (suc i) (length inputs - 1)) refl k inside is
  where
    last : (p : ℕ) → p < 1 → get_or (goes_on i ∷ []) p which ≡ which → goes_on i ≡ which
    last zero h at = at
    last (suc p) h at = absurd (omega (arith, h))

    by : (b : Bool) → nat_lt (suc i) (length inputs - 1) ≡ b → (p : ℕ) → suc (suc p) < suc (suc (length (cond b (goes_on i ∷ []) []))) → get_or (cond b (goes_on i ∷ []) []) p which ≡ which → IsExclusionClause inputs which
    by true e p h at = let less = ltb-true (suc i) (length inputs - 1) e in subst (IsExclusionClause inputs) (last p (omega (arith, h)) at) (long, omega (arith, less))
    by false e p h at = absurd (omega (arith, h))

chain_to : (inputs : List Meaning) (which : ExclusionClause) → 5 ≤ length inputs → Contains (flat_map (link_at inputs) (range_with_len 0 (length inputs - 1))) which → IsExclusionClause inputs which
chain_to inputs which long in' = let link = flat_of (link_at inputs) (length inputs - 1) which in' in link_to inputs which link.0 long link.1 link.2

chain_back : (inputs : List Meaning) (which : ExclusionClause) → 5 ≤ length inputs → IsExclusionClause inputs which → Contains (flat_map (link_at inputs) (range_with_len 0 (length inputs - 1))) which
chain_back inputs (two i j x y) long (few, less, at_i, at_j) = absurd (omega (arith, long, few))
chain_back inputs (opens i x) long (many, below, at) =
    flat_contains (link_at inputs) (length inputs - 1) i (opens i x) (omega (arith, below))
    (subst (λ a. Contains (link_at inputs i) (opens i a)) (input_is inputs i x at) (0, omega arith, refl))
chain_back inputs (goes_on i) long (many, below) =
    let less = lt-ltb (suc i) (length inputs - 1) (omega (arith, below)) in
    flat_contains (link_at inputs) (length inputs - 1) i (goes_on i) (omega (arith, below))
    (subst (λ b. Contains (opens i (input_meaning inputs i) ∷ shuts_out i (input_meaning inputs (suc i)) ∷ cond b (goes_on i ∷ []) []) (goes_on i)) (sym less) (2, omega arith, refl))
chain_back inputs (shuts_out i x) long (many, at) =
    let within = slice_get_within inputs (suc i) x at in
    flat_contains (link_at inputs) (length inputs - 1) i (shuts_out i x) (omega (arith, within))
    (subst (λ a. Contains (link_at inputs i) (shuts_out i a)) (input_is inputs (suc i) x at) (1, omega arith, refl))

-- ---- how many they are

pairs_size : (inputs : List Meaning) (m : ℕ) → 2 * length (flat_map (pairs_with inputs) (range_with_len 0 m)) + m ≡ m * m
pairs_size inputs zero = refl
pairs_size inputs (suc m) =
    let rest = pairs_size inputs m in
    let whole = ap length (flat_next (pairs_with inputs) m) in
    let both = length-append (flat_map (pairs_with inputs) (range_with_len 0 m)) (pairs_with inputs m) in
    let row = length-map-range_with_len (λ i. two i m (input_meaning inputs i) (input_meaning inputs m)) 0 m in
    let square = next_square m in
    omega (arith, rest, whole, both, row, square)
  where
    next_square : (k : ℕ) → suc k * suc k ≡ k * k + k + k + 1
    next_square k = grind arith

few_pairs : (l m : ℕ) → 2 * l + m ≡ m * m → m ≤ 4 → l ≤ 3 * m
few_pairs l zero h few = omega (arith, h)
few_pairs l (suc zero) h few = omega (arith, h)
few_pairs l (suc (suc zero)) h few = omega (arith, h)
few_pairs l (suc (suc (suc zero))) h few = omega (arith, h)
few_pairs l (suc (suc (suc (suc zero)))) h few = omega (arith, h)
few_pairs l (suc (suc (suc (suc (suc m))))) h few = absurd (omega (arith, few))

link_size : (inputs : List Meaning) (i : ℕ) → length (link_at inputs i) ≤ 3
link_size inputs i = by (nat_lt (suc i) (length inputs - 1))
  where
    by : (b : Bool) → suc (suc (length (cond b (goes_on i ∷ []) []))) ≤ 3
    by true = omega arith
    by false = omega arith

chain_size : (inputs : List Meaning) (m : ℕ) → length (flat_map (link_at inputs) (range_with_len 0 m)) ≤ 3 * m
chain_size inputs zero = omega arith
chain_size inputs (suc m) =
    omega (arith, chain_size inputs m, ap length (flat_next (link_at inputs) m), length-append (flat_map (link_at inputs) (range_with_len 0 m)) (link_at inputs m), link_size inputs m)

-- with one more clause they are still at most as many as pairs of inputs, in either order or with itself
pub fewer_than_square : (inputs : List Meaning) → 1 ≤ length inputs → length (exclusion_list inputs) + 1 ≤ length inputs * length inputs
fewer_than_square inputs some = by (nat_le (length inputs) 4) refl
  where
    pairs : List ExclusionClause
    pairs = flat_map (pairs_with inputs) (range_with_len 0 (length inputs))

    links : List ExclusionClause
    links = flat_map (link_at inputs) (range_with_len 0 (length inputs - 1))

    many : (m : ℕ) → 5 ≤ m → 3 * m ≤ m * m
    many m long = search (arith, long)

    by : (b : Bool) → nat_le (length inputs) 4 ≡ b → length (cond b pairs links) + 1 ≤ length inputs * length inputs
    by true e = omega (arith, pairs_size inputs (length inputs), some)
    by false e = omega (arith, chain_size inputs (length inputs - 1), many (length inputs) (many_inputs (length inputs) e), many_inputs (length inputs) e)

pub exclusions_are_listed : ExclusionsAreListed
exclusions_are_listed inputs = record {
  same = λ which. (to which (nat_le (length inputs) 4) refl, back which (nat_le (length inputs) 4) refl);
  few = few (nat_le (length inputs) 4) refl;
}
  where
    pairs : List ExclusionClause
    pairs = flat_map (pairs_with inputs) (range_with_len 0 (length inputs))

    links : List ExclusionClause
    links = flat_map (link_at inputs) (range_with_len 0 (length inputs - 1))

    to : (which : ExclusionClause) (b : Bool) → nat_le (length inputs) 4 ≡ b → Contains (cond b pairs links) which → IsExclusionClause inputs which
    to which true e in' = pairs_to inputs which (few_inputs (length inputs) e) in'
    to which false e in' = chain_to inputs which (many_inputs (length inputs) e) in'

    back : (which : ExclusionClause) (b : Bool) → nat_le (length inputs) 4 ≡ b → IsExclusionClause inputs which → Contains (cond b pairs links) which
    back which true e is = pairs_back inputs which (few_inputs (length inputs) e) is
    back which false e is = chain_back inputs which (many_inputs (length inputs) e) is

    few : (b : Bool) → nat_le (length inputs) 4 ≡ b → length (cond b pairs links) ≤ 3 * length inputs
    few true e = few_pairs (length pairs) (length inputs) (pairs_size inputs (length inputs)) (few_inputs (length inputs) e)
    few false e = omega (arith, chain_size inputs (length inputs - 1))

-- ---- how they read

zip_flat : {A B : Type 0} (R : A → B → Type 0) (f : ℕ → List A) (g : ℕ → List B) (n : ℕ) → ((i : ℕ) → i < n → AllZip R (f i) (g i)) → AllZip R (flat_map f (range_with_len 0 n)) (flat_map g (range_with_len 0 n))
zip_flat R f g zero each = tt
zip_flat R f g (suc n) each =
    subst (λ xs. AllZip R xs (flat_map g (range_with_len 0 (suc n)))) (sym (flat_next f n))
    (subst (λ ys. AllZip R (flat_map f (range_with_len 0 n) ++ f n) ys) (sym (flat_next g n))
    (zip_append R (flat_map f (range_with_len 0 n)) (flat_map g (range_with_len 0 n)) (f n) (g n) (zip_flat R f g n (λ i h. each i (omega (arith, h)))) (each n (omega arith))))

map_next : {X : Type 0} (f : ℕ → X) (n : ℕ) → map f (range_with_len 0 (suc n)) ≡ map f (range_with_len 0 n) ++ f n ∷ []
map_next f n = map_as_flat f (range_with_len 0 (suc n)) ∙ flat_next (λ i. f i ∷ []) n ∙ ap (λ xs. xs ++ f n ∷ []) (sym (map_as_flat f (range_with_len 0 n)))

module _ (names : List (ℕ × Meaning)) (family : Exclusion) (called : List Meaning) (inputs : List Lit) (first : ℕ) (reads : named_clause names inputs ≡ Some (map (λ meaning. yes meaning) called)) where
  abbrev Reads : Clause → ExclusionClause → Type 0
  Reads clause which = named_clause names clause ≡ Some (exclusion_clause family which)

  lit_reads : (q : ℕ) (l : Lit) → slice_get inputs q ≡ Some l → named_literal names l ≡ Some (yes (input_meaning called q))
  lit_reads q l at =
      let same : input_at inputs q ≡ l = get_or_from_slice_get inputs q l (record { var = 0; positive = false }) at in
      subst (λ (x : Lit). named_literal names x ≡ Some (yes (input_meaning called q))) same (input_reads names family called inputs first reads q (slice_get_within inputs q l at))

  both_read : (a b : Lit) (x y : NamedLiteral) → named_literal names a ≡ Some x → named_literal names b ≡ Some y → named_clause names (a ∷ b ∷ []) ≡ Some (x ∷ y ∷ [])
  both_read a b x y h k = read_two names a b x y h k

  pair_reads : (q r : ℕ) (y x : Lit) → slice_get inputs q ≡ Some y → slice_get inputs r ≡ Some x → Reads (not_both x y) (two q r (input_meaning called q) (input_meaning called r))
  pair_reads q r y x at_q at_r =
      both_read (negation y) (negation x) (no (input_meaning called q)) (no (input_meaning called r)) (read_negation names y (yes (input_meaning called q)) (lit_reads q y at_q)) (read_negation names x (yes (input_meaning called r)) (lit_reads r x at_r))

  row_reads : (r : ℕ) (x : Lit) → slice_get inputs r ≡ Some x → (k : ℕ) → k ≤ length inputs → AllZip Reads (map (not_both x) (take k inputs)) (map (λ i. two i r (input_meaning called i) (input_meaning called r)) (range_with_len 0 k))
  row_reads r x at_r zero inside = tt
  row_reads r x at_r (suc k) inside =
      let at = some_at inputs k (omega (arith, inside)) in
      let left : map (not_both x) (take (suc k) inputs) ≡ map (not_both x) (take k inputs) ++ not_both x at.0 ∷ [] = ap (map (not_both x)) (take_push inputs k at.0 at.1) ∙ map-append (not_both x) (take k inputs) (at.0 ∷ []) in
      let right = map_next (λ i. two i r (input_meaning called i) (input_meaning called r)) k in
      subst (λ cs. AllZip Reads cs (map (λ i. two i r (input_meaning called i) (input_meaning called r)) (range_with_len 0 (suc k)))) (sym left)
      (subst (λ ws. AllZip Reads (map (not_both x) (take k inputs) ++ not_both x at.0 ∷ []) ws) (sym right)
      (zip_append Reads (map (not_both x) (take k inputs)) (map (λ i. two i r (input_meaning called i) (input_meaning called r)) (range_with_len 0 k)) (not_both x at.0 ∷ []) (two k r (input_meaning called k) (input_meaning called r) ∷ [])
      (row_reads r x at_r k (omega (arith, inside))) (pair_reads k r at.0 x at.1 at_r, tt)))

  rows_read : (k : ℕ) → k ≤ length inputs → AllZip Reads (excluded_pairs (take k inputs)) (flat_map (pairs_with called) (range_with_len 0 k))
  rows_read zero inside = tt
  rows_read (suc k) inside =
      let at = some_at inputs k (omega (arith, inside)) in
      subst (λ cs. AllZip Reads cs (flat_map (pairs_with called) (range_with_len 0 (suc k)))) (sym (pairs_take inputs k at.0 at.1))
      (subst (λ ws. AllZip Reads (excluded_pairs (take k inputs) ++ map (not_both at.0) (take k inputs)) ws) (sym (flat_next (pairs_with called) k))
      (zip_append Reads (excluded_pairs (take k inputs)) (flat_map (pairs_with called) (range_with_len 0 k)) (map (not_both at.0) (take k inputs)) (pairs_with called k)
      (rows_read k (omega (arith, inside))) (row_reads k at.0 at.1 k (omega (arith, inside)))))

  pub pairs_read : AllZip Reads (excluded_pairs inputs) (flat_map (pairs_with called) (range_with_len 0 (length inputs)))
  pairs_read = subst (λ xs. AllZip Reads (excluded_pairs xs) (flat_map (pairs_with called) (range_with_len 0 (length inputs)))) (take_whole inputs) (rows_read (length inputs) (omega arith))

  module _ (chain : IsNamedChain names family first (length inputs - 1)) where
    goes_on_reads : (i : ℕ) → i < length inputs - 1 → (b : Bool) → nat_lt (suc i) (length inputs - 1) ≡ b →
        AllZip Reads (cond b ((negative (first + i) ∷ positive (first + suc i) ∷ []) ∷ []) []) (cond b (goes_on i ∷ []) [])
    goes_on_reads i h true e = (
      both_read (negative (first + i)) (positive (first + suc i)) (no (some_of_first family (suc i))) (yes (some_of_first family (suc (suc i)))) (open_reads names family called inputs first reads chain i h).1
          (open_reads names family called inputs first reads chain (suc i) (ltb-true (suc i) (length inputs - 1) e)).0,
      tt,
    )
    goes_on_reads i h false e = tt

    link_reads : (i : ℕ) → i < length inputs - 1 → AllZip Reads (link_clauses inputs first i) (link_at called i)
    link_reads i h =
        let count = called_count names family called inputs first reads in
        let same : nat_lt (suc i) (length inputs - 1) ≡ nat_lt (suc i) (length called - 1) = ap (λ m. nat_lt (suc i) (m - 1)) (sym count) in (
          both_read (negation (input_at inputs i)) (positive (first + i)) (no (input_meaning called i)) (yes (some_of_first family (suc i)))
              (read_negation names (input_at inputs i) (yes (input_meaning called i)) (input_reads names family called inputs first reads i (omega (arith, h)))) (open_reads names family called inputs first reads chain i h).0,
          (
            both_read (negation (input_at inputs (suc i))) (negative (first + i)) (no (input_meaning called (suc i))) (no (some_of_first family (suc i)))
                (read_negation names (input_at inputs (suc i)) (yes (input_meaning called (suc i))) (input_reads names family called inputs first reads (suc i) (omega (arith, h)))) (open_reads names family called inputs first reads chain i h).1,
            subst (λ b. AllZip Reads (cond (nat_lt (suc i) (length inputs - 1)) ((negative (first + i) ∷ positive (first + suc i) ∷ []) ∷ []) []) (cond b (goes_on i ∷ []) [])) same
                (goes_on_reads i h (nat_lt (suc i) (length inputs - 1)) refl),
          ),
        )

    pub chain_reads : AllZip Reads (chain_clauses inputs first) (flat_map (link_at called) (range_with_len 0 (length inputs - 1)))
    chain_reads = zip_flat Reads (link_clauses inputs first) (link_at called) (length inputs - 1) link_reads

pub exclusions_read : (names : List (ℕ × Meaning)) (family : Exclusion) (called : List Meaning) (inputs : List Lit) (first : ℕ) → named_clause names inputs ≡ Some (map yes called) →
    IsNamedChain names family first (chain_count (length inputs)) → AllZip (λ clause which. named_clause names clause ≡ Some (exclusion_clause family which)) (exclusion_clauses inputs first) (exclusion_list called)
exclusions_read names family called inputs first reads chain =
    subst (λ m. AllZip (λ clause which. named_clause names clause ≡ Some (exclusion_clause family which)) (exclusion_clauses inputs first)
    (cond (nat_le m 4) (flat_map (pairs_with called) (range_with_len 0 m)) (flat_map (link_at called) (range_with_len 0 (m - 1))))) (sym (called_count names family called inputs first reads))
    (by (nat_le (length inputs) 4) chain)
  where
    by : (b : Bool) → IsNamedChain names family first (cond b 0 (length inputs - 1)) → AllZip (λ clause which. named_clause names clause ≡ Some (exclusion_clause family which)) (cond b (excluded_pairs inputs) (chain_clauses inputs first))
        (cond b (flat_map (pairs_with called) (range_with_len 0 (length inputs))) (flat_map (link_at called) (range_with_len 0 (length inputs - 1))))
    by true h = pairs_read names family called inputs first reads
    by false h = chain_reads names family called inputs first reads h

pub exclusion_is_listed : ExclusionIsListed
exclusion_is_listed names family called inputs first reads chain =
    listed_from names (exclusion_clause family) (exclusion_clauses inputs first) (exclusion_list called) (exclusions_read names family called inputs first reads chain)

-- ---- as a set

pub has_exclusion : (family : Exclusion) (called : List Meaning) (named : List NamedLiteral) → Has named (named_exclusion family called) (IsNamedExclusion family called)
has_exclusion family called named =
    let all = has_map named (exclusion_clause family) (exclusion_list called) in (
      (λ there. let found = all.0 there in (found.0, ((exclusions_are_listed called).same found.0).0 found.1, found.2)),
      (λ is. all.1 (is.0, ((exclusions_are_listed called).same is.0).1 is.1, is.2)),
    )

pub exclusion_is_code : ExclusionIsCode
exclusion_is_code names family called inputs first reads chain =
    code_same names (Contains (named_exclusion family called)) (IsNamedExclusion family called) (exclusion_clauses inputs first)
    (λ named. (has_exclusion family called named).0) (λ named. (has_exclusion family called named).1)
    (listed_are_code names (named_exclusion family called) (exclusion_clauses inputs first) (exclusion_is_listed names family called inputs first reads chain))
