-- The clauses that a scale writes, one after another, are those of its inputs.
use Rattle.std.proofs.Common.{◌≡◌, ◌⊎◌, inl, inr, ◌∙◌, ℕ, zero, suc, ◌+◌, ◌-◌, ◌*◌, ◌<◌, ◌≤◌, min, List, [], ◌∷◌, ◌++◌, length, map, take, Some, refl, sym, ap, subst, arith, slice_get, Contains, append_assoc, append-nil}
use Rattle.std.proofs.lemmas.List.Elements.{Contains-append_left, Contains-append_right, Contains-append_cases}
use Rattle.std.proofs.Math.Nat.{suc-mul}
use Rattle.des_base.specs.Lists.{numbers_below}
use Rattle.des_base.proofs.Elements.{all_from, some_at, none_in_nil, take_push}
use Rattle.des_base.proofs.NumbersBelow.{map_numbers_more}
use Rattle.card_counter.proofs.ListLemmas.{map_contains, map_of}
use Rattle.card_counter.proofs.PlaceLemmas.{adds_both}
use Rattle.card_counter.specs.Growing.{AddsWithin}
use Rattle.prop_core.specs.ClauseStore.{ClauseStore}
use Rattle.prop_core.specs.Clauses.{Clause}
use Rattle.weight_counter.specs.declared.weighted.Weighted.{Weighted}
use Rattle.weight_counter.specs.Weighing.{WeightClause, weighs_on, weighs_alone, weighs_up, weight_clause, IsWeightClause, AreWeightClauses}
use Rattle.weight_counter.specs.Scales.{place_variable, kept_clause, alone_clause, raised_clause, kept_before, alone_at, raised_at, weight_clauses, clauses_from, scale_clauses, ScalesAreExact}
use Rattle.weight_counter.proofs.Places.{within_scale, input_back, amount_back}
use Rattle.weight_counter.proofs.Weights.{within}

under_min : (j w a : ℕ) → j < min w a → (j < w) × (j < a)
under_min j w a h = (omega (arith, h), omega (arith, h))

min_under : (j w a : ℕ) → j < w → j < a → j < min w a
min_under j w a h k = omega (arith, h, k)

module _ (at : ℕ → ℕ → ℕ) (amounts : ℕ) where
  -- the clauses of input m are there
  has_input : (b : ℕ) (xs : List Weighted) (k m : ℕ) (x : Weighted) (c : Clause) → b + k ≡ m → slice_get xs k ≡ Some x → Contains (weight_clauses at amounts m x) c → Contains (clauses_from at amounts b xs) c
  has_input b [] k m x c place is here = cc
  has_input b (y ∷ xs) zero m x c place is here =
      let same : y ≡ x = cc in
      let first : m ≡ b = omega (arith, place) in
      Contains-append_left (weight_clauses at amounts b y) (clauses_from at amounts (suc b) xs) c
      (subst (λ n. Contains (weight_clauses at amounts n y) c) first (subst (λ z. Contains (weight_clauses at amounts m z) c) (sym same) here))
  has_input b (y ∷ xs) (suc k) m x c place is here =
      Contains-append_right (weight_clauses at amounts b y) (clauses_from at amounts (suc b) xs) c (has_input (suc b) xs k m x c (omega (arith, place)) is here)

  record IsOfInput (b : ℕ) (xs : List Weighted) (c : Clause) : Type 0 where
    place : ℕ
    input : Weighted
    is : slice_get xs place ≡ Some input
    here : Contains (weight_clauses at amounts (b + place) input) c

  -- and no others
  from_inputs : (b : ℕ) (xs : List Weighted) (c : Clause) → Contains (clauses_from at amounts b xs) c → IsOfInput b xs c
  from_inputs b [] c in' = absurd (none_in_nil c in')
  from_inputs b (x ∷ xs) c in' = by (Contains-append_cases (weight_clauses at amounts b x) (clauses_from at amounts (suc b) xs) c in') (from_inputs (suc b) xs c)
    where
      by : Contains (weight_clauses at amounts b x) c ⊎ Contains (clauses_from at amounts (suc b) xs) c → (Contains (clauses_from at amounts (suc b) xs) c → IsOfInput (suc b) xs c) → IsOfInput b (x ∷ xs) c
      by (inl first) later = let same : b ≡ b + 0 = omega arith in record { place = 0; input = x; is = refl; here = subst (λ n. Contains (weight_clauses at amounts n x) c) same first }
      by (inr more) later =
          let rest = later more in
          let same : suc b + rest.place ≡ b + suc rest.place = omega arith in
          record { place = suc rest.place; input = rest.input; is = rest.is; here = subst (λ n. Contains (weight_clauses at amounts n rest.input) c) same rest.here }

  abbrev Which : List Weighted → Clause → Type 0
  Which inputs c = (which : WeightClause) × IsWeightClause inputs amounts which × (weight_clause at which ≡ c)

  of_kept : (inputs : List Weighted) (m : ℕ) (x : Weighted) (c : Clause) → slice_get inputs m ≡ Some x → Contains (kept_before at amounts m) c → Which inputs c
  of_kept inputs zero x c is here = absurd (none_in_nil c here)
  of_kept inputs (suc i) x c is here = let found = map_of (kept_clause at i) amounts c here in (weighs_on i found.0, (within inputs (suc i) x is, found.1), found.2)

  of_alone : (inputs : List Weighted) (m : ℕ) (x : Weighted) (c : Clause) → slice_get inputs m ≡ Some x → Contains (alone_at at amounts m x) c → Which inputs c
  of_alone inputs m x c is here =
      let found = map_of (alone_clause at m x.input) (min x.weight amounts) c here in
      let less = under_min found.0 x.weight amounts found.1 in
      (weighs_alone m found.0 x.input, (x.weight, is, less.0, less.1), found.2)

  of_raised : (inputs : List Weighted) (m : ℕ) (x : Weighted) (c : Clause) → slice_get inputs m ≡ Some x → Contains (raised_at at amounts m x) c → Which inputs c
  of_raised inputs zero x c is here = absurd (none_in_nil c here)
  of_raised inputs (suc i) x c is here =
      let found = map_of (raised_clause at i x) (amounts - x.weight) c here in
      let less = found.1 in
      (weighs_up i found.0 x.weight x.input, (is, omega (arith, less)), found.2)

  of_input : (inputs : List Weighted) (m : ℕ) (x : Weighted) (c : Clause) → slice_get inputs m ≡ Some x → Contains (weight_clauses at amounts m x) c → Which inputs c
  of_input inputs m x c is here = by (Contains-append_cases (kept_before at amounts m) (alone_at at amounts m x ++ raised_at at amounts m x) c here)
    where
      more : Contains (alone_at at amounts m x) c ⊎ Contains (raised_at at amounts m x) c → Which inputs c
      more (inl alone) = of_alone inputs m x c is alone
      more (inr raised) = of_raised inputs m x c is raised

      by : Contains (kept_before at amounts m) c ⊎ Contains (alone_at at amounts m x ++ raised_at at amounts m x) c → Which inputs c
      by (inl kept) = of_kept inputs m x c is kept
      by (inr rest) = more (Contains-append_cases (alone_at at amounts m x) (raised_at at amounts m x) c rest)

  are_all : (inputs : List Weighted) (which : WeightClause) → IsWeightClause inputs amounts which → Contains (scale_clauses at amounts inputs) (weight_clause at which)
  are_all inputs (weighs_on i j) (inside, few) =
      let x = some_at inputs (suc i) inside in
      has_input 0 inputs (suc i) (suc i) x.0 (kept_clause at i j) (omega arith) x.1
      (Contains-append_left (kept_before at amounts (suc i)) (alone_at at amounts (suc i) x.0 ++ raised_at at amounts (suc i) x.0) (kept_clause at i j) (map_contains (kept_clause at i) amounts j few))
  are_all inputs (weighs_alone i j x) (weight, is, less, few) =
      let own : Weighted = record { input = x; weight = weight } in
      has_input 0 inputs i i own (alone_clause at i x j) (omega arith) is
      (Contains-append_right (kept_before at amounts i) (alone_at at amounts i own ++ raised_at at amounts i own) (alone_clause at i x j)
      (Contains-append_left (alone_at at amounts i own) (raised_at at amounts i own) (alone_clause at i x j) (map_contains (alone_clause at i x) (min weight amounts) j (min_under j weight amounts less few))))
  are_all inputs (weighs_up i j weight x) (is, few) =
      let own : Weighted = record { input = x; weight = weight } in
      has_input 0 inputs (suc i) (suc i) own (raised_clause at i own j) (omega arith) is
      (Contains-append_right (kept_before at amounts (suc i)) (alone_at at amounts (suc i) own ++ raised_at at amounts (suc i) own) (raised_clause at i own j)
      (Contains-append_right (alone_at at amounts (suc i) own) (raised_at at amounts (suc i) own) (raised_clause at i own j) (map_contains (raised_clause at i own) (amounts - weight) j (omega (arith, few)))))

  pub are_weight_clauses : (inputs : List Weighted) → AreWeightClauses at inputs amounts (scale_clauses at amounts inputs)
  are_weight_clauses inputs = record {
    all = are_all inputs;
    only = all_from (Which inputs) (scale_clauses at amounts inputs) (λ c in'.
        let found = from_inputs 0 inputs c in' in
        let place : 0 + found.place ≡ found.place = omega arith in
        of_input inputs found.place found.input c found.is (subst (λ n. Contains (weight_clauses at amounts n found.input) c) place found.here));
  }

  -- ---- one after another

  clauses_push : (b : ℕ) (xs : List Weighted) (x : Weighted) (m : ℕ) → b + length xs ≡ m → clauses_from at amounts b (xs ++ x ∷ []) ≡ clauses_from at amounts b xs ++ weight_clauses at amounts m x
  clauses_push b [] x m place =
      let first : b ≡ m = omega (arith, place) in append-nil (weight_clauses at amounts b x) ∙ ap (λ n. weight_clauses at amounts n x) first
  clauses_push b (y ∷ xs) x m place =
      let next : suc b + length xs ≡ m = omega (arith, place) in
      ap (λ cs. weight_clauses at amounts b y ++ cs) (clauses_push (suc b) xs x m next) ∙ sym (append_assoc (weight_clauses at amounts b y) (clauses_from at amounts (suc b) xs) (weight_clauses at amounts m x))

pub scales_are_exact : ScalesAreExact
scales_are_exact scale inputs = record {
  clauses = are_weight_clauses (place_variable scale) scale.amounts inputs;
  input_back = λ i j is. input_back scale i j is.amount;
  amount_back = λ i j is. amount_back scale i j is.amount;
  own = λ i j is. (omega arith, within_scale scale.first scale.inputs scale.amounts i j is.input is.amount);
}

-- ---- written by loops

-- one more clause
pub adds_more : (f : ℕ → Clause) (old mid new : ClauseStore) (j k : ℕ) → AddsWithin old (map f (numbers_below j)) j (k * j) mid → AddsWithin mid (f j ∷ []) 1 k new → AddsWithin old (map f (numbers_below (j + 1))) (j + 1) (k * (j + 1)) new
adds_more f old mid new j k so_far adds =
    let more : k * j + k ≤ k * (j + 1) = omega (arith, times k j) in
    subst (λ cs. AddsWithin old cs (j + 1) (k * (j + 1)) new) (sym (map_numbers_more f j)) (adds_both old mid new (map f (numbers_below j)) (f j ∷ []) j (k * j) 1 k (j + 1) (k * (j + 1)) so_far adds (omega arith) more)
  where
    times : (n a : ℕ) → n * (a + 1) ≡ n * a + n
    times zero a = omega arith
    times (suc n) a = omega (arith, times n a, suc-mul n (a + 1), suc-mul n a)

length_front : (xs : List Weighted) (k : ℕ) (x : Weighted) → slice_get xs k ≡ Some x → length (take k xs) ≡ k
length_front [] k x h = cc
length_front (y ∷ xs) zero x h = refl
length_front (y ∷ xs) (suc k) x h = ap suc (length_front xs k x h)

-- one more input
pub adds_input : (at : ℕ → ℕ → ℕ) (amounts : ℕ) (inputs : List Weighted) (old mid new : ClauseStore) (k : ℕ) (x : Weighted) → slice_get inputs k ≡ Some x →
    AddsWithin old (scale_clauses at amounts (take k inputs)) (2 * (k * amounts)) (5 * (k * amounts)) mid → AddsWithin mid (weight_clauses at amounts k x) (2 * amounts) (5 * amounts) new →
    AddsWithin old (scale_clauses at amounts (take (k + 1) inputs)) (2 * ((k + 1) * amounts)) (5 * ((k + 1) * amounts)) new
adds_input at amounts inputs old mid new k x is so_far adds =
    let next : suc k ≡ k + 1 = omega arith in
    let size : (k + 1) * amounts ≡ k * amounts + amounts = subst (λ n. n * amounts ≡ k * amounts + amounts) next (let more = suc-mul k amounts in omega (arith, more)) in
    let place : 0 + length (take k inputs) ≡ k = omega (arith, length_front inputs k x is) in
    let list : scale_clauses at amounts (take (k + 1) inputs) ≡ scale_clauses at amounts (take k inputs) ++ weight_clauses at amounts k x =
    ap (λ n. scale_clauses at amounts (take n inputs)) (sym next) ∙ ap (scale_clauses at amounts) (take_push inputs k x is) ∙ clauses_push at amounts 0 (take k inputs) x k place in
    subst (λ cs. AddsWithin old cs (2 * ((k + 1) * amounts)) (5 * ((k + 1) * amounts)) new) (sym list)
    (adds_both old mid new (scale_clauses at amounts (take k inputs)) (weight_clauses at amounts k x) (2 * (k * amounts)) (5 * (k * amounts)) (2 * amounts) (5 * amounts) (2 * ((k + 1) * amounts)) (5 * ((k + 1) * amounts)) so_far adds (omega (arith, size)) (omega (arith, size)))
