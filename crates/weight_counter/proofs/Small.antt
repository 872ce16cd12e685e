-- The clauses of a scale are few and short, and over its variables and those of its inputs.
use Rattle.std.proofs.Common.{◌≡◌, ◌∙◌, ℕ, zero, suc, ◌+◌, ◌-◌, ◌*◌, ◌<◌, ◌≤◌, min, List, [], ◌∷◌, ◌++◌, length, map, Some, refl, ap, subst, arith, sum_by, slice_get, length-append}
use Rattle.std.specs.List.{AllByRecursion}
use Rattle.std.proofs.Math.Nat.{suc-mul}
use Rattle.std.proofs.lemmas.List.{length-map}
use Rattle.std.proofs.lemmas.List.FromFn.{length-range_with_len}
use Rattle.std.proofs.lemmas.List.Sums.{sum_by-append, sum_by-cons}
use Rattle.std.proofs.lemmas.List.Elements.{All-cons, All-nil}
use Rattle.des_base.specs.Lists.{numbers_below}
use Rattle.des_base.proofs.Elements.{all_from, all_at}
use Rattle.card_counter.specs.CounterState.{positive, negative}
use Rattle.prop_core.specs.Clauses.{Clause, HasValues, negation}
use Rattle.prop_core.specs.declared.lit.Lit.{Lit}
use Rattle.weight_counter.proofs.Places.{within_scale}
use Rattle.weight_counter.proofs.Weights.{within}
use Rattle.weight_counter.proofs.Written.{are_weight_clauses}
use Rattle.weight_counter.specs.declared.scale.Scale.{Scale}
use Rattle.weight_counter.specs.declared.weighted.Weighted.{Weighted}
use Rattle.weight_counter.specs.Scales.{place_variable, kept_clause, alone_clause, raised_clause, kept_before, alone_at, raised_at, weight_clauses, clauses_from, scale_clauses, ScalesAreSmall}
use Rattle.weight_counter.specs.Weighing.{WeightClause, weighs_on, weighs_alone, weighs_up, weight_clause, IsWeightClause}

-- ---- few and short

size : (f : ℕ → Clause) (n : ℕ) → length (map f (numbers_below n)) ≡ n
size f n = length-map (numbers_below n) f ∙ length-range_with_len 0 n

-- clauses of one length
long : (f : ℕ → Clause) (k : ℕ) (ns : List ℕ) → ((n : ℕ) → length (f n) ≡ k) → sum_by length (map f ns) ≡ k * length ns
long f k [] each = omega arith
long f k (n ∷ ns) each =
    let rest = long f k ns each in
    let here = each n in
    let cons = sum_by-cons length (f n) (map f ns) in
    omega (arith, rest, here, cons, times k (length ns))
  where
    times : (a b : ℕ) → a * suc b ≡ a + a * b
    times zero b = omega arith
    times (suc a) b = omega (arith, times a b, suc-mul a (suc b), suc-mul a b)

long_below : (f : ℕ → Clause) (k n : ℕ) → ((m : ℕ) → length (f m) ≡ k) → sum_by length (map f (numbers_below n)) ≡ k * n
long_below f k n each = long f k (numbers_below n) each ∙ ap (λ m. k * m) (length-range_with_len 0 n)

module _ (at : ℕ → ℕ → ℕ) (amounts : ℕ) where
  kept_few : (i : ℕ) → length (kept_before at amounts i) ≤ amounts
  kept_few zero = omega arith
  kept_few (suc i) = omega (arith, size (kept_clause at i) amounts)

  kept_short : (i : ℕ) → sum_by length (kept_before at amounts i) ≤ 2 * amounts
  kept_short zero = omega arith
  kept_short (suc i) = omega (arith, long_below (kept_clause at i) 2 amounts (λ j. refl))

  raised_few : (i : ℕ) (x : Weighted) → length (raised_at at amounts i x) ≤ amounts - x.weight
  raised_few zero x = omega arith
  raised_few (suc i) x = omega (arith, size (raised_clause at i x) (amounts - x.weight))

  raised_short : (i : ℕ) (x : Weighted) → sum_by length (raised_at at amounts i x) ≤ 3 * (amounts - x.weight)
  raised_short zero x = omega arith
  raised_short (suc i) x = omega (arith, long_below (raised_clause at i x) 3 (amounts - x.weight) (λ j. refl))

  input_few : (i : ℕ) (x : Weighted) → length (weight_clauses at amounts i x) ≤ 2 * amounts
  input_few i x =
      let one = length-append (kept_before at amounts i) (alone_at at amounts i x ++ raised_at at amounts i x) in
      let two = length-append (alone_at at amounts i x) (raised_at at amounts i x) in
      let alone = size (alone_clause at i x.input) (min x.weight amounts) in
      omega (arith, one, two, alone, kept_few i, raised_few i x)

  input_short : (i : ℕ) (x : Weighted) → sum_by length (weight_clauses at amounts i x) ≤ 5 * amounts
  input_short i x =
      let one = sum_by-append length (kept_before at amounts i) (alone_at at amounts i x ++ raised_at at amounts i x) in
      let two = sum_by-append length (alone_at at amounts i x) (raised_at at amounts i x) in
      let alone = long_below (alone_clause at i x.input) 2 (min x.weight amounts) (λ j. refl) in
      omega (arith, one, two, alone, kept_short i, raised_short i x)

  few_from : (b : ℕ) (xs : List Weighted) → length (clauses_from at amounts b xs) ≤ 2 * (length xs * amounts)
  few_from b [] = omega arith
  few_from b (x ∷ xs) =
      let rest = few_from (suc b) xs in
      let whole = length-append (weight_clauses at amounts b x) (clauses_from at amounts (suc b) xs) in
      omega (arith, rest, whole, input_few b x, suc-mul (length xs) amounts)

  short_from : (b : ℕ) (xs : List Weighted) → sum_by length (clauses_from at amounts b xs) ≤ 5 * (length xs * amounts)
  short_from b [] = omega arith
  short_from b (x ∷ xs) =
      let rest = short_from (suc b) xs in
      let whole = sum_by-append length (weight_clauses at amounts b x) (clauses_from at amounts (suc b) xs) in
      omega (arith, rest, whole, input_short b x, suc-mul (length xs) amounts)

-- ---- over known variables

two_below : (n : ℕ) (a b : Lit) → a.var < n → b.var < n → HasValues n (a ∷ b ∷ [])
two_below n a b h k = All-cons (λ (l : Lit). l.var < n) a (b ∷ []) h (All-cons (λ (l : Lit). l.var < n) b [] k (All-nil (λ (l : Lit). l.var < n)))

module _ (scale : Scale) (inputs : List Weighted) (counted : scale.inputs ≡ length inputs) (below : AllByRecursion (λ x. x.input.var < scale.first) inputs) where
  at_below : (i j : ℕ) → i < length inputs → j < scale.amounts → place_variable scale i j < scale.first + scale.inputs * scale.amounts
  at_below i j inside few = within_scale scale.first scale.inputs scale.amounts i j (omega (arith, counted, inside)) few

  var_below : (i : ℕ) (x : Weighted) → slice_get inputs i ≡ Some x → x.input.var < scale.first + scale.inputs * scale.amounts
  var_below i x is = let low = at_get inputs i below is in omega (arith, low)
    where
      at_get : (xs : List Weighted) (k : ℕ) → AllByRecursion (λ y. y.input.var < scale.first) xs → slice_get xs k ≡ Some x → x.input.var < scale.first
      at_get [] k all h = cc
      at_get (y ∷ xs) zero all h = let same : y ≡ x = cc in subst (λ (z : Weighted). z.input.var < scale.first) same all.0
      at_get (y ∷ xs) (suc k) all h = at_get xs k all.1 h

  clause_below : (which : WeightClause) → IsWeightClause inputs scale.amounts which → HasValues (scale.first + scale.inputs * scale.amounts) (weight_clause (place_variable scale) which)
  clause_below (weighs_on i j) (inside, few) =
      two_below (scale.first + scale.inputs * scale.amounts) (negative (place_variable scale i j)) (positive (place_variable scale (suc i) j)) (at_below i j (omega (arith, inside)) few) (at_below (suc i) j inside few)
  clause_below (weighs_alone i j x) (weight, is, less, few) =
      two_below (scale.first + scale.inputs * scale.amounts) (negation x) (positive (place_variable scale i j)) (var_below i (record { input = x; weight = weight }) is) (at_below i j (within inputs i (record { input = x; weight = weight }) is) few)
  clause_below (weighs_up i j weight x) (is, few) =
      let inside = within inputs (suc i) (record { input = x; weight = weight }) is in
      let low : HasValues (scale.first + scale.inputs * scale.amounts) (negation x ∷ positive (place_variable scale (suc i) (j + weight)) ∷ []) =
      two_below (scale.first + scale.inputs * scale.amounts) (negation x) (positive (place_variable scale (suc i) (j + weight))) (var_below (suc i) (record { input = x; weight = weight }) is) (at_below (suc i) (j + weight) inside few) in
      All-cons (λ (l : Lit). l.var < scale.first + scale.inputs * scale.amounts) (negative (place_variable scale i j)) (negation x ∷ positive (place_variable scale (suc i) (j + weight)) ∷ []) (at_below i j (omega (arith, inside)) (omega (arith, few))) low

  pub scale_below : AllByRecursion (HasValues (scale.first + scale.inputs * scale.amounts)) (scale_clauses (place_variable scale) scale.amounts inputs)
  scale_below = all_from (HasValues (scale.first + scale.inputs * scale.amounts)) (scale_clauses (place_variable scale) scale.amounts inputs) (λ c in'.
      let are = are_weight_clauses (place_variable scale) scale.amounts inputs in
      let found = all_at (λ clause. (which : WeightClause) × IsWeightClause inputs scale.amounts which × (weight_clause (place_variable scale) which ≡ clause)) (scale_clauses (place_variable scale) scale.amounts inputs) c are.only in' in
      subst (HasValues (scale.first + scale.inputs * scale.amounts)) found.2 (clause_below found.0 found.1))

pub scales_are_small : ScalesAreSmall
scales_are_small scale inputs counted below = record {
  few = few_from (place_variable scale) scale.amounts 0 inputs;
  short = short_from (place_variable scale) scale.amounts 0 inputs;
  known = scale_below scale inputs counted below;
}
