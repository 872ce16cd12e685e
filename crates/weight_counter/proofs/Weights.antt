-- The clauses of a weighted counter are exact.
use Rattle.std.proofs.Common.{◌≡◌, ◌∙◌, ◌⊎◌, inl, inr, ℕ, zero, suc, ◌+◌, ◌-◌, ◌<◌, ◌≤◌, Bool, true, false, ◌||◌, List, [], ◌∷◌, length, Some, refl, sym, ap, subst, arith, slice_get, IsTrue, take, cond, sum_by}
use Rattle.std.specs.Bool.{beq}
use Rattle.std.proofs.lemmas.Bool.{cases_lt}
use Rattle.std.proofs.lemmas.List.Sums.{sum_by-cons}
use Rattle.des_base.proofs.Elements.{all_from, all_at, some_at}
use Rattle.des_base.proofs.BoolLemmas.{beq_true}
use Rattle.prop_core.specs.Clauses.{Clause, negation, literal_true, clause_true, AllClausesTrue}
use Rattle.weight_counter.specs.declared.weighted.Weighted.{Weighted}
use Rattle.weight_counter.specs.Weighing.{WeightClause, weighs_on, weighs_alone, weighs_up, weight_clause, IsWeightClause, AreWeightClauses, WeightsAreReached, TellsWeights, WeightsAreTrue}
use Rattle.prop_core.proofs.Premises.{without_literal, with_literal_false, last_literal, last_literal_true}

-- one more input
pub weight_more : (f : Weighted → ℕ) (xs : List Weighted) (i : ℕ) (x : Weighted) → slice_get xs i ≡ Some x → sum_by f (take (suc i) xs) ≡ sum_by f (take i xs) + f x
weight_more f [] i x h = cc
weight_more f (y ∷ xs) zero x h =
    let is : y ≡ x = cc in
    let same : f y ≡ f x = ap f is in
    let cons = sum_by-cons f y [] in
    omega (arith, cons, same)
weight_more f (y ∷ xs) (suc i) x h =
    let rest = weight_more f xs i x h in
    let cons = sum_by-cons f y (take (suc i) xs) in
    let cons' = sum_by-cons f y (take i xs) in
    omega (arith, rest, cons, cons')

pub within : (xs : List Weighted) (i : ℕ) (x : Weighted) → slice_get xs i ≡ Some x → i < length xs
within [] i x h = cc
within (y ∷ xs) zero x h = omega arith
within (y ∷ xs) (suc i) x h = let rest = within xs i x h in omega arith

-- ---- clauses as rules

module _ (at : ℕ → ℕ → ℕ) (inputs : List Weighted) (most : ℕ) (value : ℕ → Bool) where
  on : (x : Weighted) → literal_true value x.input ≡ true → cond (literal_true value x.input) x.weight 0 ≡ x.weight
  on x is = ap (λ b. cond b x.weight 0) is

  off : (x : Weighted) → literal_true value x.input ≡ false → cond (literal_true value x.input) x.weight 0 ≡ 0
  off x is = ap (λ b. cond b x.weight 0) is

  abbrev weight_of : Weighted → ℕ
  weight_of x = cond (literal_true value x.input) x.weight 0

  -- what true clauses say
  record Rules : Type 0 where
    kept : (i j : ℕ) → suc i < length inputs → j < most → value (at i j) ≡ true → value (at (suc i) j) ≡ true
    alone : (i j : ℕ) (x : Weighted) → slice_get inputs i ≡ Some x → j < x.weight → j < most → literal_true value x.input ≡ true → value (at i j) ≡ true
    up : (i j : ℕ) (x : Weighted) → slice_get inputs (suc i) ≡ Some x → j + x.weight < most → literal_true value x.input ≡ true → value (at i j) ≡ true → value (at (suc i) (j + x.weight)) ≡ true

  rules_of : (clauses : List Clause) → AreWeightClauses at inputs most clauses → AllClausesTrue value clauses → Rules
  rules_of clauses are all = record {
    kept = λ i j inside few is.
        let clause = all_at (λ c. IsTrue (clause_true value c)) clauses (weight_clause at (weighs_on i j)) all (are.all (weighs_on i j) (inside, few)) in
        last_literal (value (at (suc i) j)) (without_literal (value (at i j)) true (beq (value (at (suc i) j)) true || false) clause (beq_true (value (at i j)) ∙ is));
    alone = λ i j x is less few on'.
        let clause = all_at (λ c. IsTrue (clause_true value c)) clauses (weight_clause at (weighs_alone i j x.input)) all (are.all (weighs_alone i j x.input) (x.weight, is, less, few)) in
        last_literal (value (at i j)) (without_literal (value x.input.var) x.input.positive (beq (value (at i j)) true || false) clause on');
    up = λ i j x is few on' before.
        let clause = all_at (λ c. IsTrue (clause_true value c)) clauses (weight_clause at (weighs_up i j x.weight x.input)) all (are.all (weighs_up i j x.weight x.input) (is, few)) in
        last_literal (value (at (suc i) (j + x.weight))) (without_literal (value x.input.var) x.input.positive (beq (value (at (suc i) (j + x.weight))) true || false)
        (without_literal (value (at i j)) true (literal_true value (negation x.input) || (beq (value (at (suc i) (j + x.weight))) true || false)) clause (beq_true (value (at i j)) ∙ before)) on');
  }

  reached : Rules → (i j : ℕ) → i < length inputs → j < most → suc j ≤ sum_by weight_of (take (suc i) inputs) → value (at i j) ≡ true
  reached rules zero j inside few enough =
      let x = some_at inputs 0 inside in
      by x.0 x.1 (literal_true value x.0.input) refl
    where
      by : (x : Weighted) → slice_get inputs 0 ≡ Some x → (b : Bool) → literal_true value x.input ≡ b → value (at 0 j) ≡ true
      by x is true e =
          let more = weight_more weight_of inputs 0 x is in
          let here = on x e in
          rules.alone 0 j x is (omega (arith, more, here, enough)) few e
      by x is false e =
          let more = weight_more weight_of inputs 0 x is in
          let here = off x e in
          absurd (omega (arith, more, here, enough))
  reached rules (suc i) j inside few enough =
      let x = some_at inputs (suc i) inside in
      by x.0 x.1 (literal_true value x.0.input) refl (λ k small reach. reached rules i k (omega (arith, inside)) small reach)
    where
      by : (x : Weighted) → slice_get inputs (suc i) ≡ Some x → (b : Bool) → literal_true value x.input ≡ b → ((k : ℕ) → k < most → suc k ≤ sum_by weight_of (take (suc i) inputs) → value (at i k) ≡ true) → value (at (suc i) j) ≡ true
      by x is true e before = split (cases_lt j x.weight)
        where
          split : (j < x.weight) ⊎ (x.weight ≤ j) → value (at (suc i) j) ≡ true
          split (inl less) = rules.alone (suc i) j x is less few e
          split (inr more) =
              let sum = weight_more weight_of inputs (suc i) x is in
              let here = on x e in
              let same : (j - x.weight) + x.weight ≡ j = omega (arith, more) in
              subst (λ k. value (at (suc i) k) ≡ true) same
              (rules.up i (j - x.weight) x is (omega (arith, more, few)) e (before (j - x.weight) (omega (arith, few)) (omega (arith, sum, here, more, enough))))
      by x is false e before =
          let sum = weight_more weight_of inputs (suc i) x is in
          let here = off x e in
          rules.kept i j inside few (before j few (omega (arith, sum, here, enough)))

  said : TellsWeights at inputs most value → (which : WeightClause) → IsWeightClause inputs most which → IsTrue (clause_true value (weight_clause at which))
  said tells (weighs_on i j) (inside, few) =
      with_literal_false (value (at i j)) true (beq (value (at (suc i) j)) true || false) (λ is.
      last_literal_true (value (at (suc i) j)) ((tells (suc i) j inside few).1
      (let low = (tells i j (omega (arith, inside)) few).0 (sym (beq_true (value (at i j))) ∙ is) in
      let x = some_at inputs (suc i) inside in
      let sum = weight_more weight_of inputs (suc i) x.0 x.1 in
      omega (arith, low, sum))))
  said tells (weighs_alone i j x) (weight, is, less, few) =
      with_literal_false (value x.var) x.positive (beq (value (at i j)) true || false) (λ e.
      last_literal_true (value (at i j)) ((tells i j (within inputs i (record { input = x; weight = weight }) is) few).1
      (let sum = weight_more weight_of inputs i (record { input = x; weight = weight }) is in
      let here = on (record { input = x; weight = weight }) e in
      omega (arith, sum, here, less))))
  said tells (weighs_up i j weight x) (is, few) =
      let inside = within inputs (suc i) (record { input = x; weight = weight }) is in
      with_literal_false (value (at i j)) true (literal_true value (negation x) || (beq (value (at (suc i) (j + weight))) true || false)) (λ before.
      with_literal_false (value x.var) x.positive (beq (value (at (suc i) (j + weight))) true || false) (λ e.
      last_literal_true (value (at (suc i) (j + weight))) ((tells (suc i) (j + weight) inside few).1
      (let low = (tells i j (omega (arith, inside)) (omega (arith, few))).0 (sym (beq_true (value (at i j))) ∙ before) in
      let sum = weight_more weight_of inputs (suc i) (record { input = x; weight = weight }) is in
      let here = on (record { input = x; weight = weight }) e in
      omega (arith, low, sum, here)))))

pub weights_are_reached : WeightsAreReached
weights_are_reached at inputs most clauses value are all = reached at inputs most value (rules_of at inputs most value clauses are all)

pub weights_are_true : WeightsAreTrue
weights_are_true at inputs most clauses value are tells = all_from (λ c. IsTrue (clause_true value c)) clauses (λ c in'.
    let found = all_at (λ clause. (which : WeightClause) × IsWeightClause inputs most which × (weight_clause at which ≡ clause)) clauses c are.only in' in
    subst (λ d. IsTrue (clause_true value d)) found.2 (said at inputs most value tells found.0 found.1))
