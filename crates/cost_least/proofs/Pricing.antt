-- A question with a weighted counter beside it tells what explains within a bound on the total.
use Rattle.std.proofs.Common.{◌≡◌, ◌∙◌, ◌⊎◌, inl, inr, ℕ, zero, suc, ◌-◌, ◌<◌, ◌≤◌, nat_le, Bool, true, false, not, List, [], ◌∷◌, ◌++◌, length, Some, None, refl, sym, ap, subst, arith, IsTrue, take, take_all, cond}
use Rattle.std.specs.Bool.{beq}
use Rattle.std.specs.List.{AllZip}
use Rattle.std.proofs.lemmas.Bool.{cases_lt, leb-true, le-leb}
use Rattle.std.proofs.lemmas.List.Sums.{sum_by-cons}
use Rattle.des_base.proofs.BoolLemmas.{otherwise, beq_true, beq_false}
use Rattle.des_base.proofs.Elements.{all_append}
use Rattle.des_net.specs.Network.{Net, IsNetwork}
use Rattle.log_order.specs.Log.{Log, IsValidLog}
use Rattle.prop_core.proofs.NameLemmas.{values_match, assignments_match}
use Rattle.prop_core.proofs.Premises.{negated}
use Rattle.prop_core.specs.Clauses.{Clause, literal_true, AllClausesTrue}
use Rattle.prop_core.specs.NamedClauses.{Match, value_by, assignment_by}
use Rattle.prop_core.specs.VariableNames.{Meaning, meaning_of, HasEachOnce}
use Rattle.prop_core.specs.declared.lit.Lit.{Lit}
use Rattle.run_decode.proofs.Assumptions.{is_guard}
use Rattle.run_decode.proofs.Tells.{ridden_tells, same_property_told, consistent_by, unnamed, guards_true, Rides}
use Rattle.run_decode.specs.Faithful.{MakesTrue}
use Rattle.run_decode.specs.Tells.{Tells}
use Rattle.cost_least.proofs.Drawing.{cost_names, drawn_unbounded, drawn_bounded}
use Rattle.cost_least.proofs.Sums.{costs_are_weights}
use Rattle.card_counter.specs.CounterState.{negative}
use Rattle.weight_counter.proofs.Weights.{weights_are_reached, weights_are_true}
use Rattle.weight_counter.proofs.Places.{input_back, amount_back}
use Rattle.weight_counter.specs.Scales.{place_variable, input_of, amount_of}
use Rattle.weight_counter.specs.Weighing.{weight_true, AreWeightClauses, TellsWeights}
use Rattle.weight_counter.specs.declared.scale.Scale.{Scale}
use Rattle.weight_counter.specs.declared.weighted.Weighted.{Weighted}
use Rattle.cost_least.specs.Costs.{total}
use Rattle.cost_least.specs.Pricing.{ExplainsAt, named_weights, weight_named, IsInput, AsksCosts, cost_limit, CostsAreTold}

-- ---- truth values and lists

-- ---- weights by variable and by name

input_is : (names : List (ℕ × Meaning)) (assignment : ℕ → Bool) (value : Meaning → Bool) → Match names assignment value → (x : Weighted) (named : Meaning × ℕ) → IsInput names x named → literal_true assignment x.input ≡ value named.0
input_is names assignment value match x named is =
    ap (beq (assignment x.input.var)) is.positive ∙ beq_true (assignment x.input.var) ∙ match x.input.var named.0 is.called

pub weights_are : (names : List (ℕ × Meaning)) (assignment : ℕ → Bool) (value : Meaning → Bool) → Match names assignment value → (inputs : List Weighted) (named : List (Meaning × ℕ)) → AllZip (IsInput names) inputs named →
    weight_true assignment inputs ≡ weight_named value named
weights_are names assignment value match [] [] are = refl
weights_are names assignment value match [] (m ∷ named) are = absurd are
weights_are names assignment value match (x ∷ inputs) [] are = absurd are
weights_are names assignment value match (x ∷ inputs) (m ∷ named) are =
    let rest = weights_are names assignment value match inputs named are.1 in
    let a = sum_by-cons (λ (y : Weighted). cond (literal_true assignment y.input) y.weight 0) x inputs in
    let b = sum_by-cons (λ (y : Meaning × ℕ). cond (value y.0) y.1 0) m named in
    let sign : cond (literal_true assignment x.input) x.weight 0 ≡ cond (value m.0) x.weight 0 = ap (λ c. cond c x.weight 0) (input_is names assignment value match x m are.0) in
    let size : cond (value m.0) x.weight 0 ≡ cond (value m.0) m.1 0 = ap (λ w. cond (value m.0) w 0) are.0.weight in
    omega (arith, rest, a, b, sign, size)

-- two assignments that match one truth of names weigh alike
same_weight : (names : List (ℕ × Meaning)) (one other : ℕ → Bool) (value : Meaning → Bool) → Match names one value → Match names other value → (inputs : List Weighted) (named : List (Meaning × ℕ)) → AllZip (IsInput names) inputs named →
    (k : ℕ) → weight_true one (take k inputs) ≡ weight_true other (take k inputs)
same_weight names one other value match also inputs named are zero = refl
same_weight names one other value match also [] [] are (suc k) = refl
same_weight names one other value match also [] (m ∷ named) are (suc k) = absurd are
same_weight names one other value match also (x ∷ inputs) [] are (suc k) = absurd are
same_weight names one other value match also (x ∷ inputs) (m ∷ named) are (suc k) =
    let rest = same_weight names one other value match also inputs named are.1 k in
    let a = sum_by-cons (λ (y : Weighted). cond (literal_true one y.input) y.weight 0) x (take k inputs) in
    let b = sum_by-cons (λ (y : Weighted). cond (literal_true other y.input) y.weight 0) x (take k inputs) in
    let sign = ap (λ c. cond c x.weight 0) (input_is names one value match x m are.0 ∙ sym (input_is names other value also x m are.0)) in
    omega (arith, rest, a, b, sign)

module _ (names : List (ℕ × Meaning)) (once : HasEachOnce names) (scale : Scale) (inputs : List Weighted) (named : List (Meaning × ℕ)) (are : AllZip (IsInput names) inputs named)
    (nameless : (var : ℕ) → scale.first ≤ var → meaning_of names var ≡ None) (weighing : List Clause) (weights : AreWeightClauses (place_variable scale) inputs scale.amounts weighing) where
  -- the variables of places say what the inputs weigh
  given_for : (Meaning → Bool) → ℕ → Bool
  given_for value var = nat_le (suc (amount_of scale var)) (weight_true (assignment_by names value (λ v. false)) (take (suc (input_of scale var)) inputs))

  at_is : (value : Meaning → Bool) (i j : ℕ) → i < length inputs → j < scale.amounts → assignment_by names value (given_for value) (place_variable scale i j) ≡ nat_le (suc j) (weight_true (assignment_by names value (given_for value)) (take (suc i) inputs))
  unfolding given_for
  at_is value i j inside few =
      unnamed names value (given_for value) (place_variable scale i j) (nameless (place_variable scale i j) (omega arith))
      ∙ ap (λ m. nat_le (suc m) (weight_true (assignment_by names value (λ v. false)) (take (suc (input_of scale (place_variable scale i j))) inputs))) (amount_back scale i j few)
      ∙ ap (λ k. nat_le (suc j) (weight_true (assignment_by names value (λ v. false)) (take (suc k) inputs))) (input_back scale i j few)
      ∙ ap (nat_le (suc j)) (same_weight names (assignment_by names value (λ v. false)) (assignment_by names value (given_for value)) value (assignments_match names value (λ v. false)) (assignments_match names value (given_for value)) inputs named are (suc i))

  tells_at : (value : Meaning → Bool) → TellsWeights (place_variable scale) inputs scale.amounts (assignment_by names value (given_for value))
  tells_at value i j inside few = (
    λ is. leb-true (suc j) (weight_true (assignment_by names value (given_for value)) (take (suc i) inputs)) (sym (at_is value i j inside few) ∙ is),
    λ less. at_is value i j inside few ∙ le-leb (suc j) (weight_true (assignment_by names value (given_for value)) (take (suc i) inputs)) less,
  )

  free : (value : Meaning → Bool) → AllClausesTrue (assignment_by names value (given_for value)) weighing
  free value = weights_are_true (place_variable scale) inputs scale.amounts weighing (assignment_by names value (given_for value)) weights (tells_at value)

  whole_weight : (assignment : ℕ → Bool) (value : Meaning → Bool) → Match names assignment value → 0 < length inputs → weight_true assignment (take (suc (length inputs - 1)) inputs) ≡ weight_named value named
  whole_weight assignment value match some =
      let last : suc (length inputs - 1) ≡ length inputs = omega (arith, some) in
      ap (λ k. weight_true assignment (take k inputs)) last ∙ ap (weight_true assignment) (take_all (length inputs) inputs (omega arith)) ∙ weights_are names assignment value match inputs named are

  limit_rides : (b : ℕ) → b < scale.amounts → 0 < length inputs → Rides names weighing (negative (place_variable scale (length inputs - 1) b) ∷ []) (λ value. weight_named value named ≤ b)
  limit_rides b few some = record {
    complete = λ value less. (given_for value, record { clauses_true = free value; assumed_true = (off value less, tt) });
    sound = λ assignment makes. by assignment makes (cases_lt b (weight_named (value_by names assignment) named));
    free = λ value. (given_for value, free value);
  }
    where
      off : (value : Meaning → Bool) → weight_named value named ≤ b → beq (assignment_by names value (given_for value) (place_variable scale (length inputs - 1) b)) false ≡ true
      off value less =
          let is = at_is value (length inputs - 1) b (omega (arith, some)) few in
          let whole = whole_weight (assignment_by names value (given_for value)) value (assignments_match names value (given_for value)) some in
          let never = otherwise (nat_le (suc b) (weight_true (assignment_by names value (given_for value)) (take (suc (length inputs - 1)) inputs)))
          (λ on. let more = leb-true (suc b) (weight_true (assignment_by names value (given_for value)) (take (suc (length inputs - 1)) inputs)) on in absurd (omega (arith, more, whole, less))) in
          beq_false (assignment_by names value (given_for value) (place_variable scale (length inputs - 1) b)) ∙ ap not (is ∙ never)

      by : (assignment : ℕ → Bool) → MakesTrue assignment weighing (negative (place_variable scale (length inputs - 1) b) ∷ []) → (b < weight_named (value_by names assignment) named) ⊎ (weight_named (value_by names assignment) named ≤ b) →
          weight_named (value_by names assignment) named ≤ b
      by assignment makes (inr less) = less
      by assignment makes (inl more) =
          let whole = whole_weight assignment (value_by names assignment) (values_match names once assignment) some in
          let on = weights_are_reached (place_variable scale) inputs scale.amounts weighing assignment weights makes.clauses_true (length inputs - 1) b (omega (arith, some)) few (omega (arith, whole, more)) in
          absurd (negated (assignment (place_variable scale (length inputs - 1) b)) makes.assumed_true.0 on)

  no_limit_rides : Rides names weighing [] (λ value. 0 ≤ 0)
  no_limit_rides = record {
    complete = λ value none. (given_for value, record { clauses_true = free value; assumed_true = tt });
    sound = λ assignment makes. omega arith;
    free = λ value. (given_for value, free value);
  }

-- ---- what a question with a counter tells

module _ (net : Net) (cost : ℕ → ℕ) (log : Log) (n : ℕ) (names : List (ℕ × Meaning)) (scale : Scale) (whole : List Clause) (assumed : List Lit) (network : IsNetwork net) (valid : IsValidLog log)
    (asks : AsksCosts net cost log n names scale whole assumed) where
  once : HasEachOnce names
  once = asks.asks.question.once

  all_told : Tells whole (assumed ++ cost_limit scale None) (ExplainsAt net cost log n None)
  all_told =
      same_property_told _ _ whole (assumed ++ []) (λ word order. (λ has. has.0.0, λ explains. ((explains, tt), omega arith)))
      (ridden_tells net log n None names asks.clauses asks.weighing whole assumed [] (λ value. 0 ≤ 0) (λ word order. 0 ≤ 0) network valid asks.asks
      (no_limit_rides names once scale asks.inputs (named_weights net cost log n) asks.input_names asks.nameless asks.weighing asks.weights)
      (λ value pieces order are false'. (λ h. h, λ h. h)) asks.both
      (consistent_by (assignment_by names is_guard (λ v. false)) (assumed ++ []) (all_append (λ l. IsTrue (literal_true (assignment_by names is_guard (λ v. false)) l)) assumed [] (guards_true names net log n None (λ v. false) assumed asks.asks.assumes) tt)))

  within_told : (b : ℕ) → b < scale.amounts → 0 < scale.inputs → Tells whole (assumed ++ cost_limit scale (Some b)) (ExplainsAt net cost log n (Some b))
  within_told b few some =
      let there : 0 < length asks.inputs = omega (arith, asks.counted, some) in
      let same : length asks.inputs - 1 ≡ scale.inputs - 1 = ap (λ k. k - 1) (sym asks.counted) in
      let limit = negative (place_variable scale (length asks.inputs - 1) b) in
      subst (λ k. Tells whole (assumed ++ negative (place_variable scale k b) ∷ []) (ExplainsAt net cost log n (Some b))) same
      (same_property_told _ _ whole (assumed ++ limit ∷ []) (λ word order. (λ has. (has.0.0, has.1), λ has. ((has.0, tt), has.1)))
      (ridden_tells net log n None names asks.clauses asks.weighing whole assumed (limit ∷ []) (λ value. weight_named value (named_weights net cost log n) ≤ b) (λ word order. total net cost word order ≤ b) network valid asks.asks
      (limit_rides names once scale asks.inputs (named_weights net cost log n) asks.input_names asks.nameless asks.weighing asks.weights b few there)
      (λ value pieces order are false'. let is = costs_are_weights net cost log n value pieces order are false' in (λ h. omega (arith, is, h), λ h. omega (arith, is, h))) asks.both
      (consistent_by (assignment_by names is_guard (λ v. false)) (assumed ++ limit ∷ []) (all_append (λ l. IsTrue (literal_true (assignment_by names is_guard (λ v. false)) l)) assumed (limit ∷ [])
      (guards_true names net log n None (λ v. false) assumed asks.asks.assumes)
      (ap (λ b'. beq b' false) (unnamed names is_guard (λ v. false) (place_variable scale (length asks.inputs - 1) b) (asks.nameless (place_variable scale (length asks.inputs - 1) b) (omega arith))), tt)))))

pub costs_are_told : CostsAreTold
costs_are_told net cost log n names scale whole assumed network valid asks = record {
  unbounded = record {
    tells = all_told net cost log n names scale whole assumed network valid asks;
    meanings = cost_names names scale;
    drawn = drawn_unbounded net cost log n names scale whole assumed asks;
  };
  bounded = λ b few some. record {
    tells = within_told net cost log n names scale whole assumed network valid asks b few some;
    meanings = cost_names names scale;
    drawn = drawn_bounded net cost log n names scale whole assumed asks b few some;
  };
}
