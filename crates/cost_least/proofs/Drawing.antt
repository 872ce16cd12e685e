-- A question with a counter of costs beside it is drawn from its families.
use Rattle.std.proofs.Common.{◌≡◌, ◌≢◌, ◌∙◌, ◌⊎◌, inl, inr, ℕ, zero, suc, ◌+◌, ◌-◌, ◌<◌, not, List, [], ◌∷◌, ◌++◌, length, map, flat_map, Option, None, Some, refl, sym, ap, subst, arith, append-nil, Contains}
use Rattle.std.specs.List.{AllZip}
use Rattle.std.proofs.lemmas.List.Elements.{Contains-append_left as append_left, Contains-append_right as append_right}
use Rattle.std.proofs.lemmas.Option.{none-some}
use Rattle.card_counter.proofs.ListLemmas.{flat_contains, flat_of, map_contains, map_of, pairs_flat, pairs_map}
use Rattle.card_counter.specs.CounterState.{negative, positive}
use Rattle.des_base.proofs.Elements.{all_change, all_from, cons_cases, here_first, here_later, map_from, map_has, none_in_nil}
use Rattle.des_base.specs.Lists.{numbers_below}
use Rattle.des_net.specs.Network.{Net}
use Rattle.event_costs.specs.declared.TheConstants.{MOST_COST}
use Rattle.question_clauses.proofs.LogCodes.{has_name, named_entry}
use Rattle.question_clauses.proofs.Lists.{all_at}
use Rattle.question_clauses.specs.LogClauses.{guard_literals}
use Rattle.log_order.specs.Log.{Log}
use Rattle.prop_core.specs.Clauses.{Clause, negation}
use Rattle.prop_core.specs.FurtherNames.{LiteralOf, holds, fails, lifted, lifted_meanings, AreOnce, IsCalled, ReadsBy, AreDrawnBy}
use Rattle.prop_core.specs.VariableNames.{Meaning, NamedLiteral, ReadsAs, meaning_of}
use Rattle.prop_core.specs.declared.lit.Lit.{Lit}
use Rattle.run_decode.proofs.FurtherNames.{lifted_reads, once_further}
use Rattle.run_decode.proofs.Questions.{instances_of}
use Rattle.run_decode.specs.Question.{IsNamedQuestion}
use Rattle.weight_counter.proofs.Places.{input_back, amount_back}
use Rattle.weight_counter.specs.Scales.{place_variable, input_of, amount_of}
use Rattle.weight_counter.specs.Weighing.{WeightClause, weighs_on, weighs_alone, weighs_up, weight_clause, IsWeightClause}
use Rattle.weight_counter.specs.declared.scale.Scale.{Scale}
use Rattle.weight_counter.specs.declared.weighted.Weighted.{Weighted}
use Rattle.cost_least.proofs.Inputs.{same_length, named_at}
use Rattle.cost_least.specs.Drawn.{CostMeaning, of_question, weighs, NamedWeighing, keeps_weight, has_weight, adds_weight, weighing_clause, IsNamedWeighing, IsCostClause, weighs_at_most, limit_literals, cost_literals, BoundsAreNotStated}
use Rattle.cost_least.specs.Pricing.{named_weights, IsInput, AsksCosts, cost_limit}
use Rattle.prop_core.proofs.FurtherNames.{reads_both}

-- ---- lists that read as others

-- literal by literal
reads_zip : {X : Type 0} (names : List (ℕ × X)) (clause : List Lit) (named : List (LiteralOf X)) → AllZip (IsCalled names) clause named → ReadsBy names clause named
reads_zip names [] [] are = record { only = tt; all = tt }
reads_zip names [] (m ∷ named) are = absurd are
reads_zip names (l ∷ clause) [] are = absurd are
reads_zip {X} names (l ∷ clause) (m ∷ named) are =
    let rest = reads_zip names clause named are.1 in
    record {
      only = (
        (m, here_first m named m refl, are.0),
        all_change (λ k. (o : LiteralOf X) × Contains named o × IsCalled names k o) (λ k. (o : LiteralOf X) × Contains (m ∷ named) o × IsCalled names k o) clause (λ k is. (is.0, here_later m named is.0 is.1, is.2)) rest.only,
      );
      all = (
        (l, here_first l clause l refl, are.0),
        all_change (λ o. (k : Lit) × Contains clause k × IsCalled names k o) (λ o. (k : Lit) × Contains (l ∷ clause) k × IsCalled names k o) named (λ o is. (is.0, here_later l clause is.0 is.1, is.2)) rest.all,
      );
    }

-- ---- the names

-- the variable of a place
abbrev place_name : Scale → ℕ → ℕ → ℕ × CostMeaning
place_name scale i j = (place_variable scale i j, weighs i j)

-- those of all places
abbrev place_names : Scale → List (ℕ × CostMeaning)
place_names scale = flat_map (λ i. map (place_name scale i) (numbers_below scale.amounts)) (numbers_below scale.inputs)

-- those of a question, and of the places
abbrev pub cost_names : List (ℕ × Meaning) → Scale → List (ℕ × CostMeaning)
cost_names names scale = lifted_meanings of_question names ++ place_names scale

-- which name it is, where it is one of a question
cost_question_name : CostMeaning → Meaning → Meaning
cost_question_name (of_question meaning) other = meaning
cost_question_name (weighs i j) other = other

of_question_once : (a b : Meaning) → of_question a ≡ of_question b → a ≡ b
unfolding cost_question_name
of_question_once a b same = ap (λ meaning. cost_question_name meaning a) same

same_place : (i j k l : ℕ) → weighs i j ≡ weighs k l → (i ≡ k) × (j ≡ l)
same_place i j k l same = (cc, cc)

other_kind : (meaning : Meaning) (i j : ℕ) → of_question meaning ≡ weighs i j → ⊥
other_kind meaning i j same = cc

-- no variable of two places is the same
same_scale_place : (scale : Scale) (i j k l : ℕ) → j < scale.amounts → l < scale.amounts → place_variable scale i j ≡ place_variable scale k l → (i ≡ k) × (j ≡ l)
same_scale_place scale i j k l few less same = (
  sym (input_back scale i j few) ∙ ap (input_of scale) same ∙ input_back scale k l less,
  sym (amount_back scale i j few) ∙ ap (amount_of scale) same ∙ amount_back scale k l less,
)

abbrev Differ : ℕ × CostMeaning → ℕ × CostMeaning → Type 0
Differ a b = (a.0 ≢ b.0) × (a.1 ≢ b.1)

places_once : (scale : Scale) → AreOnce (place_names scale)
places_once scale = pairs_flat Differ (λ i. map (place_name scale i) (numbers_below scale.amounts)) scale.inputs
    (λ i inside. pairs_map Differ (place_name scale i) scale.amounts (λ j l less few. (
      λ same. let is = (same_scale_place scale i j i l (omega (arith, less, few)) few same).1 in omega (arith, is, less),
      λ same. let is = (same_place i j i l same).1 in omega (arith, is, less),
    )))
    (λ i k a b less inside here there.
    let one = map_of (place_name scale i) scale.amounts a here in
    let other = map_of (place_name scale k) scale.amounts b there in
    subst (λ (x : ℕ × CostMeaning). Differ x b) one.2
    (subst (Differ (place_name scale i one.0)) other.2 (
      λ same. let is = (same_scale_place scale i one.0 k other.0 one.1 other.1 same).0 in omega (arith, is, less),
      λ same. let is = (same_place i one.0 k other.0 same).0 in omega (arith, is, less),
    )))

module _ (net : Net) (cost : ℕ → ℕ) (log : Log) (n : ℕ) (names : List (ℕ × Meaning)) (scale : Scale) (whole : List Clause) (assumed : List Lit) (asks : AsksCosts net cost log n names scale whole assumed) where
  inputs_are : length asks.inputs ≡ length (named_weights net cost log n)
  inputs_are = same_length names asks.inputs (named_weights net cost log n) asks.input_names

  names_once : AreOnce (cost_names names scale)
  names_once = once_further of_question of_question_once names (place_names scale) asks.asks.question.once (places_once scale) (λ a b in' there.
      let from = flat_of (λ i. map (place_name scale i) (numbers_below scale.amounts)) scale.inputs b there in
      let of' = map_of (place_name scale from.0) scale.amounts b from.2 in
      let none : meaning_of names (place_variable scale from.0 of'.0) ≡ None = asks.nameless (place_variable scale from.0 of'.0) (omega arith) in
      let has = has_name names a asks.asks.question.once in' in
      subst (λ (x : ℕ × CostMeaning). (a.0 ≢ x.0) × (of_question a.1 ≢ x.1)) of'.2
      (λ same. none-some a.1 (sym none ∙ ap (meaning_of names) (sym same) ∙ has), λ same. other_kind a.1 from.0 of'.0 same))

  of_place : (i j : ℕ) → i < scale.inputs → j < scale.amounts → Contains (cost_names names scale) (place_variable scale i j, weighs i j)
  of_place i j inside few =
      append_right (lifted_meanings of_question names) (place_names scale) (place_name scale i j)
      (flat_contains (λ k. map (place_name scale k) (numbers_below scale.amounts)) scale.inputs i (place_name scale i j) inside (map_contains (place_name scale i) scale.amounts j few))

  off_place : (i j : ℕ) → i < scale.inputs → j < scale.amounts → IsCalled (cost_names names scale) (negative (place_variable scale i j)) (fails (weighs i j))
  off_place i j inside few = record { named = of_place i j inside few; sign = refl }

  on_place : (i j : ℕ) → i < scale.inputs → j < scale.amounts → IsCalled (cost_names names scale) (positive (place_variable scale i j)) (holds (weighs i j))
  on_place i j inside few = record { named = of_place i j inside few; sign = refl }

  off_input : (x : Weighted) (m : Meaning × ℕ) → IsInput names x m → IsCalled (cost_names names scale) (negation x.input) (fails (of_question m.0))
  off_input x m is = record {
    named = append_left (lifted_meanings of_question names) (place_names scale) (x.input.var, of_question m.0) (map_has (λ (entry : ℕ × Meaning). (entry.0, of_question entry.1)) names (x.input.var, m.0) (named_entry names x.input.var m.0 is.called));
    sign = ap not is.positive;
  }

  question_reads : (clause : Clause) (named : List NamedLiteral) → ReadsAs names clause named → ReadsBy (cost_names names scale) clause (map (lifted of_question) named)
  question_reads clause named reads = lifted_reads of_question names (place_names scale) clause named reads

  -- ---- the clauses

  abbrev IsFamily : List (LiteralOf CostMeaning) → Type 0
  IsFamily named = IsCostClause net log n (named_weights net cost log n) (1 + MOST_COST) named

  -- a clause of the counter, by names
  record IsWeighing (clause : Clause) : Type 0 where
    which : NamedWeighing
    written : IsNamedWeighing (named_weights net cost log n) (1 + MOST_COST) which
    reads : ReadsBy (cost_names names scale) clause (weighing_clause which)

  amount_below : (j : ℕ) → j < scale.amounts → j < 1 + MOST_COST
  amount_below j few = let amounts = asks.amounts in omega (arith, amounts, few)

  below_inputs : (i : ℕ) → i < length asks.inputs → i < scale.inputs
  below_inputs i inside = let counted = asks.counted in omega (arith, counted, inside)

  weighing_reads : (which : WeightClause) → IsWeightClause asks.inputs scale.amounts which → IsWeighing (weight_clause (place_variable scale) which)
  weighing_reads (weighs_on i j) is =
      let last = is.0 in
      let many = inputs_are in
      let one : i < length asks.inputs = omega (arith, last) in record {
        which = keeps_weight i j;
        written = (omega (arith, last, many), amount_below j is.1);
        reads = reads_zip (cost_names names scale) (negative (place_variable scale i j) ∷ positive (place_variable scale (suc i) j) ∷ []) (fails (weighs i j) ∷ holds (weighs (suc i) j) ∷ [])
            (off_place i j (below_inputs i one) is.1, (on_place (suc i) j (below_inputs (suc i) last) is.1, tt));
      }
  weighing_reads (weighs_alone i j x) (weight, at, less, few) =
      let input : Weighted = record { input = x; weight = weight } in
      let found = named_at names asks.inputs (named_weights net cost log n) i input asks.input_names at in
      let heavy = found.is.weight in record {
        which = has_weight i j found.named.0;
        written = (found.named.1, found.there, omega (arith, less, heavy), amount_below j few);
        reads = reads_zip (cost_names names scale) (negation x ∷ positive (place_variable scale i j) ∷ []) (fails (of_question found.named.0) ∷ holds (weighs i j) ∷ [])
            (off_input input found.named found.is, (on_place i j (below_inputs i found.inside) few, tt));
      }
  weighing_reads (weighs_up i j weight x) (at, few) =
      let input : Weighted = record { input = x; weight = weight } in
      let found = named_at names asks.inputs (named_weights net cost log n) (suc i) input asks.input_names at in
      let last = found.inside in
      let one : i < length asks.inputs = omega (arith, last) in
      let low : j < scale.amounts = omega (arith, few) in
      subst (λ w. IsWeighing (weight_clause (place_variable scale) (weighs_up i j w x))) (sym found.is.weight) (record {
        which = adds_weight i j found.named.1 found.named.0;
        written = (found.there, subst (λ w. j + w < 1 + MOST_COST) found.is.weight (amount_below (j + weight) few));
        reads = reads_zip (cost_names names scale) (negative (place_variable scale i j) ∷ negation x ∷ positive (place_variable scale (suc i) (j + found.named.1)) ∷ [])
            (fails (weighs i j) ∷ fails (of_question found.named.0) ∷ holds (weighs (suc i) (j + found.named.1)) ∷ [])
            (off_place i j (below_inputs i one) low, (off_input input found.named found.is, (on_place (suc i) (j + found.named.1) (below_inputs (suc i) last) (subst (λ w. j + w < scale.amounts) found.is.weight few), tt)));
      })

  abbrev IsOneOf : Clause → Type 0
  IsOneOf clause = (named : List (LiteralOf CostMeaning)) × IsFamily named × ReadsBy (cost_names names scale) clause named

  limit_instance : (clause : Clause) → Contains asks.clauses clause ⊎ Contains asks.weighing clause → IsOneOf clause
  limit_instance clause (inl here) =
      let found = all_at (λ c. (named : List NamedLiteral) × IsNamedQuestion net log n asks.asks.columns named × ReadsAs names c named) asks.clauses asks.asks.question.code.only clause here in
      (map (lifted of_question) found.0, inl (found.0, instances_of net log n asks.asks.columns found.0 found.1, refl), question_reads clause found.0 found.2)
  limit_instance clause (inr there) =
      let found = all_at (λ c. (which : WeightClause) × IsWeightClause asks.inputs scale.amounts which × (weight_clause (place_variable scale) which ≡ c)) asks.weighing asks.weights.only clause there in
      let is = weighing_reads found.0 found.1 in
      (weighing_clause is.which, inr (is.which, is.written, refl), subst (λ c. ReadsBy (cost_names names scale) c (weighing_clause is.which)) found.2 is.reads)

  -- ---- what is assumed

  guards_read : ReadsBy (cost_names names scale) assumed (map (lifted of_question) (guard_literals net log))
  guards_read = subst (λ named. ReadsBy (cost_names names scale) assumed (map (lifted of_question) named)) (append-nil (guard_literals net log)) (question_reads assumed (guard_literals net log ++ []) asks.asks.assumes)

  limit_reads : (b : ℕ) → b < scale.amounts → 0 < scale.inputs → ReadsBy (cost_names names scale) (cost_limit scale (Some b)) (limit_literals (length (named_weights net cost log n)) (Some b))
  limit_reads b few some = by (length (named_weights net cost log n)) (asks.counted ∙ inputs_are)
    where
      by : (inputs : ℕ) → scale.inputs ≡ inputs → ReadsBy (cost_names names scale) (cost_limit scale (Some b)) (weighs_at_most inputs b)
      by zero none = absurd (omega (arith, none, some))
      by (suc i) is =
          let last : scale.inputs - 1 ≡ i = omega (arith, is) in
          let inside : i < scale.inputs = omega (arith, is) in
          subst (λ k. ReadsBy (cost_names names scale) (negative (place_variable scale k b) ∷ []) (fails (weighs i b) ∷ [])) (sym last)
          (reads_zip (cost_names names scale) (negative (place_variable scale i b) ∷ []) (fails (weighs i b) ∷ []) (off_place i b inside few, tt))

  drawn_with_limit : (bound : Option ℕ) → ReadsBy (cost_names names scale) (cost_limit scale bound) (limit_literals (length (named_weights net cost log n)) bound) →
      AreDrawnBy (cost_names names scale) whole (assumed ++ cost_limit scale bound) IsFamily (cost_literals net log (length (named_weights net cost log n)) bound)
  drawn_with_limit bound limit = record {
    once = names_once;
    instances = all_from IsOneOf whole (λ clause in'. limit_instance clause ((asks.both clause).0 in'));
    assumes = reads_both (cost_names names scale) assumed (cost_limit scale bound) (map (lifted of_question) (guard_literals net log)) (limit_literals (length (named_weights net cost log n)) bound) guards_read limit;
  }

  pub drawn_unbounded : AreDrawnBy (cost_names names scale) whole (assumed ++ cost_limit scale None) (IsCostClause net log n (named_weights net cost log n) (1 + MOST_COST)) (cost_literals net log (length (named_weights net cost log n)) None)
  drawn_unbounded = drawn_with_limit None (record { only = tt; all = tt })

  pub drawn_bounded : (b : ℕ) → b < scale.amounts → 0 < scale.inputs →
      AreDrawnBy (cost_names names scale) whole (assumed ++ cost_limit scale (Some b)) (IsCostClause net log n (named_weights net cost log n) (1 + MOST_COST)) (cost_literals net log (length (named_weights net cost log n)) (Some b))
  drawn_bounded b few some = drawn_with_limit (Some b) (limit_reads b few some)

-- ---- what can't be an axiom

one_name : {X : Type 0} (names : List (ℕ × X)) → AreOnce names → (var : ℕ) (x y : X) → Contains names (var, x) → Contains names (var, y) → x ≡ y
one_name [] each_once var x y first second = absurd (none_in_nil (var, x) first)
one_name {X} (entry ∷ names) each_once var x y first second = by (cons_cases entry names (var, x) first) (cons_cases entry names (var, y) second) (one_name names each_once.1 var x y)
  where
    differs : (other : ℕ × X) → Contains names other → entry.0 ≢ other.0
    differs other in' = (all_at (λ (p : ℕ × X). (entry.0 ≢ p.0) × (entry.1 ≢ p.1)) names each_once.0 other in').0

    by : (entry ≡ (var, x)) ⊎ Contains names (var, x) → (entry ≡ (var, y)) ⊎ Contains names (var, y) → (Contains names (var, x) → Contains names (var, y) → x ≡ y) → x ≡ y
    by (inl a) (inl b) later = ap (λ (p : ℕ × X). p.1) (sym a ∙ b)
    by (inl a) (inr b) later = absurd (differs (var, y) b (ap (λ (p : ℕ × X). p.0) a))
    by (inr a) (inl b) later = absurd (differs (var, x) a (ap (λ (p : ℕ × X). p.0) b))
    by (inr a) (inr b) later = later a b

module _ (names : List (ℕ × CostMeaning)) (l : Lit) (i j : ℕ) (each_once : AreOnce names) (here : Contains names (l.var, weighs i j)) where
  -- a clause of one literal reads as one whose literals all have its name
  each_named : (named : List (LiteralOf CostMeaning)) → ReadsBy names (l ∷ []) named → (m : LiteralOf CostMeaning) → Contains named m → m.meaning ≡ weighs i j
  each_named named reads m in' =
      let of' = all_at (λ o. (k : Lit) × Contains (l ∷ []) k × IsCalled names k o) named reads.all m in' in
      one_name names each_once l.var m.meaning (weighs i j) (subst (λ (k : Lit). Contains names (k.var, m.meaning)) (only of'.0 (cons_cases l [] of'.0 of'.1)) of'.2.named) here
    where
      only : (k : Lit) → (l ≡ k) ⊎ Contains [] k → k ≡ l
      only k (inl is) = sym is
      only k (inr none) = absurd (none_in_nil k none)

  -- no clause of the counter is like that
  not_weighing : (which : NamedWeighing) → ((m : LiteralOf CostMeaning) → Contains (weighing_clause which) m → m.meaning ≡ weighs i j) → ⊥
  not_weighing (keeps_weight a b) each =
      let one = (same_place a b i j (each (fails (weighs a b)) (here_first (fails (weighs a b)) (holds (weighs (suc a) b) ∷ []) (fails (weighs a b)) refl))).0 in
      let other = (same_place (suc a) b i j (each (holds (weighs (suc a) b)) (here_later (fails (weighs a b)) (holds (weighs (suc a) b) ∷ []) (holds (weighs (suc a) b)) (here_first (holds (weighs (suc a) b)) [] (holds (weighs (suc a) b)) refl)))).0 in
      omega (arith, one, other)
  not_weighing (has_weight a b x) each = other_kind x i j (each (fails (of_question x)) (here_first (fails (of_question x)) (holds (weighs a b) ∷ []) (fails (of_question x)) refl))
  not_weighing (adds_weight a b w x) each =
      other_kind x i j (each (fails (of_question x)) (here_later (fails (weighs a b)) (fails (of_question x) ∷ holds (weighs (suc a) (b + w)) ∷ []) (fails (of_question x)) (here_first (fails (of_question x)) (holds (weighs (suc a) (b + w)) ∷ []) (fails (of_question x)) refl)))

pub bounds_are_not_stated : BoundsAreNotStated
bounds_are_not_stated net log n inputs amounts names l named i j each_once family reads here = by family
  where
    by : IsCostClause net log n inputs amounts named → ⊥
    by (inl (of_family, is, same)) =
        let some = reads.only.0 in
        let from = map_from (lifted of_question) of_family some.0 (subst (λ ms. Contains ms some.0) same some.1) in
        other_kind from.0.meaning i j (ap (λ (m : LiteralOf CostMeaning). m.meaning) from.2 ∙ each_named names l i j each_once here named reads some.0 some.1)
    by (inr (which, written, same)) = not_weighing names l i j each_once here which (λ m in'. each_named names l i j each_once here named reads m (subst (λ ms. Contains ms m) same in'))
