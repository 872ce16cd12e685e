-- What a question of costs asks, and what its answers mean.
use Rattle.std.proofs.Common.{◌≡◌, ◌∙◌, ◌⊎◌, inl, inr, ℕ, suc, ◌+◌, ◌-◌, ◌<◌, ◌≤◌, Bool, true, List, length, Option, Some, None, ap, subst, arith, take, take_all}
use Rattle.std.specs.Prelude.{IfSome, min}
use Rattle.std.proofs.lemmas.Bool.{cases_lt}
use Rattle.card_counter.specs.CounterState.{CounterState, negative}
use Rattle.des_net.specs.Network.{IsNetwork}
use Rattle.event_costs.specs.declared.TheConstants.{MOST_COST}
use Rattle.question_clauses.specs.LogClauses.{guard_literals}
use Rattle.log_encode.specs.CodedLog.{CodedLog, read_meanings, log_guards}
use Rattle.log_order.specs.Log.{Log, IsValidLog}
use Rattle.proof_ledger.specs.Book.{BookEntry}
use Rattle.prop_core.specs.Clauses.{Clause, AllClausesTrue, literal_true}
use Rattle.prop_core.specs.VariableNames.{ReadsAs}
use Rattle.replay.specs.Explanation.{Entry, Explains}
use Rattle.replay.specs.Matching.{order_of}
use Rattle.replay.specs.Traced.{word_of}
use Rattle.run_decode.proofs.Tells.{told_is_refuted}
use Rattle.step_encode.specs.Coded.{CodedSteps}
use Rattle.weight_counter.proofs.Weights.{weights_are_reached}
use Rattle.weight_counter.specs.Scales.{place_variable}
use Rattle.weight_counter.specs.Weighing.{weight_true, AreWeightClauses}
use Rattle.weight_counter.specs.declared.scale.Scale.{Scale}
use Rattle.weight_counter.specs.declared.weighted.Weighted.{Weighted}
use Rattle.cost_least.proofs.Asks.{tells_costs}
use Rattle.cost_least.specs.Answers.{CostAsked, Needs, IsPriced, IsCostEvidence, IsCheapestFound, IsDearFound}
use Rattle.cost_least.specs.Costs.{total}
use Rattle.cost_least.specs.Pricing.{ExplainsAt, PosesCosts}
use Rattle.cost_least.specs.Searching.{MayBound, CostsAreRuledOut}
use Rattle.cost_least.specs.Weighed.{AreWeighedParts, assumed_at}
use Rattle.answers.specs.declared.cheap.Priced.{Priced}
use Rattle.prop_core.proofs.Premises.{negated}

-- without a bound, and within one that may be asked for
pub told_at : (cost : ℕ → ℕ) (steps : CodedSteps) (code : CodedLog) (counter : CounterState) (vars : ℕ) (axioms : List Clause) (scale : Scale) (log : Log) → AreWeighedParts cost steps code counter vars axioms scale →
    IsNetwork steps.net → IsValidLog log → code.log ≡ log → ReadsAs (read_meanings code) (log_guards code) (guard_literals code.net code.log) → (bound : Option ℕ) → IfSome bound (MayBound scale) →
    PosesCosts steps.net cost log steps.steps bound axioms (assumed_at code scale bound)
told_at cost steps code counter vars axioms scale log parts network valid same read None may = (tells_costs cost steps code counter vars axioms scale parts log network valid same read).unbounded
told_at cost steps code counter vars axioms scale log parts network valid same read (Some b) may = (tells_costs cost steps code counter vars axioms scale parts log network valid same read).bounded b may.few may.some

-- a clause of negated assumptions that the axioms entail rules out what they tell
pub costs_are_ruled_out : CostsAreRuledOut
costs_are_ruled_out q None axioms assumed clause told entails negates =
    λ word order explains. told_is_refuted (ExplainsAt q.net q.cost q.log q.steps None) axioms assumed clause told.tells entails negates word order explains
costs_are_ruled_out q (Some b) axioms assumed clause told entails negates = λ word order explains. by word order explains (cases_lt b (total q.net q.cost word order))
  where
    by : (word : List ℕ) (order : List Entry) → Explains q.net q.log q.steps word order → (b < total q.net q.cost word order) ⊎ (total q.net q.cost word order ≤ b) → suc b ≤ total q.net q.cost word order
    by word order explains (inl more) = omega (arith, more)
    by word order explains (inr less) = absurd (told_is_refuted (ExplainsAt q.net q.cost q.log q.steps (Some b)) axioms assumed clause told.tells entails negates word order (explains, less))

-- where the literal for at most b is true, the inputs weigh no more
pub within_limit : (scale : Scale) (inputs : List Weighted) (clauses : List Clause) (value : ℕ → Bool) (b : ℕ) → AreWeightClauses (place_variable scale) inputs scale.amounts clauses → AllClausesTrue value clauses → scale.inputs ≡ length inputs →
    MayBound scale b → literal_true value (negative (place_variable scale (scale.inputs - 1) b)) ≡ true → weight_true value inputs ≤ b
within_limit scale inputs clauses value b are all counted may limit = by (cases_lt b (weight_true value inputs))
  where
    by : (b < weight_true value inputs) ⊎ (weight_true value inputs ≤ b) → weight_true value inputs ≤ b
    by (inr less) = less
    by (inl more) =
        let some = may.some in
        let few = may.few in
        let last : suc (scale.inputs - 1) ≡ length inputs = omega (arith, counted, some) in
        let whole : weight_true value (take (suc (scale.inputs - 1)) inputs) ≡ weight_true value inputs = ap (λ k. weight_true value (take k inputs)) last ∙ ap (weight_true value) (take_all (length inputs) inputs (omega arith)) in
        let on = weights_are_reached (place_variable scale) inputs scale.amounts clauses value are all (scale.inputs - 1) b (omega (arith, counted, some)) few (omega (arith, whole, more)) in
        absurd (negated (value (place_variable scale (scale.inputs - 1) b)) limit on)

-- ---- where the search ends

-- what is known is no lower than what is needed
pub needed : (q : CostAsked) (lo : ℕ) (best : Priced) → Needs q lo → IsPriced q best → lo ≤ best.cost
needed q lo best needs given = let is = given.total_is in let least = needs (word_of best.run) (order_of q.log best.run) given.explains in omega (arith, is, least)

-- what the search has come to is the known total, and no greater one than is asked for: it is the least
pub ends_cheapest : (q : CostAsked) (axioms : List Clause) (since : List BookEntry) (lo : ℕ) (best : Priced) → Needs q lo → IsPriced q best → min best.cost (1 + MOST_COST) ≤ lo → best.cost ≤ MOST_COST →
    ((b : ℕ) → lo ≡ suc b → IsCostEvidence q (Some b) axioms since) → IsCheapestFound q axioms since best
ends_cheapest q axioms since lo best needs given end few evidence =
    let known = needed q lo best needs given in
    let same : lo ≡ best.cost = omega (arith, known, end, few) in
    record {
      given = given;
      few = few;
      cheapest = record {
        reached = record { word = word_of best.run; order = order_of q.log best.run; explains = given.explains; total_is = given.total_is };
        least = subst (Needs q) same needs;
      };
      evidence = λ b is. evidence b (same ∙ is);
    }

-- or all totals that are asked for are refuted
pub ends_dear : (q : CostAsked) (axioms : List Clause) (since : List BookEntry) (lo : ℕ) (best : Priced) → Needs q lo → IsPriced q best → min best.cost (1 + MOST_COST) ≤ lo → lo ≤ 1 + MOST_COST → MOST_COST < best.cost →
    ((b : ℕ) → lo ≡ suc b → IsCostEvidence q (Some b) axioms since) → IsDearFound q axioms since best.run
ends_dear q axioms since lo best needs given end reached above evidence =
    let same : lo ≡ 1 + MOST_COST = omega (arith, end, reached, above) in
    record {
      total = best.cost;
      given = given;
      above = above;
      dear = record {
        total = best.cost;
        explained = record { word = word_of best.run; order = order_of q.log best.run; explains = given.explains; total_is = given.total_is };
        above = subst (Needs q) same needs;
      };
      evidence = evidence MOST_COST (omega (arith, same));
    }
