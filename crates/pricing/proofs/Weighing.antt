-- What is found of the least total, by costs that a table holds.
use Rattle.std.proofs.Common.{◌≡◌, ◌∙◌, ◌<◌, inl, inr, ℕ, zero, suc, Bool, true, false, List, [], ◌∷◌, ◌++◌, length, map, Option, Result, Ok, Err, IfOk, OnErr, refl, ap, subst, sym, arith}
use Rattle.card_counter.specs.CounterState.{CounterState}
use Rattle.cost_least.specs.Answers.{CostAsked, IsCostAnswered, IsCostLeftOpen}
use Rattle.cost_least.specs.Searching.{HasAnsweredCosts, IsLeftWeighed, LeavesUnpriced}
use Rattle.cost_least.specs.Weighed.{AreWeighedParts, IsOneElsewhere, KeepsCode}
use Rattle.answers.specs.declared.cheap.Cheap.{Cheap}
use Rattle.des_net.specs.Network.{Event, Net, is_fault, no_event}
use Rattle.std.specs.Prelude.{slice_index_or, if◌then◌else◌}
use Rattle.des_base.specs.declared.memory.Memory.{Memory}
use Rattle.event_costs.specs.Prices.{cost_at}
use Rattle.event_costs.specs.StoredCosts.{GivesCosts}
use Rattle.least_faults.specs.Parts.{built_of}
use Rattle.least_faults.specs.declared.parts.Parts.{Parts}
use Rattle.log_encode.specs.CodedLog.{CodedLog}
use Rattle.log_order.specs.Log.{Log}
use Rattle.proof_ledger.specs.Book.{BookEntry, IsValidBook, axiomatic, axioms_of, mark}
use Rattle.run_decode.specs.Decoding.{BelongTogether}
use Rattle.run_decode.specs.QuestionAxioms.{BuiltQuestion, question_axioms, question_built}
use Rattle.step_encode.specs.Coded.{CodedSteps}
use Rattle.weight_counter.specs.declared.scale.Scale.{Scale}
use Rattle.inquiries.specs.Begun.{HasBegun, unasked_book}
use Rattle.pricing.specs.LeastCost.{AnswersTable, HasCostQuestion, IsPricedBy, LeavesCosts, StaysUnpriced, fault_costs}
use Rattle.inquiries.proofs.Diagnosing.{question_begins}

-- only an event of the network is a fault
fault_known : (net : Net) (e : ℕ) → is_fault net e ≡ true → e < length net.events
fault_known net e fault = go net.events e fault
  where
    go : (events : List Event) (e : ℕ) → (slice_index_or events e no_event).fault ≡ true → e < length events
    go [] e h = cc
    go (x ∷ events) zero h = omega arith
    go (x ∷ events) (suc e) h = let later = go events e h in omega (arith, later)

module _ {R C : Type 0} (may : R → ℕ → Type 0) (gives : R → ℕ → ℕ → Type 0) (answers : C → ℕ → ℕ → Type 0) (stored : C) (net : Net) (log : Log) (parts later : Parts R) (budget : ℕ) (old new : List BookEntry) (table : List (Option ℕ))
    (begun : HasBegun may gives net log parts old) (kept : KeepsCode parts later) (by_table : AnswersTable answers stored net table) where
  built : built_of parts old ≡ question_built net log parts.step.steps 0
  built = question_begins net log parts.step.steps parts old begun.columns begun.parts_of.built

  abbrev asked : (ℕ → ℕ) → ℕ → CostAsked
  asked cost n = record { net = net; cost = cost; log = log; steps = n }

  -- by costs that the stored closure answers
  module _ (cost : ℕ → ℕ) (answered : GivesCosts answers stored net cost) (elsewhere : IsOneElsewhere net cost) (scale : Scale) (weighed : AreWeighedParts cost later.step later.code.coded later.counter later.vars (axioms_of new) scale) where
    alike : (e : ℕ) (fault : Bool) → is_fault net e ≡ fault → cost e ≡ (if fault then cost_at table e else 1)
    alike e true fault = let known = fault_known net e fault in by_table e (cost e) known (answered e known fault)
    alike e false none = elsewhere e none

    -- functions with the same values are one
    costs_are : cost ≡ fault_costs net table
    costs_are = λ i e. alike e (is_fault net e) refl i

    question : HasCostQuestion net (fault_costs net table) log parts.step.steps new
    question =
        let by_costs = subst (λ (c : ℕ → ℕ). AreWeighedParts c later.step later.code.coded later.counter later.vars (axioms_of new) scale) costs_are weighed in
        let step = kept.step ∙ ap (λ (q : BuiltQuestion). q.steps) built in
        let code = ap (λ (c : _). c.coded) kept.code ∙ ap (λ (q : BuiltQuestion). q.code) built in
        let counter = kept.counter ∙ ap (λ (q : BuiltQuestion). q.counter) built in
        let belong = subst (λ (s : CodedSteps). BelongTogether net log s (question_built net log parts.step.steps 0).code) (ap (λ (q : BuiltQuestion). q.steps) built)
        (subst (λ (d : CodedLog). BelongTogether net log parts.step d) (ap (λ (q : BuiltQuestion). q.code) built) begun.parts_of.belong) in
        record {
          belong = belong;
          of_steps = sym (ap (λ (q : BuiltQuestion). q.steps.steps) built);
          vars = later.vars;
          scale = scale;
          weighed = subst (λ (s : CodedSteps). AreWeighedParts (fault_costs net table) s (question_built net log parts.step.steps 0).code (question_built net log parts.step.steps 0).counter later.vars (axioms_of new) scale) step
              (subst (λ (d : CodedLog). AreWeighedParts (fault_costs net table) later.step d (question_built net log parts.step.steps 0).counter later.vars (axioms_of new) scale) code
              (subst (λ (k : CounterState). AreWeighedParts (fault_costs net table) later.step later.code.coded k later.vars (axioms_of new) scale) counter by_costs));
        }

  -- ---- an answer

  means : (cheap : Cheap) (found : HasAnsweredCosts answers stored net log later budget old new cheap) → IsCostAnswered (asked found.cost parts.step.steps) budget (map axiomatic (question_axioms net log parts.step.steps 0)) new cheap
  means cheap found =
      let of_steps = subst (λ (s : CodedSteps). IsCostAnswered (asked found.cost s.steps) budget old new cheap) kept.step found.means in
      subst (λ (o : List BookEntry). IsCostAnswered (asked found.cost parts.step.steps) budget o new cheap) begun.axioms of_steps

  pub priced_by : (cheap : Cheap) → HasAnsweredCosts answers stored net log later budget old new cheap → IsValidBook new → IsPricedBy net (fault_costs net table) log parts.step.steps budget new cheap
  priced_by cheap found valid = record {
    answered = subst (λ (c : ℕ → ℕ). IsCostAnswered (asked c parts.step.steps) budget (map axiomatic (question_axioms net log parts.step.steps 0)) new cheap) (costs_are found.cost found.answered found.others found.scale found.weighed) (means cheap found);
    question = question found.cost found.answered found.others found.scale found.weighed;
    valid = valid;
  }

  -- ---- without an answer

  stays : (left : IsLeftWeighed answers stored net log later budget old new) → IsCostLeftOpen (asked left.cost parts.step.steps) budget (unasked_book net log parts.step.steps) new
  stays left =
      let of_steps = subst (λ (s : CodedSteps). IsCostLeftOpen (asked left.cost s.steps) budget old new) kept.step left.unanswered in
      subst (λ (o : List BookEntry). IsCostLeftOpen (asked left.cost parts.step.steps) budget o new) begun.axioms of_steps

  stays_unpriced : LeavesUnpriced answers stored net log later budget old new → IsValidBook new → StaysUnpriced net (fault_costs net table) log parts.step.steps budget new
  stays_unpriced (inl same) valid = inl (same ∙ begun.axioms)
  stays_unpriced (inr (inl opened)) valid = inr (inl (opened ∙ ap (λ (b : List BookEntry). b ++ mark 0 ∷ []) begun.axioms))
  stays_unpriced (inr (inr left)) valid = inr (inr (record {
    unanswered = subst (λ (c : ℕ → ℕ). IsCostLeftOpen (asked c parts.step.steps) budget (unasked_book net log parts.step.steps) new) (costs_are left.cost left.answered left.others left.scale left.weighed) (stays left);
    question = question left.cost left.answered left.others left.scale left.weighed;
    valid = valid;
  }))

  -- by what comes of it
  pub leaves : (result : Result Cheap Memory) → IfOk result (HasAnsweredCosts answers stored net log later budget old new) → OnErr result (LeavesUnpriced answers stored net log later budget old new) → IsValidBook new → LeavesCosts net (fault_costs net table) log parts.step.steps budget new
  leaves (Ok cheap) found left valid = inr (inr (cheap, priced_by cheap found valid))
  leaves (Err memory) found left valid = inr (inl (stays_unpriced left valid))
