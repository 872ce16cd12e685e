-- The book that a question of costs leaves, as a whole.
use Rattle.std.proofs.Common.{◌≡◌, ◌∙◌, ◌<◌, ◌≤◌, ◌+◌, ◌*◌, ◌^◌, ℕ, true, List, [], ◌∷◌, ◌++◌, map, Option, sym, ap, subst, arith, Contains, count_by}
use Rattle.std.specs.List.{AllByRecursion, list_any}
use Rattle.std.proofs.Math.Nat.{pow-le-pow_right}
use Rattle.std.proofs.lemmas.List.FromFn.{length-range_with_len}
use Rattle.cost_least.proofs.Fitting.{first_few, weighted_below, inputs_counted}
use Rattle.cost_least.specs.Weighed.{AreWeighedParts}
use Rattle.answers.specs.declared.cheap.Cheap.TheVariants.{Undecided}
use Rattle.answers.specs.declared.cheap.Priced.{Priced}
use Rattle.card_counter.specs.CounterState.{CounterState}
use Rattle.des_base.proofs.Elements.{all_append, all_at, any_has, all_change}
use Rattle.des_base.specs.Lists.{numbers_below}
use Rattle.des_net.specs.Network.{Net}
use Rattle.des_net.specs.QuestionSize.{fault_event_count}
use Rattle.least_faults.proofs.Below.{axioms_below}
use Rattle.least_faults.proofs.FreshCount.{fresh_below}
use Rattle.least_faults.specs.Bounds.{question_variables}
use Rattle.log_encode.specs.CodedLog.{CodedLog}
use Rattle.log_order.specs.Log.{Log}
use Rattle.proof_ledger.specs.Book.{BookEntry, axiomatic, mark, axioms_of}
use Rattle.proof_ledger.specs.Fresh.{is_learnt, occurs}
use Rattle.prop_core.specs.Clauses.{Clause, HasValues}
use Rattle.prop_core.specs.Trail.{has_var}
use Rattle.replay.specs.QuestionSize.{doubtful_count}
use Rattle.run_decode.specs.QuestionAxioms.{question_axioms, question_built}
use Rattle.step_encode.specs.Coded.{CodedSteps}
use Rattle.weight_counter.proofs.Small.{scales_are_small}
use Rattle.weight_counter.specs.Scales.{place_variable, scale_clauses}
use Rattle.weight_counter.specs.declared.scale.Scale.{Scale}
use Rattle.pricing.specs.LeastCost.{HasCostQuestion, IsPricedBy, cost_variables}
use Rattle.proof_ledger.proofs.AxiomLists.{axioms_between}
use Rattle.prop_core.proofs.Literals.{below_var, wider}
use Rattle.question_clauses.proofs.Lists.{in_numbers}

-- ---- variables below a number

pub known_below : (count : ℕ) (clauses : List Clause) → AllByRecursion (HasValues count) clauses → (var : ℕ) → list_any (has_var var) clauses ≡ true → Contains (numbers_below count) var
known_below count clauses below var there =
    let some = any_has (has_var var) clauses there in
    in_numbers count var (below_var count some.0 var (all_at (HasValues count) clauses some.0 below some.1) some.2)

-- ---- those of a question of costs

weighed_below : (cost : ℕ → ℕ) (steps : CodedSteps) (code : CodedLog) (counter : CounterState) (vars : ℕ) (axioms : List Clause) (scale : Scale) → AreWeighedParts cost steps code counter vars axioms scale → AllByRecursion (HasValues vars) axioms
weighed_below cost steps code counter vars axioms scale h =
    let vars_are = h.vars_are in
    let own = all_change (HasValues scale.first) (HasValues vars) h.own (λ clause. wider scale.first vars clause (omega (arith, vars_are))) (axioms_below steps code counter scale.first h.own h.coded) in
    let weighing = (scales_are_small scale h.inputs h.counted (weighted_below cost steps code counter scale.first h.own h.inputs h.coded h.weighted)).known in
    let clauses = scale_clauses (place_variable scale) scale.amounts h.inputs in
    subst (AllByRecursion (HasValues vars)) (sym h.whole) (all_append (HasValues vars) h.own clauses own (subst (λ v. AllByRecursion (HasValues v) clauses) (sym vars_are) weighing))

few_variables : (net : Net) (cost : ℕ → ℕ) (log : Log) (n : ℕ) (book : List BookEntry) (h : HasCostQuestion net cost log n book) → h.vars ≤ cost_variables net log n
few_variables net cost log n book h =
    let w = h.weighed in
    let built = question_built net log n 0 in
    let count = inputs_counted net log cost built.steps built.code w.inputs h.belong w.weighted ∙ ap (λ k. k * fault_event_count net + doubtful_count log) h.of_steps in
    let first = subst (λ k. h.scale.first ≤ question_variables net log k) h.of_steps (first_few net log built.steps built.code built.counter h.scale.first w.own h.belong w.coded) in
    let places = w.vars_are ∙ ap (λ k. h.scale.first + k * h.scale.amounts) (w.counted ∙ count) ∙ ap (λ k. h.scale.first + (n * fault_event_count net + doubtful_count log) * k) w.amounts in
    omega (arith, places, first)

-- a budget that leaves it undecided is small
pub unpriced_is_small : (net : Net) (cost : ℕ → ℕ) (log : Log) (n budget : ℕ) (book : List BookEntry) (lo : ℕ) (best : Option Priced) → IsPricedBy net cost log n budget book (Undecided lo best) → budget < 3 ^ cost_variables net log n
unpriced_is_small net cost log n budget book lo best h =
    let since = h.answered.left.since in
    let old = map axiomatic (question_axioms net log n 0) in
    let count = h.question.vars in
    let same = ap axioms_of h.answered.left.whole ∙ axioms_between old since in
    let all = subst (AllByRecursion (HasValues count)) same (weighed_below cost _ _ _ count (axioms_of book) h.question.scale h.question.weighed) in
    let known = λ (var : ℕ) (there : occurs var ((old ++ mark 0 ∷ []) ++ since) ≡ true). known_below count (axioms_of ((old ++ mark 0 ∷ []) ++ since)) all var there in
    let small = fresh_below (numbers_below count) (old ++ mark 0 ∷ []) since (count_by is_learnt since) known h.answered.left.fresh in
    let power = ap (λ k. 3 ^ k) (length-range_with_len 0 count) in
    let most = pow-le-pow_right {n = 3} (omega arith) (few_variables net cost log n book h.question) in
    omega (arith, small, power, most, h.answered.found.spent)
