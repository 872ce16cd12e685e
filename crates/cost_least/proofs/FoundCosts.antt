-- What a decoded run costs is what the true inputs of the scale weigh.
use Rattle.std.proofs.Common.{◌≡◌, ◌∙◌, ℕ, ◌+◌, Bool, cond, List, [], ◌∷◌, ◌++◌, length, map, Some, refl, sym, ap, subst, arith, count_by, sum_by}
use Rattle.std.specs.Prelude.{not}
use Rattle.std.specs.List.{AllZip}
use Rattle.std.proofs.lemmas.List.Sums.{sum_by-cons}
use Rattle.std.proofs.lemmas.List.Elements.{Contains-append_right}
use Rattle.des_base.specs.Names.{AreDistinct}
use Rattle.des_net.specs.Network.{Net, IsNetwork}
use Rattle.des_net.specs.Width.{joined}
use Rattle.question_clauses.specs.Decoded.{decoded, decoded_order}
use Rattle.question_clauses.specs.LogCodes.{AreAmong}
use Rattle.log_encode.specs.CodedLog.{CodedLog, log_meanings}
use Rattle.log_order.proofs.LeastOrder.{least_order-is}
use Rattle.log_order.specs.Log.{Log, IsValidLog}
use Rattle.log_order.specs.Adding.{names_of}
use Rattle.log_order.specs.Order.{least_order}
use Rattle.prop_core.proofs.NameLemmas.{values_match}
use Rattle.prop_core.specs.VariableNames.{Meaning, HasEachOnce, named_clause}
use Rattle.replay.proofs.AcceptLemmas.{false_steps}
use Rattle.replay.specs.declared.run.RunStep.{RunStep}
use Rattle.replay.specs.declared.run.RunStep.TheVariants.{Happens, Dropped}
use Rattle.replay.specs.Matching.{is_real, order_of, IsWellMatched}
use Rattle.replay.specs.Traced.{word_of}
use Rattle.run_decode.proofs.DecodeNames.{run_clauses_hold}
use Rattle.run_decode.proofs.DecodeOrder.{run_order}
use Rattle.run_decode.proofs.DecodeRuns.{are_settled, run_word}
use Rattle.run_decode.proofs.RunNames.{beside_one_naming, inputs_read}
use Rattle.run_decode.proofs.RunsGiven.{decoded_by_name}
use Rattle.run_decode.specs.Decoding.{BelongTogether, IsTrueRun, RunClausesHold, decoded_run}
use Rattle.run_decode.specs.RunNaming.{run_meanings, truth_of}
use Rattle.step_encode.specs.Coded.{CodedSteps, code_grid, code_meanings}
use Rattle.weight_counter.specs.Weighing.{weight_true}
use Rattle.weight_counter.specs.declared.weighted.Weighted.{Weighted}
use Rattle.cost_least.proofs.Inputs.{zip_inputs, names_are, weights_are, literals_are, false_count_is}
use Rattle.cost_least.proofs.Pricing.{weights_are as weigh_alike}
use Rattle.cost_least.proofs.Sums.{costs_are_weights}
use Rattle.cost_least.specs.Costs.{event_cost, word_cost, total}
use Rattle.cost_least.specs.Entries.{entry_cost}
use Rattle.cost_least.specs.Pricing.{named_weights, weight_named, IsInput}
use Rattle.cost_least.specs.Weighed.{AreWeightedInputs, fault_weights, weighs_one}

-- ---- entry by entry

-- events and false alarms cost apart
costs_apart : (net : Net) (cost : ℕ → ℕ) (run : List RunStep) → sum_by (entry_cost net cost) run ≡ word_cost net cost (word_of run) + count_by (λ step. not (is_real step)) run
costs_apart net cost [] = refl
costs_apart net cost (Happens e alarm ∷ run) =
    let rest = costs_apart net cost run in
    let whole = sum_by-cons (entry_cost net cost) (Happens e alarm) run in
    let events = sum_by-cons (event_cost net cost) e (word_of run) in
    let alone = sum_by-cons (λ (step : RunStep). cond (not (is_real step)) 1 0) (Happens e alarm) run in
    omega (arith, rest, whole, events, alone)
costs_apart net cost (Dropped alarm ∷ run) =
    let rest = costs_apart net cost run in
    let whole = sum_by-cons (entry_cost net cost) (Dropped alarm) run in
    let alone = sum_by-cons (λ (step : RunStep). cond (not (is_real step)) 1 0) (Dropped alarm) run in
    omega (arith, rest, whole, alone)

pub costs_counted : (net : Net) (cost : ℕ → ℕ) (log : Log) (run : List RunStep) → IsWellMatched net log run → sum_by (entry_cost net cost) run ≡ total net cost (word_of run) (order_of log run)
costs_counted net cost log run matched = omega (arith, costs_apart net cost run, false_steps net log run matched)

-- ---- by the names of the run

named_by : (cost : ℕ → ℕ) (steps : CodedSteps) (code : CodedLog) (names : List (ℕ × Meaning)) (inputs : List Weighted) → HasEachOnce names → AreAmong (code_meanings steps) names → AreAmong (log_meanings code) names → AreWeightedInputs steps code cost inputs →
    AllZip (IsInput names) inputs (named_weights steps.net cost code.log steps.steps)
named_by cost steps code names inputs once of_steps of_log weighted =
    subst (λ (xs : List Weighted). AllZip (IsInput names) xs (named_weights steps.net cost code.log steps.steps)) (sym weighted.whole)
    (zip_inputs names (fault_weights steps.net (code_grid steps) cost ++ map weighs_one weighted.false_lits) (named_weights steps.net cost code.log steps.steps)
    (ap (named_clause names) (literals_are steps.net cost (code_grid steps) weighted.false_lits) ∙ inputs_read steps code names weighted.false_lits once of_steps of_log weighted.read ∙ ap Some (sym (names_are steps.net cost code.log steps.steps)))
    (weights_are steps.net cost code.log steps.steps (code_grid steps) weighted.false_lits refl (false_count_is code.log (log_meanings code) weighted.false_lits weighted.read)))

pub found_total : (net : Net) (cost : ℕ → ℕ) (log : Log) (steps : CodedSteps) (code : CodedLog) (value : ℕ → Bool) (run : List RunStep) (inputs : List Weighted) → IsNetwork net → IsValidLog log → AreDistinct (names_of log.alarms) →
    BelongTogether net log steps code → IsTrueRun steps code value → run ≡ decoded_run net log (truth_of steps code value) (least_order (length log.alarms) log.pairs) steps.steps → AreWeightedInputs steps code cost inputs →
    total net cost (word_of run) (order_of log run) ≡ weight_true value inputs
found_total net cost log steps code value run inputs network valid once together is_true is weighted =
    let truth = truth_of steps code value in
    let n = steps.steps in
    let order = least_order (length log.alarms) log.pairs in
    let ordered = least_order-is (length log.alarms) log.pairs valid in
    let holds = subst (λ l. RunClausesHold net l n truth) together.same_log (run_clauses_hold net log steps code value together is_true) in
    let settled = are_settled net log n truth order holds.logged holds.guarded ordered.listed ordered.kept in
    let given = decoded_by_name net log n truth order network valid ordered.listed ordered.kept holds.stepped holds.logged holds.guarded in
    let word = ap word_of is ∙ run_word net log truth order n settled ordered.listed.below in
    let alarms = ap (order_of log) is ∙ run_order net log truth order n settled once ordered.listed.below in
    let naming = beside_one_naming steps code together.beside in
    let named = named_by cost steps code (run_meanings steps code) inputs naming.once naming.of_steps (log_among steps code) weighted in
    let weights = weigh_alike (run_meanings steps code) value truth (values_match (run_meanings steps code) naming.once value) inputs (named_weights steps.net cost code.log n) named in
    ap (λ w. total net cost w (order_of log run)) word ∙ ap (λ o. total net cost (joined (decoded net log truth order n)) o) alarms
    ∙ costs_are_weights net cost log n truth (decoded net log truth order n) (decoded_order net log truth order n) given.steps given.false_alarms
    ∙ ap (λ m. weight_named truth (named_weights m cost log n)) (sym together.of_steps) ∙ ap (λ l. weight_named truth (named_weights steps.net cost l n)) (sym together.same_log) ∙ sym weights
  where
    log_among : (s : CodedSteps) (c : CodedLog) → AreAmong (log_meanings c) (run_meanings s c)
    log_among s c entry in' = Contains-append_right (code_meanings s) (log_meanings c) entry in'
