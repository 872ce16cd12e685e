-- There is room for a scale beside a question of bounded size, and its inputs are variables of the question.
use Rattle.std.proofs.Common.{◌≡◌, ◌∙◌, ℕ, ◌+◌, ◌*◌, ◌<◌, ◌≤◌, List, [], ◌∷◌, ◌++◌, length, map, sym, ap, subst, arith}
use Rattle.std.specs.List.{AllByRecursion}
use Rattle.std.proofs.lemmas.List.{length-map}
use Rattle.std.proofs.lemmas.List.Elements.{Contains-append_left, Contains-append_right, All-head, All-tail}
use Rattle.card_counter.specs.CounterState.{CounterState, counter_meanings}
use Rattle.des_base.specs.declared.TheConstants.{VAR_LIMIT, MOST_STEPS}
use Rattle.des_net.specs.Building.{IsDraft}
use Rattle.des_net.specs.Network.{Net}
use Rattle.des_net.specs.QuestionSize.{fault_event_count}
use Rattle.least_faults.proofs.Below.{names_below, read_below}
use Rattle.least_faults.proofs.QuestionRoom.{question_room}
use Rattle.least_faults.specs.Bounds.{question_variables}
use Rattle.least_faults.specs.Parts.{AreParts}
use Rattle.least_faults.specs.declared.TheConstants.{MOST_SIZE}
use Rattle.question_clauses.specs.LogCodes.{AreAmong}
use Rattle.log_encode.specs.CodedLog.{CodedLog, log_meanings}
use Rattle.log_order.specs.Log.{Log}
use Rattle.prop_core.specs.Clauses.{Clause, HasValues}
use Rattle.prop_core.specs.declared.lit.Lit.{Lit}
use Rattle.replay.specs.QuestionSize.{doubtful_count}
use Rattle.run_decode.proofs.FewNames.{inputs_are_counted}
use Rattle.run_decode.proofs.RunNames.{inputs_read}
use Rattle.run_decode.proofs.WholeNames.{together_one_naming}
use Rattle.run_decode.specs.Decoding.{BelongTogether}
use Rattle.run_decode.specs.Drawn.{fault_inputs}
use Rattle.run_decode.specs.WholeNaming.{AreInputs, whole_meanings}
use Rattle.step_encode.specs.Coded.{CodedSteps, code_grid, code_meanings}
use Rattle.step_encode.specs.FaultInputs.{fault_literals}
use Rattle.weight_counter.specs.declared.weighted.Weighted.{Weighted}
use Rattle.cost_least.proofs.Inputs.{literals_are}
use Rattle.cost_least.specs.Costs.{cost_size}
use Rattle.cost_least.specs.Weighed.{AreWeightedInputs}

-- without their weights they are the inputs of a counter of faults
bare : (cost : ℕ → ℕ) (steps : CodedSteps) (code : CodedLog) (inputs : List Weighted) → AreWeightedInputs steps code cost inputs → AreInputs steps code (map (λ (x : Weighted). x.input) inputs)
bare cost steps code inputs weighted = record {
  false_lits = weighted.false_lits;
  whole = ap (map (λ (x : Weighted). x.input)) weighted.whole ∙ literals_are steps.net cost (code_grid steps) weighted.false_lits;
  read = weighted.read;
}

-- they are as many as the faults in all steps and the doubtful alarms
pub inputs_counted : (net : Net) (log : Log) (cost : ℕ → ℕ) (steps : CodedSteps) (code : CodedLog) (inputs : List Weighted) → BelongTogether net log steps code → AreWeightedInputs steps code cost inputs → length inputs ≡ steps.steps * fault_event_count net + doubtful_count log
inputs_counted net log cost steps code inputs belong weighted =
    let n = steps.steps in
    let count = sym (length-map inputs (λ (x : Weighted). x.input)) ∙ inputs_are_counted steps code (map (λ (x : Weighted). x.input) inputs) (bare cost steps code inputs weighted)
    ∙ ap (λ m. fault_event_count m * n + doubtful_count code.log) belong.of_steps ∙ ap (λ l. fault_event_count net * n + doubtful_count l) belong.same_log in
    let turn : fault_event_count net * n ≡ n * fault_event_count net = grind arith in
    omega (arith, count, turn)

-- the variables of the question
pub first_few : (net : Net) (log : Log) (steps : CodedSteps) (code : CodedLog) (counter : CounterState) (vars : ℕ) (axioms : List Clause) → BelongTogether net log steps code → AreParts steps code counter vars axioms → vars ≤ question_variables net log steps.steps
first_few net log steps code counter vars axioms belong parts =
    let n = steps.steps in
    let variables = parts.bounded.variables in
    let same = ap (λ m. question_variables m code.log n) belong.of_steps ∙ ap (λ l. question_variables net l n) belong.same_log in
    omega (arith, variables, same)

pub scale_fits : (net : Net) (log : Log) (cost : ℕ → ℕ) (steps : CodedSteps) (code : CodedLog) (counter : CounterState) (vars : ℕ) (axioms : List Clause) (inputs : List Weighted) → IsDraft net → length log.alarms ≤ 2000 → BelongTogether net log steps code →
    steps.steps ≤ MOST_STEPS → cost_size net log steps.steps ≤ MOST_SIZE → AreParts steps code counter vars axioms → AreWeightedInputs steps code cost inputs → vars + length inputs * 1001 ≤ VAR_LIMIT
scale_fits net log cost steps code counter vars axioms inputs draft alarms belong time size parts weighted =
    let n = steps.steps in
    let count = inputs_counted net log cost steps code inputs belong weighted in
    let room = question_room net log n draft alarms time (omega (arith, size)) in
    let variables = parts.bounded.variables in
    let same = ap (λ m. question_variables m code.log n) belong.of_steps ∙ ap (λ l. question_variables net l n) belong.same_log in
    omega (arith, count, room, variables, same, size)

each_below : (vars : ℕ) (xs : List Weighted) → HasValues vars (map (λ (x : Weighted). x.input) xs) → AllByRecursion (λ (x : Weighted). x.input.var < vars) xs
each_below vars [] all = tt
each_below vars (x ∷ xs) all = (All-head (λ (l : Lit). l.var < vars) x.input (map (λ (y : Weighted). y.input) xs) all, each_below vars xs (All-tail (λ (l : Lit). l.var < vars) x.input (map (λ (y : Weighted). y.input) xs) all))

log_among : (steps : CodedSteps) (code : CodedLog) (counter : CounterState) → AreAmong (log_meanings code) (whole_meanings steps code counter)
log_among steps code counter entry in' = Contains-append_right (code_meanings steps) (log_meanings code ++ counter_meanings counter) entry (Contains-append_left (log_meanings code) (counter_meanings counter) entry in')

-- each input is a variable that was made
pub weighted_below : (cost : ℕ → ℕ) (steps : CodedSteps) (code : CodedLog) (counter : CounterState) (vars : ℕ) (axioms : List Clause) (inputs : List Weighted) → AreParts steps code counter vars axioms → AreWeightedInputs steps code cost inputs →
    AllByRecursion (λ (x : Weighted). x.input.var < vars) inputs
unfolding bare
weighted_below cost steps code counter vars axioms inputs parts weighted =
    let names = whole_meanings steps code counter in
    let own = bare cost steps code inputs weighted in
    let naming = together_one_naming steps code counter parts.together in
    let read = inputs_read steps code names weighted.false_lits naming.once naming.of_steps (log_among steps code counter) weighted.read in
    each_below vars inputs (subst (HasValues vars) (sym own.whole) (read_below vars names (fault_literals steps.net (code_grid steps) ++ weighted.false_lits) (fault_inputs steps.net code.log steps.steps) (names_below steps code counter vars axioms parts) read))
