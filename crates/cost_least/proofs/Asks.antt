-- Parts with a scale beside them ask a question of costs, whatever the names of the log's alarms.
use Rattle.std.proofs.Common.{◌≡◌, ◌∙◌, ◌⊎◌, inl, inr, ℕ, ◌≤◌, ◌<◌, List, ◌++◌, length, map, Option, Some, None, refl, sym, ap, subst, arith, Contains, ◌+◌}
use Rattle.std.specs.List.{AllZip}
use Rattle.std.proofs.lemmas.List.Elements.{Contains-append_left, Contains-append_right, Contains-append_cases}
use Rattle.card_counter.specs.CounterState.{CounterState, counter_meanings}
use Rattle.des_net.specs.Network.{IsNetwork}
use Rattle.least_faults.proofs.Below.{AreBelow, names_below}
use Rattle.question_clauses.specs.LogClauses.{guard_literals, doubtful_alarms}
use Rattle.log_encode.specs.CodedLog.{CodedLog, read_meanings, log_meanings, log_guards}
use Rattle.question_clauses.specs.LogCodes.{AreAmong}
use Rattle.log_order.specs.Log.{Log, IsValidLog}
use Rattle.question_clauses.proofs.LogCodes.{named_entry}
use Rattle.prop_core.specs.Clauses.{Clause}
use Rattle.prop_core.specs.VariableNames.{Meaning, meaning_of, ReadsAs, named_clause}
use Rattle.run_decode.proofs.RunNames.{inputs_read}
use Rattle.run_decode.proofs.WholeNames.{together_one_naming, together_ask}
use Rattle.run_decode.specs.Drawn.{fault_inputs}
use Rattle.run_decode.specs.Question.{Asks}
use Rattle.run_decode.specs.Tells.{AreBoth}
use Rattle.run_decode.specs.WholeNaming.{whole_meanings}
use Rattle.step_encode.specs.Coded.{CodedSteps, code_grid, code_meanings}
use Rattle.weight_counter.proofs.Written.{scales_are_exact}
use Rattle.weight_counter.specs.Scales.{place_variable, scale_clauses}
use Rattle.weight_counter.specs.declared.scale.Scale.{Scale}
use Rattle.weight_counter.specs.declared.weighted.Weighted.{Weighted}
use Rattle.cost_least.proofs.Inputs.{zip_inputs, names_are, weights_are, literals_are, false_count_is}
use Rattle.cost_least.proofs.Pricing.{costs_are_told}
use Rattle.cost_least.specs.Pricing.{named_weights, IsInput, AsksCosts, TellsCosts}
use Rattle.cost_least.specs.Weighed.{ScaledPartsTell, AreWeighedParts, fault_weights, weighs_one}

-- variables from a number on have no name, where names are below it
pub nameless_above : (vars : ℕ) (names : List (ℕ × Meaning)) → AreBelow vars names → (var : ℕ) → vars ≤ var → meaning_of names var ≡ None
nameless_above vars names below var above = by (meaning_of names var) (λ meaning is. below (var, meaning) (named_entry names var meaning is))
  where
    by : (o : Option Meaning) → ((meaning : Meaning) → o ≡ Some meaning → var < vars) → o ≡ None
    by None known = refl
    by (Some meaning) known = let low = known meaning refl in absurd (omega (arith, low, above))

both_lists : (first second : List Clause) → AreBoth (first ++ second) first second
both_lists first second clause = (λ in'. Contains-append_cases first second clause in', λ either. by either)
  where
    by : Contains first clause ⊎ Contains second clause → Contains (first ++ second) clause
    by (inl here) = Contains-append_left first second clause here
    by (inr here) = Contains-append_right first second clause here

module _ (cost : ℕ → ℕ) (steps : CodedSteps) (code : CodedLog) (counter : CounterState) (vars : ℕ) (axioms : List Clause) (scale : Scale) (parts : AreWeighedParts cost steps code counter vars axioms scale) where
  below : AreBelow scale.first (whole_meanings steps code counter)
  below = names_below steps code counter scale.first parts.own parts.coded

  log_among : AreAmong (log_meanings code) (whole_meanings steps code counter)
  log_among entry in' = Contains-append_right (code_meanings steps) (log_meanings code ++ counter_meanings counter) entry (Contains-append_left (log_meanings code) (counter_meanings counter) entry in')

  inputs_named : (log : Log) → code.log ≡ log → AllZip (IsInput (whole_meanings steps code counter)) parts.inputs (named_weights steps.net cost log steps.steps)
  inputs_named log same =
      let weighted = parts.weighted in
      let names = whole_meanings steps code counter in
      let naming = together_one_naming steps code counter parts.coded.together in
      let read = inputs_read steps code names weighted.false_lits naming.once naming.of_steps log_among weighted.read in
      subst (λ (xs : List Weighted). AllZip (IsInput names) xs (named_weights steps.net cost log steps.steps)) (sym weighted.whole)
      (zip_inputs names (fault_weights steps.net (code_grid steps) cost ++ map weighs_one weighted.false_lits) (named_weights steps.net cost log steps.steps)
      (ap (named_clause names) (literals_are steps.net cost (code_grid steps) weighted.false_lits) ∙ read
      ∙ ap Some (ap (λ l. fault_inputs steps.net l steps.steps) same ∙ sym (names_are steps.net cost log steps.steps)))
      (weights_are steps.net cost log steps.steps (code_grid steps) weighted.false_lits refl (false_count_is code.log (log_meanings code) weighted.false_lits weighted.read ∙ ap (λ l. length (doubtful_alarms l)) same)))

  -- they ask of a log that is the coded one
  pub asks_costs : (log : Log) → code.log ≡ log → ReadsAs (read_meanings code) (log_guards code) (guard_literals code.net code.log) →
      AsksCosts steps.net cost log steps.steps (whole_meanings steps code counter) scale axioms (log_guards code)
  asks_costs log same read =
      let names = whole_meanings steps code counter in
      let ask = together_ask steps code counter parts.own (log_guards code) parts.coded.together parts.coded.clauses read in record {
        clauses = parts.own;
        asks = subst (λ l. Asks steps.net l steps.steps None names parts.own (log_guards code)) same ask.unbounded;
        inputs = parts.inputs;
        input_names = inputs_named log same;
        counted = parts.counted;
        amounts = parts.amounts;
        nameless = nameless_above scale.first names below;
        weighing = scale_clauses (place_variable scale) scale.amounts parts.inputs;
        weights = (scales_are_exact scale parts.inputs).clauses;
        both = subst (λ cs. AreBoth cs parts.own (scale_clauses (place_variable scale) scale.amounts parts.inputs)) (sym parts.whole) (both_lists parts.own (scale_clauses (place_variable scale) scale.amounts parts.inputs));
      }

  -- so they tell what explains the log, within each total
  pub tells_costs : (log : Log) → IsNetwork steps.net → IsValidLog log → code.log ≡ log → ReadsAs (read_meanings code) (log_guards code) (guard_literals code.net code.log) →
      TellsCosts steps.net cost log steps.steps scale axioms (log_guards code)
  tells_costs log network valid same read = costs_are_told steps.net cost log steps.steps (whole_meanings steps code counter) scale axioms (log_guards code) network valid (asks_costs log same read)

pub scaled_parts_tell : ScaledPartsTell
scaled_parts_tell cost steps code counter vars axioms scale log parts network valid same read = tells_costs cost steps code counter vars axioms scale parts log network valid same read
