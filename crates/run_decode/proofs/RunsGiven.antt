-- The runs that assignments give, and how many faults they have.
use Rattle.std.proofs.Common.{◌≡◌, ◌∙◌, ℕ, Bool, List, [], ◌∷◌, length, Some, sym, ap, arith, cond, count_by}
use Rattle.std.proofs.lemmas.Option.{same_Some}
use Rattle.card_counter.proofs.Counts.{count_cons}
use Rattle.des_net.specs.Network.{Net, IsNetwork}
use Rattle.question_clauses.proofs.LogCodes.{read_of}
use Rattle.question_clauses.proofs.Explained.{assignments_explain}
use Rattle.question_clauses.proofs.LogSound.{log_is_sound}
use Rattle.question_clauses.specs.Decoded.{decoded, decoded_order}
use Rattle.question_clauses.specs.LogCodeLaws.{IsDecoded}
use Rattle.question_clauses.specs.LogTruth.{LogClausesHold, GuardsHold}
use Rattle.log_order.specs.Log.{Log, ListsOnce, Keeps, IsValidLog}
use Rattle.prop_core.proofs.NameLemmas.{values_match, literal_is}
use Rattle.prop_core.specs.Clauses.{literal_true}
use Rattle.prop_core.specs.NamedClauses.{named_true, Match, value_by}
use Rattle.prop_core.specs.VariableNames.{Meaning, NamedLiteral, HasEachOnce, named_clause}
use Rattle.prop_core.specs.declared.lit.Lit.{Lit}
use Rattle.question_clauses.proofs.StepsExact.{sets_in_order}
use Rattle.question_clauses.proofs.StepsSound.{steps_are_sound}
use Rattle.question_clauses.specs.Steps.{StepClausesHold, step_sets}
use Rattle.run_decode.proofs.Faults.{faults_are_inputs}
use Rattle.run_decode.specs.DecodedRuns.{GivesExplanation, DecodedExplains}
use Rattle.run_decode.specs.Drawn.{fault_inputs}

-- ---- by name

pub decoded_by_name : (net : Net) (log : Log) (n : ℕ) (value : Meaning → Bool) (alarms : List ℕ) → IsNetwork net → IsValidLog log → ListsOnce (length log.alarms) alarms → Keeps alarms log.pairs →
    StepClausesHold net n value → LogClausesHold net log n value → GuardsHold net log value → IsDecoded net log n value alarms
decoded_by_name net log n value alarms network valid complete kept steps logged guards =
    let arranged' = log_is_sound net log n value (step_sets net n value) alarms valid complete kept (sets_in_order net n value) logged guards in
    let run = steps_are_sound net n value (decoded net log value alarms n) network steps arranged'.steps in
    record {
      steps = arranged'.steps;
      explains = record { run = run.0; fits = (decoded net log value alarms n, arranged'.steps.count, run.1); linear = arranged'.linear };
      false_alarms = arranged'.false_alarms;
    }

-- ---- by variable

-- as many literals are true as names that they read as
count_read : (names : List (ℕ × Meaning)) (assignment : ℕ → Bool) (value : Meaning → Bool) → Match names assignment value → (literals : List Lit) (read : List NamedLiteral) → named_clause names literals ≡ Some read →
    count_by (literal_true assignment) literals ≡ count_by (named_true value) read
count_read names assignment value match [] read h = ap (count_by (named_true value)) (same_Some [] read h)
count_read names assignment value match (l ∷ literals) read h =
    let parts = read_of names l literals read h in
    let here = literal_is names assignment value l parts.first match parts.literal in
    let rest = count_read names assignment value match literals parts.rest parts.later in
    let left = count_cons (literal_true assignment) l literals in
    let right = count_cons (named_true value) parts.first parts.rest in
    let same = ap {B = ℕ} (λ b. cond b 1 0) here in
    let sum : count_by (literal_true assignment) (l ∷ literals) ≡ count_by (named_true value) (parts.first ∷ parts.rest) = omega (arith, rest, left, right, same) in
    sum ∙ ap (count_by (named_true value)) (sym parts.whole)

pub gives_explanation : (net : Net) (log : Log) (n : ℕ) (names : List (ℕ × Meaning)) (assignment : ℕ → Bool) (alarms : List ℕ) → HasEachOnce names → IsDecoded net log n (value_by names assignment) alarms →
    GivesExplanation net log n names assignment alarms
gives_explanation net log n names assignment alarms once gives =
    let faults = faults_are_inputs net log n (value_by names assignment) (decoded net log (value_by names assignment) alarms n) (decoded_order net log (value_by names assignment) alarms n) gives.steps gives.false_alarms in record {
      gives = gives;
      faults = faults;
      fault_variables = λ inputs read. faults ∙ sym (count_read names assignment (value_by names assignment) (values_match names once assignment) inputs (fault_inputs net log n) read);
    }

pub decoded_explains : DecodedExplains
decoded_explains net log n names stepped written assumed assignment alarms network question valid complete kept makes =
    gives_explanation net log n names assignment alarms question.log_code.once
    (assignments_explain net log n names stepped written assumed assignment alarms network question valid complete kept makes)
