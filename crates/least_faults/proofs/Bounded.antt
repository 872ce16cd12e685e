-- Parts of a question take no more variables and axioms than the question does at most: as they begin, with a column, and with an addition.
use Rattle.std.proofs.Common.{◌≡◌, ◌∙◌, ℕ, suc, ◌+◌, ◌-◌, ◌*◌, ◌<◌, ◌≤◌, Bool, true, false, cond, List, [], ◌++◌, length, refl, ap, arith, sum_by, length-append}
use Rattle.std.proofs.Math.Nat.{mul-le-mul_right, suc-mul}
use Rattle.card_counter.specs.CounterState.{CounterState}
use Rattle.des_base.specs.Lists.{numbers_below}
use Rattle.des_base.specs.declared.TheConstants.{VAR_LIMIT}
use Rattle.des_net.specs.Network.{Net, IsNetwork}
use Rattle.des_net.specs.QuestionSize.{component_sizes, fault_event_count, observable_count}
use Rattle.least_faults.proofs.AddedClauses.{addition_grows}
use Rattle.least_faults.proofs.Observed.{few_observable, sum_both}
use Rattle.least_faults.specs.Adding.{is_doubted}
use Rattle.least_faults.specs.Bounds.{AreBounded, coded_clauses, question_variables}
use Rattle.least_faults.specs.LogVariables.{log_variables}
use Rattle.question_clauses.proofs.Drafts.{doubtful_more}
use Rattle.question_clauses.proofs.NewNames.{names_leave_room}
use Rattle.question_clauses.specs.Additions.{Addition, alarm_added, pair_added, with_addition}
use Rattle.question_clauses.specs.Drafts.{added_clauses}
use Rattle.question_clauses.specs.LogNames.{added_meanings}
use Rattle.log_encode.specs.AlarmVariables.{false_width}
use Rattle.log_encode.specs.CodedLog.{CodedLog, addition_width}
use Rattle.log_order.specs.Log.{Log, is_doubtful, no_log}
use Rattle.prop_core.specs.Clauses.{Clause}
use Rattle.replay.specs.QuestionSize.{alarm_variables, doubtful_count, matching_count}
use Rattle.step_encode.specs.Coded.{CodedSteps, variable_count}

-- ---- the variables of a question

false_is : (b : Bool) → false_width b ≡ cond b 1 0
false_is true = refl
false_is false = refl

-- those of the log are those of its alarms, and one for each doubtful one
log_variables_are : (net : Net) (log : Log) (n : ℕ) →
    log_variables net log n ≡ 1 + observable_count net + (sum_by (λ i. alarm_variables n (matching_count net log i)) (numbers_below (length log.alarms)) + doubtful_count log)
log_variables_are net log n =
    let split = sum_both (λ i. alarm_variables n (matching_count net log i)) (λ i. false_width (is_doubtful log i)) (numbers_below (length log.alarms)) in
    let each : (λ (i : ℕ). false_width (is_doubtful log i)) ≡ (λ (i : ℕ). cond (is_doubtful log i) 1 0) = λ j. λ i. false_is (is_doubtful log i) j in
    let falses = ap (λ (f : ℕ → ℕ). sum_by f (numbers_below (length log.alarms))) each in
    omega (arith, split, falses)

-- An addition, and what the counter may get with it, take no more than the question gets.
pub addition_fits : (net : Net) (log : Log) (n : ℕ) (addition : Addition) →
    length (added_meanings net log n addition) + 256 * cond (is_doubted addition) 1 0 + question_variables net log n ≤ question_variables net (with_addition log addition) n
addition_fits net log n (alarm_added new) =
    omega (
      arith,
      names_leave_room net log n new,
      doubtful_more net log n new,
      log_variables_are net log n,
      log_variables_are net (with_addition log (alarm_added new)) n,
    )
addition_fits net log n (pair_added i j) = omega arith

-- ---- one column less is left

pub one_less : (columns inputs : ℕ) → columns < 256 → (256 - columns) * inputs ≡ (256 - (columns + 1)) * inputs + inputs
one_less columns inputs few = let rest : 256 - columns ≡ suc (256 - (columns + 1)) = omega arith in ap (λ (k : ℕ). k * inputs) rest ∙ suc-mul (256 - (columns + 1)) inputs

-- ---- as they begin

-- with no column and no clause but those of the steps and of the log
module _ (net : Net) (log : Log) (n : ℕ) (steps : CodedSteps) (code : CodedLog) (counter : CounterState) (vars : ℕ) (stepped written : List Clause) (network : IsNetwork net)
    (is : steps ≡ record { net = net; steps = n; first = 0 }) (same : code.log ≡ log) where
  variables_are : question_variables steps.net code.log steps.steps ≡ question_variables net log n
  variables_are = ap (λ (s : CodedSteps). question_variables s.net code.log s.steps) is ∙ ap (λ (l : Log). question_variables net l n) same

  clauses_are : coded_clauses steps.net code.log steps.steps ≡ coded_clauses net code.log n
  clauses_are = ap (λ (s : CodedSteps). coded_clauses s.net code.log s.steps) is

  pub bounded_begin : counter.columns ≡ [] → length counter.inputs ≡ fault_event_count net * n + doubtful_count log → vars ≤ variable_count net n + log_variables net log n → question_variables net log n ≤ VAR_LIMIT →
      length stepped ≤ 3 * ((n + 1) * component_sizes net) → length written + coded_clauses net no_log n ≤ observable_count net * n + coded_clauses net code.log n → AreBounded steps code counter vars (stepped ++ written)
  bounded_begin none inputs few fits few_steps few_written =
      let columns = ap length none in
      let width = columns_width (length counter.columns) (length counter.inputs) (fault_event_count net) n (doubtful_count log) columns inputs in
      let seen = mul-le-mul_right n (few_observable net network) in
      let all = begin_lean n (component_sizes net) (observable_count net) (length stepped) (length written) (coded_clauses net code.log n) seen few_steps few_written in
      record {
        columns = omega (arith, columns);
        variables = omega (arith, width, few, variables_are);
        limit = omega (arith, fits, variables_are);
        lean = omega (arith, all, length-append stepped written, clauses_are);
      }
    where
      columns_width : (c i f k d : ℕ) → c ≡ 0 → i ≡ f * k + d → (256 - c) * i ≡ 256 * k * f + 256 * d
      columns_width c i f k d none are = rw (none, are) (grind arith)

      begin_lean : (k q o s w all : ℕ) → o * k ≤ q * k → s ≤ 3 * ((k + 1) * q) → w + 12 * (k * (q + 0 + 0) + (q + 0 + 0)) ≤ o * k + all → s + w ≤ all
      begin_lean k q o s w all seen few more = let turn : k * q ≡ q * k = grind arith in omega (arith, seen, few, more, turn)

-- ---- with a column

module _ (steps : CodedSteps) (code : CodedLog) (counter : CounterState) (vars : ℕ) (axioms : List Clause) (bounded : AreBounded steps code counter vars axioms) where
  pub bounded_column : (now : CounterState) (next : List Clause) → length counter.columns < 256 → now.inputs ≡ counter.inputs → length now.columns ≡ length counter.columns + 1 → length next ≤ 2 * length counter.inputs →
      AreBounded steps code now (vars + length counter.inputs) (axioms ++ next)
  bounded_column now next few same more short =
      let one = one_less (length counter.columns) (length counter.inputs) few in
      let variables = bounded.variables in
      let lean = bounded.lean in
      let inputs : length now.inputs ≡ length counter.inputs = ap length same in
      let left : (256 - length now.columns) * length now.inputs ≡ (256 - (length counter.columns + 1)) * length counter.inputs = ap (λ k. (256 - k) * length now.inputs) more ∙ ap (λ k. (256 - (length counter.columns + 1)) * k) inputs in
      let used : length now.columns * length now.inputs ≡ (length counter.columns + 1) * length counter.inputs = ap (λ k. k * length now.inputs) more ∙ ap (λ k. (length counter.columns + 1) * k) inputs in
      let spread : (length counter.columns + 1) * length counter.inputs ≡ length counter.columns * length counter.inputs + length counter.inputs = grind arith in
      record {
        columns = omega (arith, few, more);
        variables = omega (arith, one, variables, left);
        limit = bounded.limit;
        lean = omega (arith, lean, used, spread, short, length-append axioms next);
      }

  -- ---- with an addition

  -- there is room for its variables, and for those of the counter
  pub width_fits : (addition : Addition) → code.net ≡ steps.net → code.grid.steps ≡ steps.steps → question_variables steps.net (with_addition code.log addition) steps.steps ≤ VAR_LIMIT →
      vars + addition_width code addition + cond (is_doubted addition) 1 0 * length counter.columns ≤ VAR_LIMIT
  width_fits addition same time fits =
      let more = addition_fits steps.net code.log steps.steps addition in
      let width = ap (λ (m : Net). length (added_meanings m code.log code.grid.steps addition)) same ∙ ap (λ k. length (added_meanings steps.net code.log k addition)) time in
      let variables = bounded.variables in
      let columns = bounded.columns in
      let cells = few_cells (is_doubted addition) (length counter.columns) columns in
      omega (arith, more, width, variables, cells, fits)
    where
      few_cells : (b : Bool) (c : ℕ) → c ≤ 256 → cond b 1 0 * c ≤ 256 * cond b 1 0
      few_cells true c few = omega (arith, few)
      few_cells false c few = omega arith

  pub bounded_with : (addition : Addition) (longer : CodedLog) (now : CounterState) (then : ℕ) (more : List Clause) (size : ℕ) → code.net ≡ steps.net → code.grid.steps ≡ steps.steps →
      longer.log ≡ with_addition code.log addition → length now.columns ≡ length counter.columns → length now.inputs ≡ length counter.inputs + cond (is_doubted addition) 1 0 →
      then ≡ vars + addition_width code addition + cond (is_doubted addition) 1 0 * length counter.columns → size ≡ length (added_clauses code.net code.log code.grid.steps addition) →
      length more ≤ size + 2 * (cond (is_doubted addition) 1 0 * length counter.columns) → question_variables steps.net (with_addition code.log addition) steps.steps ≤ VAR_LIMIT → AreBounded steps longer now then (axioms ++ more)
  bounded_with addition longer now then more size same time is columns inputs count sized short fits =
      let names = addition_fits steps.net code.log steps.steps addition in
      let width = ap (λ (m : Net). length (added_meanings m code.log code.grid.steps addition)) same ∙ ap (λ k. length (added_meanings steps.net code.log k addition)) time in
      let clauses = addition_grows steps.net code.log steps.steps addition in
      let written = ap (λ (m : Net). length (added_clauses m code.log code.grid.steps addition)) same ∙ ap (λ k. length (added_clauses steps.net code.log k addition)) time in
      let variables = bounded.variables in
      let within = bounded.columns in
      let lean = bounded.lean in
      let all = ap (λ (l : Log). question_variables steps.net l steps.steps) is in
      let coded = ap (λ (l : Log). coded_clauses steps.net l steps.steps) is in
      let left : (256 - length now.columns) * length now.inputs ≡ (256 - length counter.columns) * (length counter.inputs + cond (is_doubted addition) 1 0) = ap (λ k. (256 - k) * length now.inputs) columns ∙ ap (λ k. (256 - length counter.columns) * k) inputs in
      let used : length now.columns * length now.inputs ≡ length counter.columns * (length counter.inputs + cond (is_doubted addition) 1 0) = ap (λ k. k * length now.inputs) columns ∙ ap (λ k. length counter.columns * k) inputs in
      let room = room_with (is_doubted addition) (length counter.columns) (length counter.inputs) within in
      record {
        columns = omega (arith, within, columns);
        variables = omega (arith, names, width, variables, all, left, room.0, count);
        limit = omega (arith, fits, all);
        lean = omega (arith, clauses, written, sized, lean, coded, used, room.1, short, length-append axioms more);
      }
    where
      room_with : (b : Bool) (c i : ℕ) → c ≤ 256 → (cond b 1 0 * c + (256 - c) * (i + cond b 1 0) ≡ (256 - c) * i + 256 * cond b 1 0) × (c * (i + cond b 1 0) ≡ c * i + cond b 1 0 * c)
      room_with true c i few =
          let left : (256 - c) * (i + 1) ≡ (256 - c) * i + (256 - c) = one_more (256 - c) i in
          let used : c * (i + 1) ≡ c * i + c = one_more c i in
          (omega (arith, left, few), omega (arith, used))
        where
          one_more : (a b : ℕ) → a * (b + 1) ≡ a * b + a
          one_more a b = grind arith
      room_with false c i few = let same : i + 0 ≡ i = omega arith in (rw same (omega arith), rw same (omega arith))
