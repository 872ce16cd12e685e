-- A question as it is built: network, log, n and the number of columns determine its parts, and its axioms as a list, whatever test and rank are stored.
use Rattle.std.specs.Prelude.{◌≡◌, ℕ, zero, suc, ◌+◌, if◌then◌else◌, List, [], ◌++◌, map, length}
use Rattle.card_counter.specs.CounterState.{CounterState, without_columns, with_column, next_clauses}
use Rattle.des_net.specs.Network.{Net}
use Rattle.question_clauses.specs.Additions.{Addition, alarm_added, pair_added}
use Rattle.question_clauses.specs.Drafts.{added_list}
use Rattle.log_encode.specs.BuiltLog.{BuiltLog, built_log}
use Rattle.log_encode.specs.CodedLog.{CodedLog, log_meanings, read_meanings, code_after, addition_width, false_literals, IsCodedLog}
use Rattle.log_order.specs.Log.{Log}
use Rattle.prop_core.specs.Clauses.{Clause}
use Rattle.prop_core.specs.Listings.{literal_by, written_by}
use Rattle.prop_core.specs.declared.lit.Lit.{Lit}
use Rattle.question_clauses.specs.StepCodes.{StepsBelow}
use Rattle.run_decode.specs.WholeNaming.{AreInputs, counter_after, counted_after}
use Rattle.step_encode.specs.Coded.{CodedSteps, code_meanings, code_grid, variable_count, AppendsSteps}
use Rattle.step_encode.specs.FaultInputs.{fault_literals}

-- how steps, log and counter are coded, how many variables were made, and the axioms
pub record BuiltQuestion : Type 0 where
  pub steps : CodedSteps
  pub code : CodedLog
  pub counter : CounterState
  pub vars : ℕ
  pub axioms : List Clause

-- the code of n steps, on the first variables
abbrev pub steps_built : Net → ℕ → CodedSteps
steps_built net n = record { net = net; steps = n; first = 0 }

-- the code of the log with its clauses, on the variables after those of the steps
abbrev pub log_built : Net → Log → ℕ → BuiltLog
log_built net log n = built_log net (code_grid (steps_built net n)) (variable_count net n) log

-- The counter counts the faults of the steps, and then that doubtful alarms are false.
abbrev pub inputs_built : CodedSteps → CodedLog → List Lit
inputs_built steps code = fault_literals steps.net (code_grid steps) ++ map (literal_by (log_meanings code)) (false_literals code.log)

-- the question without columns: its axioms are the clauses of the steps, and then those of the log
abbrev pub alone_built : CodedSteps → BuiltLog → BuiltQuestion
alone_built steps log = record {
  steps = steps;
  code = log.code;
  counter = without_columns (inputs_built steps log.code);
  vars = log.code.vars;
  axioms = written_by (code_meanings steps) (StepsBelow steps.net steps.steps) ++ log.clauses;
}

-- a further column, on the next variables
abbrev pub column_built : BuiltQuestion → BuiltQuestion
column_built question = record question {
  counter = with_column question.counter question.vars;
  vars = question.vars + length question.counter.inputs;
  axioms = question.axioms ++ next_clauses question.counter question.vars;
}

-- the question with this many columns of its counter, each on the next variables and behind the axioms before it
abbrev pub question_built : Net → Log → ℕ → ℕ → BuiltQuestion
question_built net log n zero = alone_built (steps_built net n) (log_built net log n)
question_built net log n (suc columns) = column_built (question_built net log n columns)

-- the axioms of a question whose counter has this many columns
abbrev pub question_axioms : Net → Log → ℕ → ℕ → List Clause
question_axioms net log n columns = (question_built net log n columns).axioms

-- ---- with an addition to its log

-- how many variables the counter gets with it: for a doubtful alarm one in each column
abbrev pub cells_after : CounterState → Addition → ℕ
cells_after counter (alarm_added new) = if new.doubtful then length counter.columns else 0
cells_after counter (pair_added i j) = 0

-- The clauses of an addition on the next variables: those that the log gets, in the order of their listing, and then what the counter says of its new input.
abbrev pub added_axioms : BuiltQuestion → Addition → List Clause
added_axioms question addition =
    written_by (read_meanings (code_after question.code addition question.vars)) (added_list question.code.net question.code.log question.code.grid.steps addition)
    ++ counted_after question.code question.counter addition question.vars

-- the question with an addition to its log, on the next variables and behind the axioms before it
abbrev pub added_built : BuiltQuestion → Addition → BuiltQuestion
added_built question addition = record question {
  code = code_after question.code addition question.vars;
  counter = counter_after question.code question.counter addition question.vars;
  vars = question.vars + addition_width question.code addition + cells_after question.counter addition;
  axioms = question.axioms ++ added_axioms question addition;
}

-- the same question, with a counter that has no room for further inputs
abbrev pub roomless : BuiltQuestion → BuiltQuestion
roomless question = record question { counter = record { inputs = question.counter.inputs; columns = question.counter.columns; spare_inputs = 0 } }

-- ---- laws

-- This holds once steps and log are coded, and a counter over their inputs has no columns:
abbrev pub QuestionBegins : Type 0
QuestionBegins = (net : Net) (log : Log) (n : ℕ) (code : CodedLog) (stepped written : List Clause) (inputs : List Lit) →
    AppendsSteps net n (code_meanings (steps_built net n)) [] stepped → IsCodedLog code → record { code = code; clauses = written } ≡ log_built net log n → AreInputs (steps_built net n) code inputs →
    record { steps = steps_built net n; code = code; counter = without_columns inputs; vars = code.vars; axioms = stepped ++ written } ≡ question_built net log n 0

-- and its columns are as many as were built.
abbrev pub ColumnsAreCounted : Type 0
ColumnsAreCounted = (net : Net) (log : Log) (n columns : ℕ) → length (question_built net log n columns).counter.columns ≡ columns
