-- How many variables and axioms the parts of a question take at most, with all columns that its counter may have.
use Rattle.std.specs.Prelude.{ℕ, ◌+◌, ◌-◌, ◌*◌, ◌≤◌, List, length}
use Rattle.card_counter.specs.CounterState.{CounterState}
use Rattle.des_base.specs.declared.TheConstants.{MOST_COLUMNS, VAR_LIMIT}
use Rattle.des_net.specs.Network.{Net}
use Rattle.des_net.specs.QuestionSize.{component_sizes, counter_size}
use Rattle.least_faults.specs.LogVariables.{log_variables}
use Rattle.log_encode.specs.CodedLog.{CodedLog}
use Rattle.log_order.specs.Log.{Log}
use Rattle.prop_core.specs.Clauses.{Clause}
use Rattle.replay.specs.QuestionSize.{alarm_sizes, doubtful_count}
use Rattle.step_encode.specs.Coded.{CodedSteps, variable_count}

-- how many variables the steps, the log, and a counter with all its columns take
abbrev pub question_variables : Net → Log → ℕ → ℕ
question_variables net log n = variable_count net n + log_variables net log n + (counter_size net n + MOST_COLUMNS * doubtful_count log)

-- how many clauses the steps and the log have at most
abbrev pub coded_clauses : Net → Log → ℕ → ℕ
coded_clauses net log n = 12 * (n * (component_sizes net + alarm_sizes net log + length log.pairs) + (component_sizes net + length log.alarms + length log.pairs))

-- With all columns that the counter may still get, the variables are no more than those of the question, which are within the limit. The axioms are at most those of the steps and the log, and two for each input in each column.
pub record AreBounded (steps : CodedSteps) (code : CodedLog) (counter : CounterState) (vars : ℕ) (axioms : List Clause) : Type 0 where
  pub columns : length counter.columns ≤ MOST_COLUMNS
  pub variables : vars + (MOST_COLUMNS - length counter.columns) * length counter.inputs ≤ question_variables steps.net code.log steps.steps
  pub limit : question_variables steps.net code.log steps.steps ≤ VAR_LIMIT
  pub lean : length axioms ≤ coded_clauses steps.net code.log steps.steps + 2 * (length counter.columns * length counter.inputs)
