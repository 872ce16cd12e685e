-- How large a question is, known before any clause is written, and a bound on its variables.
use Rattle.std.specs.Prelude.{ℕ, ◌+◌, ◌*◌, ◌^◌, length, sum_by, count_by}
use Rattle.des_base.specs.ChainCount.{chain_count}
use Rattle.des_base.specs.Lists.{numbers_below}
use Rattle.des_base.specs.declared.TheConstants.{MOST_COLUMNS}
use Rattle.des_net.specs.Network.{Net}
use Rattle.des_net.specs.QuestionSize.{component_sizes, counter_size, step_variables, observable_count}
use Rattle.log_order.specs.Log.{Log, is_doubtful}
use Rattle.replay.specs.Explanation.{is_matching}

-- how many events alarm i may stand for
abbrev pub matching_count : Net → Log → ℕ → ℕ
matching_count net log i = count_by (λ e. is_matching net log e i) (numbers_below (length net.events))

-- for each alarm, the square of the events that it may stand for, and one
abbrev pub alarm_sizes : Net → Log → ℕ
alarm_sizes net log = sum_by (λ i. matching_count net log i ^ 2 + 1) (numbers_below (length log.alarms))

-- how many alarms are doubtful: each is an input of the counter
abbrev pub doubtful_count : Log → ℕ
doubtful_count log = count_by (is_doubtful log) (numbers_below (length log.alarms))

-- how large a question of n steps is: components, alarms and pairs count in each step, and the counter's inputs in each column
abbrev pub question_size : Net → Log → ℕ → ℕ
question_size net log n = n * (component_sizes net + alarm_sizes net log + length log.pairs) + (counter_size net n + MOST_COLUMNS * doubtful_count log)

-- the variables of one alarm in n steps, which may stand for m events
abbrev pub alarm_variables : ℕ → ℕ → ℕ
alarm_variables n m = n * (2 * m + chain_count m + 1) + 1 + m

-- at most this many variables stand for a question: a doubtful alarm has one, and one in each column of the counter
abbrev pub variable_bound : Net → Log → ℕ → ℕ
variable_bound net log n =
    step_variables net n + 1 + observable_count net
    + sum_by (λ i. alarm_variables n (matching_count net log i)) (numbers_below (length log.alarms))
    + (counter_size net n + (MOST_COLUMNS + 1) * doubtful_count log)
