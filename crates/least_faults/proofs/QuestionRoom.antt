-- How many variables a question of bounded size takes.
use Rattle.std.proofs.Common.{◌≡◌, ℕ, zero, suc, ◌+◌, ◌-◌, ◌*◌, ◌^◌, ◌≤◌, Bool, true, false, cond, List, [], ◌∷◌, length, subst, arith, sum_by}
use Rattle.std.specs.Prelude.{nat_le, is_some}
use Rattle.std.proofs.Math.Nat.{mul-le-mul_left}
use Rattle.std.proofs.lemmas.List.FromFn.{length-range_with_len}
use Rattle.std.proofs.lemmas.List.Sums.{count_by-le-length, sum_by-cons}
use Rattle.des_base.proofs.NumbersBelow.{sum_numbers_more}
use Rattle.des_base.proofs.Powers.{square}
use Rattle.des_base.specs.ChainCount.{chain_count as at_most_one_count}
use Rattle.des_base.specs.Lists.{numbers_below}
use Rattle.des_base.specs.declared.TheConstants.{VAR_LIMIT}
use Rattle.des_net.specs.Building.{IsDraft}
use Rattle.des_net.specs.Network.{Net, label_of}
use Rattle.des_net.specs.QuestionSize.{component_sizes, counter_size, observable_count}
use Rattle.least_faults.specs.LogVariables.{own_variables, variables_of_first, variables_of_alarms, log_variables}
use Rattle.least_faults.specs.declared.TheConstants.{MOST_SIZE}
use Rattle.log_encode.proofs.TakenLemmas.{false_is_small}
use Rattle.log_order.specs.Log.{Log, is_doubtful}
use Rattle.replay.specs.Explanation.{is_matching}
use Rattle.replay.specs.QuestionSize.{alarm_variables, alarm_sizes, matching_count, doubtful_count, question_size}
use Rattle.step_encode.proofs.Codes.{variables_are_few}
use Rattle.step_encode.specs.Coded.{variable_count}

-- ---- one alarm

few_of_one : (m : ℕ) → at_most_one_count m ≤ m
few_of_one m = by (nat_le m 4)
  where
    by : (b : Bool) → cond b 0 (m - 1) ≤ m
    by true = omega arith
    by false = omega arith

three_within : (m : ℕ) → 3 * m + 1 ≤ 2 * (m * m + 1)
three_within zero = omega arith
three_within (suc zero) = omega arith
three_within (suc (suc m)) = grind arith

-- an alarm that may stand for at most 4,000 events
alarm_bound : (n m : ℕ) → m ≤ 4000 → alarm_variables n m ≤ 2 * (n * (m ^ 2 + 1)) + 4001
alarm_bound n m few =
    let inner : 2 * m + at_most_one_count m + 1 ≤ 2 * (m ^ 2 + 1) = omega (arith, few_of_one m, three_within m, square m) in
    let outer = mul-le-mul_left n inner in
    let moved = turn n (m ^ 2 + 1) in
    omega (arith, outer, moved, few)
  where
    turn : (a b : ℕ) → a * (2 * b) ≡ 2 * (a * b)
    turn a b = grind arith

-- ---- all alarms

sum_bound : (n : ℕ) (f g : ℕ → ℕ) → ((i : ℕ) → f i ≤ 2 * (n * g i) + 4002) → (xs : List ℕ) → sum_by f xs ≤ 2 * (n * sum_by g xs) + 4002 * length xs
sum_bound n f g each [] = omega arith
sum_bound n f g each (x ∷ xs) =
    let rest = sum_bound n f g each xs in
    let spread = spread_out n (g x) (sum_by g xs) in
    rw (sum_by-cons f x xs, sum_by-cons g x xs) (sum_step (f x) (sum_by f xs) (n * g x) (n * sum_by g xs) (n * (g x + sum_by g xs)) (length xs) (each x) rest spread)
  where
    sum_step : (a b c d e count : ℕ) → a ≤ 2 * c + 4002 → b ≤ 2 * d + 4002 * count → e ≡ c + d → a + b ≤ 2 * e + 4002 * suc count
    sum_step a b c d e count first later whole = omega arith

    spread_out : (k a b : ℕ) → k * (a + b) ≡ k * a + k * b
    spread_out k a b = grind arith

few_matching : (net : Net) (log : Log) (i : ℕ) → IsDraft net → matching_count net log i ≤ 4000
few_matching net log i draft =
    let among = count_by-le-length (λ e. is_matching net log e i) (numbers_below (length net.events)) in
    let events = length-range_with_len 0 (length net.events) in
    let few = draft.few_events in
    omega (arith, among, events, few)

alarms_bound : (net : Net) (log : Log) (n : ℕ) → IsDraft net → variables_of_alarms net log n ≤ 2 * (n * alarm_sizes net log) + 4002 * length log.alarms
alarms_bound net log n draft =
    let each : (i : ℕ) → own_variables net log n i ≤ 2 * (n * (matching_count net log i ^ 2 + 1)) + 4002 = λ i. omega (arith, alarm_bound n (matching_count net log i) (few_matching net log i draft), false_is_small (is_doubtful log i)) in
    let bound = sum_bound n (own_variables net log n) (λ i. matching_count net log i ^ 2 + 1) each (numbers_below (length log.alarms)) in
    let count = length-range_with_len 0 (length log.alarms) in
    omega (arith, bound, count)

-- ---- the question

few_observable : (net : Net) → IsDraft net → observable_count net ≤ 4000
few_observable net draft =
    let among = count_by-le-length (λ e. is_some (label_of net e)) (numbers_below (length net.events)) in
    let events = length-range_with_len 0 (length net.events) in
    let few = draft.few_events in
    omega (arith, among, events, few)

-- the parts of a size
alarms_within : (net : Net) (log : Log) (n size : ℕ) → question_size net log n ≤ size → n * alarm_sizes net log + (counter_size net n + 256 * doubtful_count log) ≤ size
alarms_within net log n size within =
    let spread = spread_out n (component_sizes net) (alarm_sizes net log) (length log.pairs) in
    omega (arith, spread, within)
  where
    spread_out : (k a b c : ℕ) → k * b ≤ k * (a + b + c)
    spread_out k a b c = grind arith

-- there is room beside it for a counter of costs
pub question_room : (net : Net) (log : Log) (n : ℕ) → IsDraft net → length log.alarms ≤ 2000 → n ≤ 1000 → question_size net log n ≤ MOST_SIZE →
    variable_count net n + log_variables net log n + (counter_size net n + 256 * doubtful_count log) ≤ 1000000000
question_room net log n draft alarms time size =
    let steps = variables_are_few net n draft time in
    let observable = few_observable net draft in
    let logged = alarms_bound net log n draft in
    let within = alarms_within net log n MOST_SIZE size in
    omega (arith, steps, observable, logged, within, alarms)

pub question_fits : (net : Net) (log : Log) (n : ℕ) → IsDraft net → length log.alarms ≤ 2000 → n ≤ 1000 → question_size net log n ≤ MOST_SIZE →
    variable_count net n + log_variables net log n + (counter_size net n + 256 * doubtful_count log) ≤ VAR_LIMIT
question_fits net log n draft alarms time size = let room = question_room net log n draft alarms time size in omega (arith, room)

-- ---- alarm by alarm

pub first_more : (net : Net) (log : Log) (n k : ℕ) → variables_of_first net log n (k + 1) ≡ variables_of_first net log n k + own_variables net log n k
first_more net log n k = sum_numbers_more (own_variables net log n) k

first_later : (net : Net) (log : Log) (n k more : ℕ) → variables_of_first net log n k ≤ variables_of_first net log n (k + more)
first_later net log n k zero = let same : k ≡ k + 0 = omega arith in subst (λ m. variables_of_first net log n k ≤ variables_of_first net log n m) same (omega arith)
first_later net log n k (suc more) =
    let next : k + more + 1 ≡ k + suc more = omega arith in
    subst (λ m. variables_of_first net log n k ≤ variables_of_first net log n m) next (omega (arith, first_later net log n k more, first_more net log n (k + more)))

pub first_within : (net : Net) (log : Log) (n k : ℕ) → k ≤ length log.alarms → variables_of_first net log n k ≤ variables_of_alarms net log n
first_within net log n k within =
    let whole : k + (length log.alarms - k) ≡ length log.alarms = omega arith in
    subst (λ m. variables_of_first net log n k ≤ variables_of_first net log n m) whole (first_later net log n k (length log.alarms - k))
