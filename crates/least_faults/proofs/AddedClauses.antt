-- How many clauses a log has at most, and how many an addition brings, without what a counter of faults takes.
use Rattle.std.proofs.Common.{◌≡◌, ◌∙◌, ℕ, suc, ◌+◌, ◌*◌, ◌^◌, ◌≤◌, cond, List, [], ◌∷◌, ◌++◌, fold, length, map, ap, arith, sum_by, length-append}
use Rattle.std.proofs.lemmas.List.{length-map}
use Rattle.std.proofs.lemmas.List.FromFn.{length-range_with_len}
use Rattle.des_base.specs.Lists.{numbers_below}
use Rattle.des_net.specs.Network.{Net}
use Rattle.des_net.specs.QuestionSize.{component_sizes, counter_size, observable_count}
use Rattle.least_faults.specs.Adding.{input_count, is_doubted}
use Rattle.least_faults.specs.Bounds.{coded_clauses}
use Rattle.question_clauses.proofs.Drafts.{added_few, doubtful_more, first_clauses_are_few, longer, same_count, sum_more}
use Rattle.question_clauses.proofs.Stay.{with_alarm}
use Rattle.question_clauses.specs.Additions.{Addition, alarm_added, pair_added, with_addition}
use Rattle.question_clauses.specs.Drafts.{added_clauses, added_list, first_clauses, first_list}
use Rattle.question_clauses.specs.LogClauses.{log_clause, before_if_asked}
use Rattle.log_encode.specs.BuiltLog.{BuiltLog, added_written, additions_of, built_empty, built_log, built_with}
use Rattle.log_encode.specs.CodedLog.{CodedLog, code_after, empty_code, read_meanings}
use Rattle.log_order.specs.Log.{Log, Alarm, no_log}
use Rattle.prop_core.specs.Clauses.{Clause}
use Rattle.prop_core.specs.Listings.{literal_by, written_by, Listing}
use Rattle.prop_core.specs.VariableNames.{Meaning}
use Rattle.prop_core.specs.declared.grid.Grid.{Grid}
use Rattle.replay.specs.QuestionSize.{alarm_sizes, doubtful_count, matching_count, question_size}

-- ---- an alarm

module _ (net : Net) (log : Log) (n : ℕ) (new : Alarm) where
  sizes_more : alarm_sizes net (with_alarm log new) ≡ alarm_sizes net log + (matching_count net (with_alarm log new) (length log.alarms) ^ 2 + 1)
  sizes_more =
      ap (λ k. sum_by (λ i. matching_count net (with_alarm log new) i ^ 2 + 1) (numbers_below k)) (longer net log n new)
      ∙ sum_more (λ i. matching_count net (with_alarm log new) i ^ 2 + 1) (λ i. matching_count net log i ^ 2 + 1) (length log.alarms) (λ i h. ap (λ k. k ^ 2 + 1) (same_count net log n new i h))

  alarm_grows : length (added_clauses net log n (alarm_added new)) + coded_clauses net log n ≤ coded_clauses net (with_alarm log new) n
  alarm_grows = rw (sizes_more, longer net log n new)
      (grows n (component_sizes net) (alarm_sizes net log) (length log.pairs) (length log.alarms) (matching_count net (with_alarm log new) (length log.alarms) ^ 2 + 1) (length (added_clauses net log n (alarm_added new))) (added_few net log n new))
    where
      grows : (n q s r a d k : ℕ) → k ≤ 12 * (n * d) + 12 → k + 12 * (n * (q + s + r) + (q + a + r)) ≤ 12 * (n * (q + (s + d) + r) + (q + suc a + r))
      grows n q s r a d k few = omega (arith, few)

  -- with 256 inputs of the counter for a doubtful alarm, the size of the question grows by more
  alarm_size : length (added_clauses net log n (alarm_added new)) + 12 * question_size net log n + 12 * (256 * cond new.doubtful 1 0) ≤ 12 * question_size net (with_alarm log new) n + 12
  alarm_size = rw (sizes_more, doubtful_more net log n new)
      (grows n (component_sizes net) (alarm_sizes net log) (length log.pairs) (counter_size net n) (doubtful_count log) (cond new.doubtful 1 0) (matching_count net (with_alarm log new) (length log.alarms) ^ 2 + 1) (length (added_clauses net log n (alarm_added new))) (added_few net log n new))
    where
      grows : (n q s r f g o d k : ℕ) → k ≤ 12 * (n * d) + 12 → k + 12 * (n * (q + s + r) + (f + 256 * g)) + 12 * (256 * o) ≤ 12 * (n * (q + (s + d) + r) + (f + 256 * (g + o))) + 12
      grows n q s r f g o d k few = omega (arith, few)

-- ---- an addition

-- An addition has no more clauses than the bound on the clauses of a log grows by.
pub addition_grows : (net : Net) (log : Log) (n : ℕ) (addition : Addition) → length (added_clauses net log n addition) + coded_clauses net log n ≤ coded_clauses net (with_addition log addition) n
addition_grows net log n (alarm_added new) = alarm_grows net log n new
addition_grows net log n (pair_added i j) =
    let size = length-map (numbers_below (suc n)) (λ t. before_if_asked i j t) in
    let range = length-range_with_len 0 (suc n) in
    let more : length (log.pairs ++ (i, j) ∷ []) ≡ length log.pairs + 1 = omega (arith, length-append log.pairs ((i, j) ∷ [])) in
    rw more (grows n (component_sizes net) (alarm_sizes net log) (length log.pairs) (length log.alarms) (length (map (λ t. before_if_asked i j t) (numbers_below (suc n)))) (omega (arith, size, range)))
  where
    grows : (n q s r a k : ℕ) → k ≤ suc n → k + 12 * (n * (q + s + r) + (q + a + r)) ≤ 12 * (n * (q + s + (r + 1)) + (q + a + (r + 1)))
    grows n q s r a k few = omega (arith, few)

-- It has no more than 12 for each unit by which the size of the question grows, and 12, also without what the counter takes.
pub size_grows : (net : Net) (log : Log) (n : ℕ) (addition : Addition) →
    length (added_clauses net log n addition) + 12 * question_size net log n + 12 * (256 * input_count (is_doubted addition)) ≤ 12 * question_size net (with_addition log addition) n + 12
size_grows net log n (alarm_added new) = alarm_size net log n new
size_grows net log n (pair_added i j) =
    let size = length-map (numbers_below (suc n)) (λ t. before_if_asked i j t) in
    let range = length-range_with_len 0 (suc n) in
    let more : length (log.pairs ++ (i, j) ∷ []) ≡ length log.pairs + 1 = omega (arith, length-append log.pairs ((i, j) ∷ [])) in
    rw more (grows n (component_sizes net) (alarm_sizes net log) (length log.pairs) (counter_size net n + 256 * doubtful_count log) (length (map (λ t. before_if_asked i j t) (numbers_below (suc n)))) (omega (arith, size, range)))
  where
    grows : (n q s r f k : ℕ) → k ≤ suc n → k + 12 * (n * (q + s + r) + f) + 12 * (256 * 0) ≤ 12 * (n * (q + s + (r + 1)) + f) + 12
    grows n q s r f k few = omega (arith, few)

-- ---- a log

written_size : (names : List (ℕ × Meaning)) (list : Listing) → length (written_by names list) ≡ length list
written_size names list = length-map list (λ named. map (literal_by names) named)

added_size : (code : CodedLog) (addition : Addition) → length (added_written code addition) ≡ length (added_clauses code.net code.log code.grid.steps addition)
added_size code addition =
    written_size (read_meanings (code_after code addition code.vars)) (added_list code.net code.log code.grid.steps addition)
    ∙ length-map (added_clauses code.net code.log code.grid.steps addition) (log_clause code.net (with_addition code.log addition) code.grid.steps)

-- addition by addition
pub all_grow : (additions : List Addition) (built : BuiltLog) →
    length (fold built_with built additions).clauses + coded_clauses built.code.net built.code.log built.code.grid.steps ≤ length built.clauses + coded_clauses built.code.net (fold built_with built additions).code.log built.code.grid.steps
all_grow [] built = omega arith
all_grow (addition ∷ additions) built =
    omega (
      arith,
      all_grow additions (built_with built addition),
      addition_grows built.code.net built.code.log built.code.grid.steps addition,
      added_size built.code addition,
      length-append built.clauses (added_written built.code addition),
    )

-- a log that was built has no more clauses than it may, with those of its network
pub log_lean : (net : Net) (grid : Grid) (first : ℕ) (log : Log) (code : CodedLog) (clauses : List Clause) → record { code = code; clauses = clauses } ≡ built_log net grid first log →
    length clauses + coded_clauses net no_log grid.steps ≤ observable_count net * grid.steps + coded_clauses net code.log grid.steps
log_lean net grid first log code clauses is =
    let all = all_grow (additions_of log) (built_empty net grid first) in
    let begun = written_size (read_meanings (empty_code net grid first)) (first_list net grid.steps) ∙ length-map (first_clauses net grid.steps) (log_clause net no_log grid.steps) ∙ first_clauses_are_few net grid.steps in
    let whole = ap (λ (built : BuiltLog). length built.clauses) is in
    let same = ap (λ (built : BuiltLog). coded_clauses net built.code.log grid.steps) is in
    omega (arith, all, begun, whole, same)
