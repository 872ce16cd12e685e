-- How many variables a question takes.
use Rattle.std.proofs.Common.{◌≡◌, ◌∙◌, ℕ, suc, ◌+◌, ◌*◌, ◌≤◌, List, [], ◌∷◌, ◌++◌, length, refl, sym, ap, subst, arith, map, flat_map, length-append, append-nil, append_assoc}
use Rattle.std.proofs.lemmas.List.FromFn.{length-range_with_len, length-map-range_with_len}
use Rattle.std.proofs.lemmas.List.Sums.{length-filter}
use Rattle.std.proofs.lemmas.List.{length-map}
use Rattle.std.proofs.Math.Nat.{mul-le-mul_right}
use Rattle.card_counter.proofs.CodeLemmas.{read_length}
use Rattle.des_base.specs.ChainCount.{chain_count}
use Rattle.des_base.specs.Lists.{numbers_below}
use Rattle.question_clauses.specs.LogClauses.{doubtful_alarms}
use Rattle.card_counter.specs.CounterState.{CounterState, counter_meanings, variable}
use Rattle.des_net.specs.Network.{Net, is_fault}
use Rattle.des_net.specs.QuestionSize.{step_variables, counter_size, fault_event_count}
use Rattle.question_clauses.proofs.NewNames.{names_leave_room, first_meanings_are_all}
use Rattle.question_clauses.specs.Additions.{alarm_added}
use Rattle.question_clauses.specs.LogNames.{first_meanings, added_meanings}
use Rattle.log_encode.specs.CodedLog.{CodedLog, meanings_from, log_meanings, false_literals}
use Rattle.log_order.specs.Log.{Log, Alarm, no_log, is_doubtful, a_log}
use Rattle.prop_core.specs.declared.grid.Grid.{Grid}
use Rattle.prop_core.specs.declared.lit.Lit.{Lit}
use Rattle.prop_core.specs.VariableNames.{Meaning, reaches, yes, dropped}
use Rattle.replay.specs.QuestionSize.{doubtful_count, variable_bound}
use Rattle.question_clauses.specs.LaidOut.{laid_out, step_meanings}
use Rattle.question_clauses.specs.StepClauses.{event_groups}
use Rattle.run_decode.specs.WholeNaming.{AreInputs, TogetherAreFew}
use Rattle.step_encode.proofs.Codes.{chains_wide, names_end, variables_are_counted, blocks_wide}
use Rattle.step_encode.proofs.FewChains.{chains_few}
use Rattle.step_encode.specs.Coded.{all_chains, CodedSteps, code_meanings, code_grid}
use Rattle.step_encode.specs.FaultInputs.{fault_events, event_literals, fault_literals}

row_length : (first : ℕ) (names : List Meaning) → length (laid_out first names) ≡ length names
row_length first [] = refl
row_length first (meaning ∷ names) = ap suc (row_length (first + 1) names)

-- lists of one length each
flat_length : {X : Type 0} (f : ℕ → List X) (m : ℕ) → ((x : ℕ) → length (f x) ≡ m) → (xs : List ℕ) → length (flat_map f xs) ≡ length xs * m
flat_length f m each [] = sym (zero_times m)
  where
    zero_times : (k : ℕ) → 0 * k ≡ 0
    zero_times k = omega arith
flat_length f m each (x ∷ xs) =
    let rest = flat_length f m each xs in
    let here = each x in
    let whole = length-append (f x) (flat_map f xs) in
    let more = suc_times (length xs) m in
    omega (arith, rest, here, whole, more)
  where
    suc_times : (a k : ℕ) → suc a * k ≡ k + a * k
    suc_times a k = grind arith

-- ---- the steps

steps_few : (net : Net) (n : ℕ) → length (step_meanings net n) ≤ step_variables net n
steps_few net n =
    let states = blocks_wide net n (length net.components) in
    let ends = names_end net n in
    let few : all_chains net ≤ chain_count (length net.events) = chains_few net in
    let events = times_more (length net.events) n (all_chains net) (chain_count (length net.events)) few in
    omega (arith, states, ends, chains_wide net n (length (event_groups net)), events, variables_are_counted net n)
  where
    times_more : (e n' c x : ℕ) → c ≤ x → n' * c + e * n' ≤ n' * (e + x)
    times_more e n' c x few = let more : c * n' ≤ x * n' = mul-le-mul_right n' few in grind (arith, more)

-- ---- the log

of_alarms : List Alarm → Log
of_alarms alarms = a_log alarms []

alarms_few : (net : Net) (n : ℕ) (before alarms : List Alarm) (starts : List ℕ) → length starts ≡ length alarms →
    length (meanings_from net n (of_alarms before) alarms starts) + variable_bound net (of_alarms before) n + 256 * doubtful_count (of_alarms (before ++ alarms)) ≤ variable_bound net (of_alarms (before ++ alarms)) n + 256 * doubtful_count (of_alarms before)
unfolding of_alarms
alarms_few net n before [] starts same =
    subst (λ xs. 0 + variable_bound net (of_alarms before) n + 256 * doubtful_count (of_alarms xs) ≤ variable_bound net (of_alarms xs) n + 256 * doubtful_count (of_alarms before)) (sym (append-nil before)) (omega arith)
alarms_few net n before (alarm ∷ alarms) [] same = absurd (omega (arith, same))
alarms_few net n before (alarm ∷ alarms) (start ∷ starts) same =
    let rest = alarms_few net n (before ++ alarm ∷ []) alarms starts (omega (arith, same)) in
    let moved = subst (λ xs. length (meanings_from net n (of_alarms (before ++ alarm ∷ [])) alarms starts) + variable_bound net (of_alarms (before ++ alarm ∷ [])) n + 256 * doubtful_count (of_alarms xs) ≤ variable_bound net (of_alarms xs) n + 256 * doubtful_count (of_alarms (before ++ alarm ∷ []))) (append_assoc before (alarm ∷ []) alarms) rest in
    let few = names_leave_room net (of_alarms before) n alarm in
    let row = row_length start (added_meanings net (of_alarms before) n (alarm_added alarm)) in
    let whole = length-append (laid_out start (added_meanings net (of_alarms before) n (alarm_added alarm))) (meanings_from net n (of_alarms (before ++ alarm ∷ [])) alarms starts) in
    omega (arith, moved, few, row, whole)

log_few : (code : CodedLog) (n : ℕ) → code.grid.steps ≡ n → length code.starts ≡ length code.log.alarms →
    length (log_meanings code) + step_variables code.net n + (counter_size code.net n + 256 * doubtful_count code.log) ≤ variable_bound code.net code.log n
unfolding of_alarms
log_few code n is same =
    subst (λ m. length (log_meanings code) + step_variables code.net m + (counter_size code.net m + 256 * doubtful_count code.log) ≤ variable_bound code.net code.log m) is
    (let few = alarms_few code.net code.grid.steps [] code.log.alarms code.starts same in
    let first = (first_meanings_are_all code.net code.grid.steps).few in
    let row = row_length code.asked (first_meanings code.net) in
    let whole = length-append (laid_out code.asked (first_meanings code.net)) (meanings_from code.net code.grid.steps no_log code.log.alarms code.starts) in
    omega (arith, few, first, row, whole))

-- ---- the counter

inputs_count : (net : Net) (grid : Grid) → length (fault_literals net grid) ≡ fault_event_count net * grid.steps
inputs_count net grid =
    flat_length (event_literals grid) grid.steps (λ e. length-map-range_with_len (λ t. _) 0 grid.steps) (fault_events net)
    ∙ ap (λ m. m * grid.steps) (length-filter (is_fault net) (numbers_below (length net.events)))

-- the faults of the steps, and the doubtful alarms
pub inputs_are_counted : (steps : CodedSteps) (code : CodedLog) (inputs : List Lit) → AreInputs steps code inputs → length inputs ≡ fault_event_count steps.net * steps.steps + doubtful_count code.log
inputs_are_counted steps code inputs own =
    let false_count : length own.false_lits ≡ doubtful_count code.log = sym (read_length (log_meanings code) own.false_lits (false_literals code.log) own.read)
    ∙ length-map (doubtful_alarms code.log) (λ i. yes (dropped i)) ∙ length-filter (is_doubtful code.log) (numbers_below (length code.log.alarms)) in
    ap length own.whole ∙ length-append (fault_literals steps.net (code_grid steps)) own.false_lits ∙ ap (λ m. m + length own.false_lits) (inputs_count steps.net (code_grid steps))
    ∙ ap (λ m. fault_event_count steps.net * steps.steps + m) false_count

counter_count : (counter : CounterState) → length (counter_meanings counter) ≡ length counter.columns * length counter.inputs
counter_count counter =
    flat_length (λ j. map (λ i. (variable counter i j, reaches (suc i) (suc j))) (numbers_below (length counter.inputs))) (length counter.inputs)
    (λ j. length-map-range_with_len (λ i. (variable counter i j, reaches (suc i) (suc j))) 0 (length counter.inputs)) (numbers_below (length counter.columns))
    ∙ ap (λ m. m * length counter.inputs) (length-range_with_len 0 (length counter.columns))

columns_few : (k f n d : ℕ) → k ≤ 256 → k * (f * n + d) ≤ 256 * n * f + 256 * d
columns_few k f n d few = let most = mul-le-mul_right (f * n + d) few in let spread : 256 * (f * n + d) ≡ 256 * n * f + 256 * d = grind arith in omega (arith, most, spread)

-- ---- all

pub together_are_few : TogetherAreFew
together_are_few steps code counter log together same few =
    let names = steps_few steps.net steps.steps in
    let row = row_length steps.first (step_meanings steps.net steps.steps) in
    let logged = subst (λ net. length (log_meanings code) + step_variables net steps.steps + (counter_size net steps.steps + 256 * doubtful_count code.log) ≤ variable_bound net code.log steps.steps) together.beside.net
    (log_few code steps.steps (ap (λ (grid : Grid). grid.steps) together.beside.grid) together.beside.logged.each) in
    let bound = ap (λ (l : Log). variable_bound steps.net l steps.steps) same in
    let counted = counter_count counter ∙ ap (λ m. length counter.columns * m) (inputs_are_counted steps code counter.inputs together.inputs) in
    let columns = columns_few (length counter.columns) (fault_event_count steps.net) steps.steps (doubtful_count code.log) few in
    let two = length-append (code_meanings steps) (log_meanings code ++ counter_meanings counter) in
    let three = length-append (log_meanings code) (counter_meanings counter) in
    omega (arith, names, row, logged, bound, counted, columns, two, three)
