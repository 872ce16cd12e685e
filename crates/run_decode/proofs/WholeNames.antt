-- Steps, log and counter by one naming.
use Rattle.std.proofs.Common.{◌≡◌, ◌≢◌, ◌∙◌, ℕ, suc, ◌+◌, ◌*◌, ◌<◌, ◌≤◌, ◌⊎◌, inl, inr, Bool, true, false, ◌-◌, if◌then◌else◌, slice_get, option_map, length-append, append_assoc, List, [], ◌∷◌, ◌++◌, length, None, Some, refl, sym, ap, subst, arith, Contains, append-nil}
use Rattle.card_counter.proofs.CodeLemmas.{counter_is_code}
use Rattle.card_counter.proofs.NameLemmas.{counter_meanings_stand}
use Rattle.card_counter.proofs.States.{place_cases, variable_before, variable_last, grown_is_counter, none_is_counter, made_later}
use Rattle.card_counter.proofs.Inputs.{inputs_grow, place_cases as places_with_input}
use Rattle.card_counter.specs.CounterClauses.{IsNamedCount}
use Rattle.card_counter.specs.CounterState.{CounterState, IsCounter, IsMade, IsPlace, variable, counter_meanings, counter_clauses, bound_literal, without_columns, with_column, with_input, HasInput}
use Rattle.question_clauses.proofs.Lists.{all_at}
use Rattle.question_clauses.proofs.Numbered.{laid_out_from}
use Rattle.question_clauses.specs.Additions.{Addition, alarm_added, pair_added}
use Rattle.question_clauses.specs.Drafts.{taken_events}
use Rattle.question_clauses.specs.LogClauses.{guard_literals}
use Rattle.question_clauses.specs.LogCodes.{IsNamedLog, AreAmong}
use Rattle.question_clauses.specs.LogNames.{IsLogMeaning, added_meanings, alarm_meanings, match_chains, false_meanings}
use Rattle.log_encode.proofs.CodeLemmas.{names_with_alarm, asked_below, grown_is_coded, false_more}
use Rattle.log_encode.specs.CodedLog.{CodedLog, log_meanings, read_meanings, false_literals, addition_width, code_after, IsCodedLog}
use Rattle.des_base.specs.declared.TheConstants.{VAR_LIMIT}
use Rattle.question_clauses.proofs.LogCodes.{has_name, named_entry}
use Rattle.log_order.specs.Log.{Alarm}
use Rattle.prop_core.proofs.FamilyLemmas.{read_append}
use Rattle.run_decode.specs.DecodedRuns.{AreFaultLiterals}
use Rattle.run_decode.specs.RunNaming.{AreFalseLiterals, IsCodedBeside}
use Rattle.prop_core.specs.Clauses.{Clause}
use Rattle.prop_core.specs.NamedClauses.{IsCode}
use Rattle.prop_core.specs.VariableNames.{Meaning, dropped, yes, reaches, HasEachOnce, ReadsAs, named_clause, with_literal}
use Rattle.prop_core.specs.declared.grid.Grid.{Grid}
use Rattle.prop_core.specs.declared.lit.Lit.{Lit}
use Rattle.question_clauses.proofs.LaidOut.{steps_are_laid_out, named_at}
use Rattle.question_clauses.specs.LaidOut.{laid_out, event_block}
use Rattle.run_decode.proofs.Parts.{parts_make_question, parts_are_assumed}
use Rattle.run_decode.proofs.RunNames.{is_step, Differ, step_entry, log_entry, steps_and_log, events_among, inputs_read}
use Rattle.run_decode.proofs.Reading.{clause_stays, bound_is_read}
use Rattle.run_decode.specs.Drawn.{fault_inputs, assumption_literals}
use Rattle.run_decode.specs.Question.{IsReadAmong, IsQuestion}
use Rattle.run_decode.specs.WholeNaming.{whole_meanings, false_input, counter_after, IsApartFromCounter, AreCodedTogether, HaveOneNaming, TogetherOneNaming, TogetherBegins, TogetherGrow, AreClausesOf, TogetherAsk}
use Rattle.std.proofs.lemmas.List.Elements.{Contains-append_cases, Contains-append_left, Contains-append_right}
use Rattle.step_encode.proofs.Codes.{grid_ends}
use Rattle.step_encode.specs.Coded.{CodedSteps, code_meanings, code_grid, variable_count}
use Rattle.step_encode.specs.FaultInputs.{fault_literals}
use Rattle.des_base.proofs.Elements.{pairs_append}

module _ (steps : CodedSteps) (code : CodedLog) (counter : CounterState) (together : AreCodedTogether steps code counter) where
  record IsCounterEntry (entry : ℕ × Meaning) : Type 0 where
    input : ℕ
    column : ℕ
    place : IsPlace counter input column
    is : entry ≡ (variable counter input column, reaches (suc input) (suc column))

  counter_entry : (entry : ℕ × Meaning) → Contains (counter_meanings counter) entry → IsCounterEntry entry
  counter_entry entry in' = let found = (counter_meanings_stand counter together.counted).only entry in' in record { input = found.0; column = found.1; place = found.2; is = found.3 }

  steps_and_counter : (x y : ℕ × Meaning) → Contains (code_meanings steps) x → Contains (counter_meanings counter) y → Differ x y
  steps_and_counter x y of_steps of_counter =
      let one = step_entry steps code together.beside x of_steps in
      let two = counter_entry y of_counter in
      let later = together.later two.input two.column two.place in
      let var = ap (λ (e : ℕ × Meaning). e.0) two.is in
      let meaning = ap (λ (e : ℕ × Meaning). e.1) two.is in (
        λ same. omega (arith, one.1, later, var, same),
        λ same. no_step (reaches (suc two.input) (suc two.column)) refl (subst (λ meaning'. is_step meaning' ≡ true) (same ∙ meaning) one.0),
      )
    where
      no_step : (meaning : Meaning) → is_step meaning ≡ false → is_step meaning ≡ true → ⊥
      no_step meaning h k = cc

  log_and_counter : (x y : ℕ × Meaning) → Contains (log_meanings code) x → Contains (counter_meanings counter) y → Differ x y
  log_and_counter x y of_log of_counter =
      let one = log_entry steps code together.beside x of_log in
      let two = counter_entry y of_counter in
      let var = ap (λ (e : ℕ × Meaning). e.0) two.is in
      let meaning = ap (λ (e : ℕ × Meaning). e.1) two.is in (
        λ same. together.apart x two.input two.column of_log two.place (same ∙ var),
        λ same. subst (IsLogMeaning code.net code.log code.grid.steps) (same ∙ meaning) one.0,
      )

  names_once : HasEachOnce (whole_meanings steps code counter)
  names_once =
      pairs_append Differ (code_meanings steps) (log_meanings code ++ counter_meanings counter) (steps_are_laid_out steps.net steps.steps steps.first).once
      (pairs_append Differ (log_meanings code) (counter_meanings counter) together.beside.logged.meanings.once (counter_meanings_stand counter together.counted).once log_and_counter)
      (λ x y of_steps rest. by x y of_steps (Contains-append_cases (log_meanings code) (counter_meanings counter) y rest))
    where
      by : (x y : ℕ × Meaning) → Contains (code_meanings steps) x → Contains (log_meanings code) y ⊎ Contains (counter_meanings counter) y → Differ x y
      by x y of_steps (inl of_log) = steps_and_log steps code together.beside x y of_steps of_log
      by x y of_steps (inr of_counter) = steps_and_counter x y of_steps of_counter

  steps_among : AreAmong (code_meanings steps) (whole_meanings steps code counter)
  steps_among entry in' = Contains-append_left (code_meanings steps) (log_meanings code ++ counter_meanings counter) entry in'

  log_among : AreAmong (log_meanings code) (whole_meanings steps code counter)
  log_among entry in' = Contains-append_right (code_meanings steps) (log_meanings code ++ counter_meanings counter) entry (Contains-append_left (log_meanings code) (counter_meanings counter) entry in')

  counter_among : AreAmong (counter_meanings counter) (whole_meanings steps code counter)
  counter_among entry in' = Contains-append_right (code_meanings steps) (log_meanings code ++ counter_meanings counter) entry (Contains-append_right (log_meanings code) (counter_meanings counter) entry in')

  read_among : AreAmong (read_meanings code) (whole_meanings steps code counter)
  read_among entry in' = by (Contains-append_cases (laid_out code.grid.first (event_block code.grid.steps (length code.net.events))) (log_meanings code) entry in')
    where
      by : Contains (laid_out code.grid.first (event_block code.grid.steps (length code.net.events))) entry ⊎ Contains (log_meanings code) entry → Contains (whole_meanings steps code counter) entry
      by (inl event) = steps_among entry (events_among steps code together.beside entry event)
      by (inr own) = log_among entry own

pub together_one_naming : TogetherOneNaming
together_one_naming steps code counter together =
    let once = names_once steps code counter together in
    let of_steps = steps_among steps code counter together in
    let inputs = together.inputs in
    let faults : AreFaultLiterals (whole_meanings steps code counter) steps.net code.log steps.steps counter.inputs =
    subst (AreFaultLiterals (whole_meanings steps code counter) steps.net code.log steps.steps) (sym inputs.whole) (inputs_read steps code (whole_meanings steps code counter) inputs.false_lits once of_steps (log_among steps code counter together) inputs.read) in record {
      once = once;
      of_steps = of_steps;
      of_log = read_among steps code counter together;
      of_faults = faults;
      of_counter = record {
        inputs_read = faults;
        called = (counter_meanings_stand counter together.counted).called (whole_meanings steps code counter) once (counter_among steps code counter together);
      };
    }

-- ---- growth

no_place : (inputs : List Lit) (counter : CounterState) → counter ≡ without_columns inputs → (i j : ℕ) → IsPlace counter i j → ⊥
no_place inputs counter is i j place = let none = ap (λ (c : CounterState). length c.columns) is in let below = place.column in omega (arith, none, below)

pub together_begins : TogetherBegins
together_begins steps code counter false_lits beside read is =
    let none = no_place (fault_literals steps.net (code_grid steps) ++ false_lits) counter is in record {
      beside = beside;
      counted = subst IsCounter (sym is) (none_is_counter (fault_literals steps.net (code_grid steps) ++ false_lits));
      inputs = record { false_lits = false_lits; whole = ap (λ (c : CounterState). c.inputs) is; read = read };
      later = λ i j place. absurd (none i j place);
      apart = λ entry i j in' place. absurd (none i j place);
    }

module _ (steps : CodedSteps) (code : CodedLog) (counter : CounterState) (first : ℕ) (together : AreCodedTogether steps code counter) (above : code.vars ≤ first) (made : IsMade first counter) where
  -- the variables of an addition come after those of the counter
  apart_by_addition : (addition : Addition) → IsApartFromCounter (code_after code addition first) counter
  apart_by_addition (alarm_added new) entry i j in' place =
      by (Contains-append_cases (log_meanings code) (laid_out first (added_meanings code.net code.log code.grid.steps (alarm_added new))) entry (subst (λ names. Contains names entry) (names_with_alarm code new first together.beside.logged.each) in'))
    where
      by : Contains (log_meanings code) entry ⊎ Contains (laid_out first (added_meanings code.net code.log code.grid.steps (alarm_added new))) entry → entry.0 ≢ variable counter i j
      by (inl old) = together.apart entry i j old place
      by (inr fresh) =
          let row = laid_out_from first (added_meanings code.net code.log code.grid.steps (alarm_added new)) entry fresh in
          let below = made.columns i j place in
          λ same. omega (arith, row.1, below, same)
  apart_by_addition (pair_added a b) entry i j in' place = together.apart entry i j in' place

  -- the variables of a column come after those of the steps and of the log
  column_is_later : (i j : ℕ) → IsPlace (with_column counter first) i j → steps.first + variable_count steps.net steps.steps ≤ variable (with_column counter first) i j
  column_is_later i j place = by (place_cases counter first i j place)
    where
      begins : steps.first + variable_count steps.net steps.steps ≤ first
      begins =
          let before = subst (λ (grid : Grid). grid.first + grid.events * grid.steps ≤ code.asked) together.beside.grid together.beside.logged.made in
          let ends = grid_ends steps in
          let asked' = asked_below code together.beside.logged in
          omega (arith, before, ends, asked', above)

      by : IsPlace counter i j ⊎ ((i < length counter.inputs) × (j ≡ length counter.columns)) → steps.first + variable_count steps.net steps.steps ≤ variable (with_column counter first) i j
      by (inl old) = let later = together.later i j old in let same = variable_before counter first i j old in omega (arith, later, same)
      by (inr (below, is)) =
          let last = subst (λ k. variable (with_column counter first) i k ≡ first + i) (sym is) (variable_last counter first i below) in
          omega (arith, begins, last)

  apart_by_column : IsApartFromCounter code (with_column counter first)
  apart_by_column entry i j in' place = by (place_cases counter first i j place)
    where
      by : IsPlace counter i j ⊎ ((i < length counter.inputs) × (j ≡ length counter.columns)) → entry.0 ≢ variable (with_column counter first) i j
      by (inl old) = λ same. together.apart entry i j in' old (same ∙ variable_before counter first i j old)
      by (inr (below, is)) =
          let last = subst (λ k. variable (with_column counter first) i k ≡ first + i) (sym is) (variable_last counter first i below) in
          let low = all_at (λ (e : ℕ × Meaning). e.0 < code.vars) (log_meanings code) together.beside.logged.meanings.below entry in' in
          λ same. omega (arith, low, last, same, above)

  module _ (addition : Addition) (few : first + addition_width code addition ≤ VAR_LIMIT) where
    grown : IsCodedLog (code_after code addition first)
    grown = grown_is_coded code addition first together.beside.logged above few

    beside_after : IsCodedBeside steps (code_after code addition first)
    beside_after = record { net = together.beside.net; grid = together.beside.grid; logged = grown }

    -- where the literals of false alarms stay
    same_counter : AreFalseLiterals (code_after code addition first) together.inputs.false_lits → AreCodedTogether steps (code_after code addition first) counter
    same_counter read = record {
      beside = beside_after;
      counted = together.counted;
      inputs = record { false_lits = together.inputs.false_lits; whole = together.inputs.whole; read = read };
      later = together.later;
      apart = apart_by_addition addition;
    }

  module _ (new : Alarm) (few : first + addition_width code (alarm_added new) ≤ VAR_LIMIT) where
    longer_code : CodedLog
    longer_code = code_after code (alarm_added new) first

    -- what says by the names of the log that alarms are false says so by those of the longer log
    false_stay : named_clause (log_meanings longer_code) together.inputs.false_lits ≡ Some (false_literals code.log)
    unfolding longer_code
    false_stay = clause_stays (log_meanings code) (log_meanings longer_code) (grown (alarm_added new) few).meanings.once
        (λ entry in'. subst (λ names. Contains names entry) (sym (names_with_alarm code new first together.beside.logged.each)) (Contains-append_left (log_meanings code) (laid_out first (added_meanings code.net code.log code.grid.steps (alarm_added new))) entry in'))
        together.inputs.false_lits (false_literals code.log) together.inputs.read

    -- its names but that it is false
    abbrev own_names : List Meaning
    own_names = alarm_meanings code.net code.log code.grid.steps new ++ match_chains code.grid.steps (length code.log.alarms) (length (taken_events code.net code.log new))

    names_split : new.doubtful ≡ true → added_meanings code.net code.log code.grid.steps (alarm_added new) ≡ own_names ++ dropped (length code.log.alarms) ∷ []
    names_split h =
        ap (λ b. alarm_meanings code.net code.log code.grid.steps new ++ (match_chains code.grid.steps (length code.log.alarms) (length (taken_events code.net code.log new)) ++ false_meanings b (length code.log.alarms))) h
        ∙ sym (append_assoc (alarm_meanings code.net code.log code.grid.steps new) (match_chains code.grid.steps (length code.log.alarms) (length (taken_events code.net code.log new))) (dropped (length code.log.alarms) ∷ []))

    wide : new.doubtful ≡ true → addition_width code (alarm_added new) ≡ suc (length own_names)
    wide h = let whole = ap length (names_split h) in let both = length-append own_names (dropped (length code.log.alarms) ∷ []) in omega (arith, whole, both)

    input_entry : new.doubtful ≡ true → Contains (log_meanings longer_code) ((false_input code new first).var, dropped (length code.log.alarms))
    unfolding longer_code
    input_entry h =
        let names = own_names in
        let last : addition_width code (alarm_added new) - 1 ≡ length names = omega (arith, wide h) in
        let split : added_meanings code.net code.log code.grid.steps (alarm_added new) ≡ names ++ dropped (length code.log.alarms) ∷ [] = names_split h in
        let at = named_at first (added_meanings code.net code.log code.grid.steps (alarm_added new)) (length names) (dropped (length code.log.alarms))
        (subst (λ xs. slice_get xs (length names) ≡ Some (dropped (length code.log.alarms))) (sym split) (at_seam names (dropped (length code.log.alarms)))) in
        let row = laid_out first (added_meanings code.net code.log code.grid.steps (alarm_added new)) in
        let there = named_entry row (first + length names) (dropped (length code.log.alarms)) at in
        subst (λ names'. Contains names' ((false_input code new first).var, dropped (length code.log.alarms))) (sym (names_with_alarm code new first together.beside.logged.each))
        (Contains-append_right (log_meanings code) row ((false_input code new first).var, dropped (length code.log.alarms)) (subst (λ k. Contains row (first + k, dropped (length code.log.alarms))) (sym last) there))
      where
        at_seam : (xs : List Meaning) (x : Meaning) → slice_get (xs ++ x ∷ []) (length xs) ≡ Some x
        at_seam [] x = refl
        at_seam (y ∷ xs) x = at_seam xs x

    next : ℕ
    next = first + addition_width code (alarm_added new)

    longer_counter : CounterState
    longer_counter = with_input counter (false_input code new first) next

    counted_more : new.doubtful ≡ true → HasInput counter (false_input code new first) next
    unfolding next
    counted_more h =
        let width = wide h in
        inputs_grow counter (false_input code new first) (first + addition_width code (alarm_added new)) together.counted (made_later first (first + addition_width code (alarm_added new)) counter (omega arith) made) (omega (arith, width))
        (λ i j place same. let below = made.columns i j place in omega (arith, below, same))

    -- a variable of the longer counter is an old one, or comes after those of the addition
    place_of_input : new.doubtful ≡ true → (i j : ℕ) → IsPlace longer_counter i j → (IsPlace counter i j × (variable longer_counter i j ≡ variable counter i j)) ⊎ (next ≤ variable longer_counter i j)
    unfolding next longer_counter
    place_of_input h i j place = by (places_with_input counter (false_input code new first) next together.counted.full i j place)
      where
        by : IsPlace counter i j ⊎ ((i ≡ length counter.inputs) × (j < length counter.columns)) → (IsPlace counter i j × (variable longer_counter i j ≡ variable counter i j)) ⊎ (next ≤ variable longer_counter i j)
        by (inl old) = inl (old, (counted_more h).before i j old)
        by (inr (is, inside)) =
            let last = subst (λ k. variable (with_input counter (false_input code new first) next) k j ≡ next + j) (sym is) ((counted_more h).last j inside) in
            inr (omega (arith, last))

    doubtful_counter : new.doubtful ≡ true → AreCodedTogether steps (code_after code (alarm_added new) first) (with_input counter (false_input code new first) (first + addition_width code (alarm_added new)))
    unfolding next longer_counter longer_code
    doubtful_counter h = record {
      beside = beside_after (alarm_added new) few;
      counted = (counted_more h).counter;
      inputs = record {
        false_lits = together.inputs.false_lits ++ false_input code new first ∷ [];
        whole = ap (λ ls. ls ++ false_input code new first ∷ []) together.inputs.whole ∙ append_assoc (fault_literals steps.net (code_grid steps)) together.inputs.false_lits (false_input code new first ∷ []);
        read = read_append (log_meanings longer_code) together.inputs.false_lits (false_input code new first ∷ []) (false_literals code.log) (yes (dropped (length code.log.alarms)) ∷ []) false_stay one
            ∙ ap (λ xs. Some (false_literals code.log ++ xs)) (sym (ap (λ b. if b then yes (dropped (length code.log.alarms)) ∷ [] else []) h)) ∙ ap Some (sym (false_more code.log new));
      };
      later = λ i j place. later i j (place_of_input h i j place);
      apart = λ entry i j in' place. apart entry i j in' (place_of_input h i j place);
    }
      where
        one : named_clause (log_meanings longer_code) (false_input code new first ∷ []) ≡ Some (yes (dropped (length code.log.alarms)) ∷ [])
        one =
            let meaning = has_name (log_meanings longer_code) ((false_input code new first).var, dropped (length code.log.alarms)) (grown (alarm_added new) few).meanings.once (input_entry h) in
            ap (λ o. with_literal (option_map (λ (meaning' : Meaning). record { meaning = meaning'; positive = true }) o) (Some [])) meaning

        begins : steps.first + variable_count steps.net steps.steps ≤ first
        begins =
            let before = subst (λ (grid : Grid). grid.first + grid.events * grid.steps ≤ code.asked) together.beside.grid together.beside.logged.made in
            let ends = grid_ends steps in
            let asked' = asked_below code together.beside.logged in
            omega (arith, before, ends, asked', above)

        later : (i j : ℕ) → (IsPlace counter i j × (variable longer_counter i j ≡ variable counter i j)) ⊎ (next ≤ variable longer_counter i j) → steps.first + variable_count steps.net steps.steps ≤ variable longer_counter i j
        later i j (inl (old, same)) = let low = together.later i j old in omega (arith, low, same)
        later i j (inr high) = omega (arith, high, begins)

        apart : (entry : ℕ × Meaning) (i j : ℕ) → Contains (log_meanings longer_code) entry → (IsPlace counter i j × (variable longer_counter i j ≡ variable counter i j)) ⊎ (next ≤ variable longer_counter i j) → entry.0 ≢ variable longer_counter i j
        apart entry i j in' (inl (old, is)) = λ same. apart_by_addition (alarm_added new) entry i j in' old (same ∙ is)
        apart entry i j in' (inr high) =
            let low = all_at (λ (e : ℕ × Meaning). e.0 < first + addition_width code (alarm_added new)) (log_meanings longer_code) (grown (alarm_added new) few).meanings.below entry in' in
            λ same. omega (arith, low, high, same)

  by_addition : (addition : Addition) → first + addition_width code addition ≤ VAR_LIMIT → AreCodedTogether steps (code_after code addition first) (counter_after code counter addition first)
  unfolding longer_code
  by_addition (pair_added a b) few = same_counter (pair_added a b) few together.inputs.read
  by_addition (alarm_added new) few = by new.doubtful refl
    where
      by : (b : Bool) → new.doubtful ≡ b → AreCodedTogether steps (code_after code (alarm_added new) first) (if b then with_input counter (false_input code new first) (first + addition_width code (alarm_added new)) else counter)
      by true h = doubtful_counter new few h
      by false h = same_counter (alarm_added new) few (certain h)
        where
          certain : new.doubtful ≡ false → AreFalseLiterals (code_after code (alarm_added new) first) together.inputs.false_lits
          certain h = false_stay new few ∙ ap Some (sym (false_more code.log new ∙ ap (λ b. false_literals code.log ++ (if b then yes (dropped (length code.log.alarms)) ∷ [] else [])) h ∙ append-nil (false_literals code.log)))

pub together_grow : TogetherGrow
together_grow steps code counter first together above made = record {
  by_addition = by_addition steps code counter first together above made;
  by_column = λ some. record {
    beside = together.beside;
    counted = grown_is_counter counter first together.counted made some;
    inputs = together.inputs;
    later = column_is_later steps code counter first together above made;
    apart = apart_by_column steps code counter first together above made;
  };
}

-- ---- the question

module _ (steps : CodedSteps) (code : CodedLog) (counter : CounterState) (clauses : List Clause) (together : AreCodedTogether steps code counter) (are : AreClausesOf steps code counter clauses) where
  steps_same : code.grid.steps ≡ steps.steps
  steps_same = ap (λ (grid : Grid). grid.steps) together.beside.grid

  naming : HaveOneNaming steps code counter
  naming = together_one_naming steps code counter together

  log_code : IsCode (read_meanings code) (IsNamedLog steps.net code.log steps.steps) are.written
  log_code =
      subst (λ m. IsCode (read_meanings code) (IsNamedLog steps.net code.log m) are.written) steps_same
      (subst (λ net. IsCode (read_meanings code) (IsNamedLog net code.log code.grid.steps) are.written) together.beside.net are.log_code.clauses)

  count_code : IsCode (whole_meanings steps code counter) (IsNamedCount (fault_inputs steps.net code.log steps.steps) (length counter.columns)) (counter_clauses counter)
  count_code = counter_is_code (whole_meanings steps code counter) (fault_inputs steps.net code.log steps.steps) counter naming.of_counter

  is_question : IsQuestion steps.net code.log steps.steps (length counter.columns) (whole_meanings steps code counter) clauses
  is_question =
      parts_make_question steps.net code.log steps.steps (length counter.columns) (whole_meanings steps code counter) clauses are.stepped are.written (counter_clauses counter) naming.once
      (record { own = code_meanings steps; among = naming.of_steps; code = are.step_code })
      (record { own = read_meanings code; among = naming.of_log; code = log_code })
      (record { own = whole_meanings steps code counter; among = λ entry in'. in'; code = count_code })
      are.same

  module _ (guards : List Lit) (read : ReadsAs (read_meanings code) guards (guard_literals code.net code.log)) where
    guards_read : IsReadAmong (whole_meanings steps code counter) guards (guard_literals steps.net code.log)
    guards_read = record { own = read_meanings code; among = naming.of_log; reads = subst (λ net. ReadsAs (read_meanings code) guards (guard_literals net code.log)) together.beside.net read }

    no_bound : ReadsAs (whole_meanings steps code counter) (guards ++ []) (assumption_literals steps.net code.log steps.steps None)
    no_bound = parts_are_assumed steps.net code.log steps.steps None (whole_meanings steps code counter) guards [] naming.once guards_read
        (record { own = whole_meanings steps code counter; among = λ entry in'. in'; reads = record { read = []; by_name = refl; same = λ x. (λ h. h, λ h. h) } })

    bound : (k : ℕ) → k < length counter.columns → ReadsAs (whole_meanings steps code counter) (guards ++ bound_literal counter k ∷ []) (assumption_literals steps.net code.log steps.steps (Some k))
    bound k less = parts_are_assumed steps.net code.log steps.steps (Some k) (whole_meanings steps code counter) guards (bound_literal counter k ∷ []) naming.once guards_read
        (record { own = whole_meanings steps code counter; among = λ entry in'. in'; reads = bound_is_read steps.net code.log steps.steps (whole_meanings steps code counter) counter k together.counted naming.of_counter less })

pub together_ask : TogetherAsk
together_ask steps code counter clauses guards together are read = record {
  unbounded = record {
    columns = length counter.columns;
    question = is_question steps code counter clauses together are;
    column = tt;
    assumes = subst (λ literals. ReadsAs (whole_meanings steps code counter) literals (assumption_literals steps.net code.log steps.steps None)) (append-nil guards)
        (no_bound steps code counter clauses together are guards read);
  };
  bounded = λ k less. record {
    columns = length counter.columns;
    question = is_question steps code counter clauses together are;
    column = λ some. less;
    assumes = bound steps code counter clauses together are guards read k less;
  };
}
