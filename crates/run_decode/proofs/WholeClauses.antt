-- The clauses of a question that is coded in parts, as the parts grow.
use Rattle.std.proofs.Common.{◌≡◌, ◌↔◌, ◌⊎◌, inl, inr, ℕ, ◌+◌, Bool, true, false, if◌then◌else◌, append-nil, List, [], ◌++◌, length, sym, ap, subst, Contains, flat_map}
use Rattle.card_counter.proofs.States.{columns_add_clauses}
use Rattle.card_counter.proofs.Inputs.{inputs_add_clauses}
use Rattle.des_base.proofs.Elements.{none_in_nil}
use Rattle.question_clauses.specs.Additions.{Addition, alarm_added, pair_added}
use Rattle.prop_core.specs.declared.lit.Lit.{Lit}
use Rattle.card_counter.specs.CounterState.{CounterState, column_clauses, column_before, column_at, counter_clauses, next_clauses, input_clauses, with_input, IsFull}
use Rattle.log_encode.proofs.WrittenLemmas.{written_grows}
use Rattle.log_encode.specs.CodedLog.{CodedLog, code_after, addition_width}
use Rattle.prop_core.specs.Clauses.{Clause}
use Rattle.run_decode.specs.WholeNaming.{AreClausesOf, ClausesBegin, ClausesGrow, counter_after, counted_after, false_input}
use Rattle.std.proofs.lemmas.List.Elements.{Contains-append_cases, Contains-append_left, Contains-append_right}
use Rattle.des_base.specs.Lists.{numbers_below}
use Rattle.step_encode.specs.Coded.{CodedSteps}

no_clauses : (counter : CounterState) → counter.columns ≡ [] → counter_clauses counter ≡ []
no_clauses counter none = ap (λ m. flat_map (λ j. column_clauses counter.inputs (column_before counter.columns j) (column_at counter.columns j)) (numbers_below m)) (ap length none)

pub clauses_begin : ClausesBegin
clauses_begin steps code counter stepped written none step_code log_code = record { stepped = stepped; written = written; step_code = step_code; log_code = log_code; same = λ clause. (to clause, from clause) }
  where
    to : (clause : Clause) → Contains (stepped ++ written) clause → Contains stepped clause ⊎ (Contains written clause ⊎ Contains (counter_clauses counter) clause)
    to clause in' = by (Contains-append_cases stepped written clause in')
      where
        by : Contains stepped clause ⊎ Contains written clause → Contains stepped clause ⊎ (Contains written clause ⊎ Contains (counter_clauses counter) clause)
        by (inl of_steps) = inl of_steps
        by (inr of_log) = inr (inl of_log)

    from : (clause : Clause) → Contains stepped clause ⊎ (Contains written clause ⊎ Contains (counter_clauses counter) clause) → Contains (stepped ++ written) clause
    from clause (inl of_steps) = Contains-append_left stepped written clause of_steps
    from clause (inr (inl of_log)) = Contains-append_right stepped written clause of_log
    from clause (inr (inr of_counter)) = absurd (none_in_nil clause (subst (λ cs. Contains cs clause) (no_clauses counter none) of_counter))

module _ (steps : CodedSteps) (code : CodedLog) (counter : CounterState) (clauses : List Clause) (are : AreClausesOf steps code counter clauses) (more : List Clause) (clause : Clause) where
  -- further clauses of the log
  log_more : Contains (clauses ++ more) clause ↔ Contains are.stepped clause ⊎ (Contains (are.written ++ more) clause ⊎ Contains (counter_clauses counter) clause)
  log_more = (λ in'. to (Contains-append_cases clauses more clause in'), from)
    where
      old : Contains are.stepped clause ⊎ (Contains are.written clause ⊎ Contains (counter_clauses counter) clause) → Contains are.stepped clause ⊎ (Contains (are.written ++ more) clause ⊎ Contains (counter_clauses counter) clause)
      old (inl of_steps) = inl of_steps
      old (inr (inl of_log)) = inr (inl (Contains-append_left are.written more clause of_log))
      old (inr (inr of_counter)) = inr (inr of_counter)

      to : Contains clauses clause ⊎ Contains more clause → Contains are.stepped clause ⊎ (Contains (are.written ++ more) clause ⊎ Contains (counter_clauses counter) clause)
      to (inl before) = old ((are.same clause).0 before)
      to (inr new) = inr (inl (Contains-append_right are.written more clause new))

      log_part : Contains are.written clause ⊎ Contains more clause → Contains (clauses ++ more) clause
      log_part (inl before) = Contains-append_left clauses more clause ((are.same clause).1 (inr (inl before)))
      log_part (inr new) = Contains-append_right clauses more clause new

      from : Contains are.stepped clause ⊎ (Contains (are.written ++ more) clause ⊎ Contains (counter_clauses counter) clause) → Contains (clauses ++ more) clause
      from (inl of_steps) = Contains-append_left clauses more clause ((are.same clause).1 (inl of_steps))
      from (inr (inl of_log)) = log_part (Contains-append_cases are.written more clause of_log)
      from (inr (inr of_counter)) = Contains-append_left clauses more clause ((are.same clause).1 (inr (inr of_counter)))

  -- and of the counter
  count_more : Contains (clauses ++ more) clause ↔ Contains are.stepped clause ⊎ (Contains are.written clause ⊎ Contains (counter_clauses counter ++ more) clause)
  count_more = (λ in'. to (Contains-append_cases clauses more clause in'), from)
    where
      old : Contains are.stepped clause ⊎ (Contains are.written clause ⊎ Contains (counter_clauses counter) clause) → Contains are.stepped clause ⊎ (Contains are.written clause ⊎ Contains (counter_clauses counter ++ more) clause)
      old (inl of_steps) = inl of_steps
      old (inr (inl of_log)) = inr (inl of_log)
      old (inr (inr of_counter)) = inr (inr (Contains-append_left (counter_clauses counter) more clause of_counter))

      to : Contains clauses clause ⊎ Contains more clause → Contains are.stepped clause ⊎ (Contains are.written clause ⊎ Contains (counter_clauses counter ++ more) clause)
      to (inl before) = old ((are.same clause).0 before)
      to (inr new) = inr (inr (Contains-append_right (counter_clauses counter) more clause new))

      count_part : Contains (counter_clauses counter) clause ⊎ Contains more clause → Contains (clauses ++ more) clause
      count_part (inl before) = Contains-append_left clauses more clause ((are.same clause).1 (inr (inr before)))
      count_part (inr new) = Contains-append_right clauses more clause new

      from : Contains are.stepped clause ⊎ (Contains are.written clause ⊎ Contains (counter_clauses counter ++ more) clause) → Contains (clauses ++ more) clause
      from (inl of_steps) = Contains-append_left clauses more clause ((are.same clause).1 (inl of_steps))
      from (inr (inl of_log)) = Contains-append_left clauses more clause ((are.same clause).1 (inr (inl of_log)))
      from (inr (inr of_counter)) = count_part (Contains-append_cases (counter_clauses counter) more clause of_counter)

-- with the clauses of a further input they are those of the longer counter
input_more : (steps : CodedSteps) (code : CodedLog) (counter : CounterState) (clauses : List Clause) (input : Lit) (first : ℕ) → IsFull counter → AreClausesOf steps code counter clauses → AreClausesOf steps code (with_input counter input first) (clauses ++ input_clauses counter input first)
input_more steps code counter clauses input first full are = record { stepped = are.stepped; written = are.written; step_code = are.step_code; log_code = are.log_code; same = same }
  where
    more : List Clause
    more = input_clauses counter input first

    same : (clause : Clause) → Contains (clauses ++ input_clauses counter input first) clause ↔ Contains are.stepped clause ⊎ (Contains are.written clause ⊎ Contains (counter_clauses (with_input counter input first)) clause)
    same clause = (λ in'. to (join.0 in'), λ h. join.1 (from h))
      where
        join : Contains (clauses ++ input_clauses counter input first) clause ↔ Contains are.stepped clause ⊎ (Contains are.written clause ⊎ Contains (counter_clauses counter ++ input_clauses counter input first) clause)
        join = count_more steps code counter clauses are (input_clauses counter input first) clause

        law : Contains (counter_clauses (with_input counter input first)) clause ↔ Contains (counter_clauses counter) clause ⊎ Contains (input_clauses counter input first) clause
        law = inputs_add_clauses counter input first full clause

        back : Contains (counter_clauses counter) clause ⊎ Contains (input_clauses counter input first) clause → Contains (counter_clauses counter ++ input_clauses counter input first) clause
        back (inl old) = Contains-append_left (counter_clauses counter) (input_clauses counter input first) clause old
        back (inr new) = Contains-append_right (counter_clauses counter) (input_clauses counter input first) clause new

        to : Contains are.stepped clause ⊎ (Contains are.written clause ⊎ Contains (counter_clauses counter ++ input_clauses counter input first) clause) → Contains are.stepped clause ⊎ (Contains are.written clause ⊎ Contains (counter_clauses (with_input counter input first)) clause)
        to (inl of_steps) = inl of_steps
        to (inr (inl of_log)) = inr (inl of_log)
        to (inr (inr of_counter)) = inr (inr (law.1 (Contains-append_cases (counter_clauses counter) (input_clauses counter input first) clause of_counter)))

        from : Contains are.stepped clause ⊎ (Contains are.written clause ⊎ Contains (counter_clauses (with_input counter input first)) clause) → Contains are.stepped clause ⊎ (Contains are.written clause ⊎ Contains (counter_clauses counter ++ input_clauses counter input first) clause)
        from (inl of_steps) = inl of_steps
        from (inr (inl of_log)) = inr (inl of_log)
        from (inr (inr of_counter)) = inr (inr (back (law.0 of_counter)))

-- with the clauses that the counter gets with an addition
counted_more : (steps : CodedSteps) (code after : CodedLog) (counter : CounterState) (addition : Addition) (first : ℕ) (clauses : List Clause) → IsFull counter → AreClausesOf steps after counter clauses →
    AreClausesOf steps after (counter_after code counter addition first) (clauses ++ counted_after code counter addition first)
counted_more steps code after counter (pair_added i j) first clauses full are = subst (AreClausesOf steps after counter) (sym (append-nil clauses)) are
counted_more steps code after counter (alarm_added new) first clauses full are = by new.doubtful
  where
    by : (b : Bool) → AreClausesOf steps after (if b then with_input counter (false_input code new first) (first + addition_width code (alarm_added new)) else counter) (clauses ++ (if b then input_clauses counter (false_input code new first) (first + addition_width code (alarm_added new)) else []))
    by true = input_more steps after counter clauses (false_input code new first) (first + addition_width code (alarm_added new)) full are
    by false = subst (AreClausesOf steps after counter) (sym (append-nil clauses)) are

pub clauses_grow : ClausesGrow
clauses_grow steps code counter clauses full are = record {
  drafts = λ addition draft made follows. counted_more steps code (code_after code addition draft.first) counter addition draft.first (clauses ++ draft.clauses) full (record {
    stepped = are.stepped;
    written = are.written ++ draft.clauses;
    step_code = are.step_code;
    log_code = written_grows code addition draft are.written are.log_code made follows;
    same = log_more steps code counter clauses are draft.clauses;
  });
  columns = λ first. record {
    stepped = are.stepped;
    written = are.written;
    step_code = are.step_code;
    log_code = are.log_code;
    same = λ clause.
        subst (λ counted. Contains (clauses ++ next_clauses counter first) clause ↔ Contains are.stepped clause ⊎ (Contains are.written clause ⊎ Contains counted clause)) (sym (columns_add_clauses counter first))
        (count_more steps code counter clauses are (next_clauses counter first) clause);
  };
}
