-- How what stands ready for verdicts begins, and how it goes on with columns, with a further literal, and with what a solver learns.
use Rattle.std.proofs.Common.{◌≡◌, ◌≢◌, ◌∙◌, ◌⊎◌, inl, inr, ℕ, zero, suc, ◌+◌, ◌-◌, ◌*◌, ◌<◌, ◌≤◌, ◌==◌, Bool, true, false, List, [], ◌∷◌, ◌++◌, length, None, Some, refl, sym, ap, subst, arith, Contains, append_assoc}
use Rattle.std.proofs.lemmas.List.{map-append}
use Rattle.std.proofs.Math.Nat.{mul-le-mul_right}
use Rattle.std.proofs.lemmas.List.Elements.{All-cons, All-from_recursion, All-map, Contains-append_cases as append_cases, Contains-append_left as append_left, Contains-append_right as append_right}
use Rattle.card_counter.proofs.NameLemmas.{no_name}
use Rattle.card_counter.proofs.States.{columns_add_meanings, made_later}
use Rattle.card_counter.specs.CounterState.{CounterState, with_column, counter_meanings, next_meanings, positive}
use Rattle.des_base.proofs.Elements.{all_append, all_change, all_from, cons_cases, map_from, none_in_nil, pairs_append}
use Rattle.des_base.specs.Lists.{numbers_below}
use Rattle.des_base.specs.declared.TheConstants.{MOST_COLUMNS}
use Rattle.des_net.specs.Network.{Net, is_fault}
use Rattle.des_net.specs.QuestionSize.{fault_event_count}
use Rattle.fault_verdicts.proofs.Riders.{built_at_first, built_by_solver, built_with_columns, built_with_literal}
use Rattle.fault_verdicts.specs.Asked.{some_step_clause, some_step_clauses}
use Rattle.fault_verdicts.specs.Judging.{event_signed, signed_literal}
use Rattle.fault_verdicts.specs.Ready.{AreReadyWith}
use Rattle.fault_verdicts.specs.Telling.{AreMade, IsEventGrid}
use Rattle.least_faults.proofs.Below.{room_names_below}
use Rattle.least_faults.proofs.Beside.{beside, clauses_still}
use Rattle.least_faults.proofs.ColumnsBuilt.{vars_grow}
use Rattle.least_faults.specs.Columns.{columns_built}
use Rattle.least_faults.specs.Growing.{KeepsQuestion}
use Rattle.least_faults.specs.Parts.{AreReady, AreReadyBeside, BelongTo, HaveRoom, IsBuilt, built_of, meanings_of_parts}
use Rattle.least_faults.specs.declared.TheConstants.{MOST_SIZE}
use Rattle.least_faults.specs.declared.parts.Parts.{Parts}
use Rattle.question_clauses.proofs.LogCodes.{has_name, named_entry}
use Rattle.question_clauses.proofs.Lists.{all_at, from_numbers}
use Rattle.log_encode.specs.CodedLog.{CodedLog, log_meanings}
use Rattle.log_order.specs.Log.{Log}
use Rattle.proof_ledger.specs.Book.{BookEntry, axiomatic, axioms_of, clauses_of}
use Rattle.prop_core.specs.Clauses.{Clause, HasValues, negation}
use Rattle.prop_core.specs.Grids.{grid_variable}
use Rattle.prop_core.specs.VariableNames.{Meaning, happens, reaches, meaning_of}
use Rattle.prop_core.specs.declared.grid.Grid.{Grid}
use Rattle.prop_core.specs.declared.lit.Lit.{Lit}
use Rattle.replay.specs.QuestionSize.{doubtful_count, question_size}
use Rattle.run_decode.proofs.FewNames.{inputs_are_counted}
use Rattle.run_decode.proofs.WholeNames.{together_one_naming}
use Rattle.run_decode.specs.QuestionAxioms.{BuiltQuestion}
use Rattle.run_decode.specs.Tells.{AreBoth}
use Rattle.run_decode.specs.WholeNaming.{whole_meanings}
use Rattle.sat_order.specs.Rank.{IsRanked}
use Rattle.sat_solve.specs.Searching.{HasAxiomVars}
use Rattle.sat_solve.specs.Solving.{SolverState}
use Rattle.step_encode.proofs.Codes.{event_named}
use Rattle.step_encode.specs.Coded.{CodedSteps, code_meanings, code_grid}
use Rattle.step_encode.specs.FaultInputs.{event_literals}
use Rattle.proof_ledger.proofs.AxiomLists.{axioms_added}
use Rattle.sat_solve.specs.Leaving.{AddsAxioms}

-- ---- variables without a name

-- what has no name in two lists has none in both
none_in_both : (xs ys : List (ℕ × Meaning)) (var : ℕ) → meaning_of xs var ≡ None → meaning_of ys var ≡ None → meaning_of (xs ++ ys) var ≡ None
none_in_both [] ys var one two = two
none_in_both (entry ∷ xs) ys var one two = by (entry.0 == var) refl (none_in_both xs ys var)
  where
    by : (b : Bool) → (entry.0 == var) ≡ b → (meaning_of xs var ≡ None → meaning_of ys var ≡ None → meaning_of (xs ++ ys) var ≡ None) → meaning_of ((entry ∷ xs) ++ ys) var ≡ None
    by true e later = let some : Some entry.1 ≡ None = rw e at one in cc
    by false e later = rw e (later (rw e at one) two)

-- a column's variables are the next ones
none_next : (counter : CounterState) (first var : ℕ) → var < first → meaning_of (next_meanings counter first) var ≡ None
none_next counter first var less = no_name (next_meanings counter first) var (all_from (λ (entry : ℕ × Meaning). entry.0 ≢ var) (next_meanings counter first) (λ entry in' same.
    let of' = map_from (λ i. (first + i, reaches (suc i) (suc (length counter.columns)))) (numbers_below (length counter.inputs)) entry in' in
    let is : first + of'.0 ≡ entry.0 = ap (λ (e : ℕ × Meaning). e.0) of'.2 in
    omega (arith, is, same, less)))

names_by_column : (steps : CodedSteps) (code : CodedLog) (counter : CounterState) (first : ℕ) → whole_meanings steps code (with_column counter first) ≡ whole_meanings steps code counter ++ next_meanings counter first
names_by_column steps code counter first =
    ap (λ names. code_meanings steps ++ (log_meanings code ++ names)) (columns_add_meanings counter first)
    ∙ ap (λ names. code_meanings steps ++ names) (sym (append_assoc (log_meanings code) (counter_meanings counter) (next_meanings counter first)))
    ∙ sym (append_assoc (code_meanings steps) (log_meanings code ++ counter_meanings counter) (next_meanings counter first))

abbrev names_in : BuiltQuestion → List (ℕ × Meaning)
names_in question = whole_meanings question.steps question.code question.counter

none_by_columns : (question : BuiltQuestion) (columns var : ℕ) → var < question.vars → meaning_of (names_in question) var ≡ None → meaning_of (names_in (columns_built question columns)) var ≡ None
none_by_columns question zero var less none = none
none_by_columns question (suc columns) var less none =
    let before = columns_built question columns in
    let more = vars_grow question columns in
    subst (λ names. meaning_of names var ≡ None) (sym (names_by_column before.steps before.code before.counter before.vars))
    (none_in_both (names_in before) (next_meanings before.counter before.vars) var (none_by_columns question columns var less none) (none_next before.counter before.vars var (omega (arith, less, more))))

-- what is above all names has none
none_above : (steps : CodedSteps) (code : CodedLog) (counter : CounterState) (vars : ℕ) → HaveRoom steps code counter vars → meaning_of (whole_meanings steps code counter) vars ≡ None
none_above steps code counter vars room = no_name (whole_meanings steps code counter) vars (all_from (λ (entry : ℕ × Meaning). entry.0 ≢ vars) (whole_meanings steps code counter) (λ entry in' same.
    let below = room_names_below steps code counter vars room entry in' in omega (arith, below, same)))

-- ---- the events

-- by the names of the parts the grid's variables are those of the events
pub gridded : (steps : CodedSteps) (code : CodedLog) (counter : CounterState) (vars : ℕ) → HaveRoom steps code counter vars → IsEventGrid (whole_meanings steps code counter) steps.net steps.steps (code_grid steps)
gridded steps code counter vars room =
    let naming = together_one_naming steps code counter room.together in (
      refl,
      λ e t known less.
          let var = grid_variable (code_grid steps) e (suc t) in
          has_name (whole_meanings steps code counter) (var, happens e (suc t)) naming.once (naming.of_steps (var, happens e (suc t)) (named_entry (code_meanings steps) var (happens e (suc t)) (event_named steps e t known less))),
    )

pub event_below : (steps : CodedSteps) (code : CodedLog) (counter : CounterState) (vars : ℕ) → HaveRoom steps code counter vars → (e t : ℕ) → e < length steps.net.events → t < steps.steps → grid_variable (code_grid steps) e (suc t) < vars
event_below steps code counter vars room e t known less =
    let var = grid_variable (code_grid steps) e (suc t) in
    room_names_below steps code counter vars room (var, happens e (suc t)) (named_entry (whole_meanings steps code counter) var (happens e (suc t)) ((gridded steps code counter vars room).1 e t known less))

-- literals of an event in all steps, of whichever sign, are below as many variables
pub signed_below : (steps : CodedSteps) (code : CodedLog) (counter : CounterState) (vars values : ℕ) → HaveRoom steps code counter vars → (sign : Bool) (e : ℕ) → e < length steps.net.events → vars ≤ values → HasValues values (event_signed (code_grid steps) sign e)
signed_below steps code counter vars values room sign e known more =
    All-map (λ (l : Lit). l.var < values) (signed_literal (code_grid steps) sign e) (numbers_below steps.steps)
    (All-from_recursion (λ t. grid_variable (code_grid steps) e (suc t) < values) (numbers_below steps.steps) (all_from (λ t. grid_variable (code_grid steps) e (suc t) < values) (numbers_below steps.steps) (λ t in'.
    let low = event_below steps code counter vars room e t known (from_numbers steps.steps t in') in omega (arith, low, more))))

events_below : (steps : CodedSteps) (code : CodedLog) (counter : CounterState) (vars values : ℕ) → HaveRoom steps code counter vars → (e : ℕ) → e < length steps.net.events → vars ≤ values → HasValues values (event_literals (code_grid steps) e)
events_below steps code counter vars values room e known more = signed_below steps code counter vars values room true e known more

-- ---- clauses of both

both_more : (whole clauses rider more : List Clause) → AreBoth whole clauses rider → AreBoth (whole ++ more) (clauses ++ more) rider
both_more whole clauses rider more both clause = (to, back)
  where
    to : Contains (whole ++ more) clause → Contains (clauses ++ more) clause ⊎ Contains rider clause
    to in' = by (append_cases whole more clause in')
      where
        first : Contains clauses clause ⊎ Contains rider clause → Contains (clauses ++ more) clause ⊎ Contains rider clause
        first (inl here) = inl (append_left clauses more clause here)
        first (inr there) = inr there

        by : Contains whole clause ⊎ Contains more clause → Contains (clauses ++ more) clause ⊎ Contains rider clause
        by (inl here) = first ((both clause).0 here)
        by (inr there) = inl (append_right clauses more clause there)

    back : Contains (clauses ++ more) clause ⊎ Contains rider clause → Contains (whole ++ more) clause
    back (inl in') = by (append_cases clauses more clause in')
      where
        by : Contains clauses clause ⊎ Contains more clause → Contains (whole ++ more) clause
        by (inl here) = append_left whole more clause ((both clause).1 (inl here))
        by (inr there) = append_right whole more clause there
    back (inr in') = append_left whole more clause ((both clause).1 (inr in'))

rider_more : (whole clauses rider : List Clause) (c : Clause) → AreBoth whole clauses rider → AreBoth (whole ++ c ∷ []) clauses (rider ++ c ∷ [])
rider_more whole clauses rider c both clause = (to, back)
  where
    to : Contains (whole ++ c ∷ []) clause → Contains clauses clause ⊎ Contains (rider ++ c ∷ []) clause
    to in' = by (append_cases whole (c ∷ []) clause in')
      where
        first : Contains clauses clause ⊎ Contains rider clause → Contains clauses clause ⊎ Contains (rider ++ c ∷ []) clause
        first (inl here) = inl here
        first (inr there) = inr (append_left rider (c ∷ []) clause there)

        by : Contains whole clause ⊎ Contains (c ∷ []) clause → Contains clauses clause ⊎ Contains (rider ++ c ∷ []) clause
        by (inl here) = first ((both clause).0 here)
        by (inr there) = inr (append_right rider (c ∷ []) clause there)

    back : Contains clauses clause ⊎ Contains (rider ++ c ∷ []) clause → Contains (whole ++ c ∷ []) clause
    back (inl in') = append_left whole (c ∷ []) clause ((both clause).1 (inl in'))
    back (inr in') = by (append_cases rider (c ∷ []) clause in')
      where
        by : Contains rider clause ⊎ Contains (c ∷ []) clause → Contains (whole ++ c ∷ []) clause
        by (inl here) = append_left whole (c ∷ []) clause ((both clause).1 (inr here))
        by (inr there) = append_right whole (c ∷ []) clause there

none_made : (clauses : List Clause) → AreBoth clauses clauses []
none_made clauses clause = (λ in'. inl in', λ where'. by where')
  where
    by : Contains clauses clause ⊎ Contains [] clause → Contains clauses clause
    by (inl in') = in'
    by (inr (k, below, is)) = absurd (omega (arith, below))

-- ---- at first

-- what is ready for a search is ready for verdicts, with none made, where the question keeps its limit
pub ready_at_first : {R : Type 0} (may : R → ℕ → Type 0) (gives : R → ℕ → ℕ → Type 0) (parts : Parts R) (book : List BookEntry) (net : Net) (log : Log) → AreReady may gives parts book → BelongTo net log parts → IsBuilt net log parts.step.steps parts book → question_size net log parts.step.steps ≤ MOST_SIZE →
    AreReadyWith may gives parts book []
ready_at_first may gives parts book net log ready belong built size = record {
  beside = beside may gives parts book ready;
  own = axioms_of book;
  clauses = ready.coded.clauses;
  both = none_made (axioms_of book);
  made_new = record { once = tt; new = tt; events = tt; faults = tt };
  below = tt;
  built = built_at_first net log parts book belong built;
  small = few_inputs;
}
  where
    turn : (f k d : ℕ) → 256 * (f * k + d) ≡ 256 * k * f + 256 * d
    turn f k d = grind arith

    few_inputs : MOST_COLUMNS * length parts.counter.inputs ≤ MOST_SIZE
    few_inputs =
        let counted = inputs_are_counted parts.step parts.code.coded parts.counter.inputs ready.coded.together.inputs
        ∙ ap (λ (m : Net). fault_event_count m * parts.step.steps + doubtful_count parts.code.coded.log) belong.of_steps
        ∙ ap (λ l. fault_event_count net * parts.step.steps + doubtful_count l) belong.same_log in
        let inputs = ap (λ k. 256 * k) counted in
        let spread = turn (fault_event_count net) parts.step.steps (doubtful_count log) in
        omega (arith, inputs, spread, size)

-- ---- with columns

-- what was made for verdicts stays while the counter gets columns
pub ready_with_columns : {R : Type 0} (may : R → ℕ → Type 0) (gives : R → ℕ → ℕ → Type 0) (old new : Parts R) (book entries : List BookEntry) (made : List (ℕ × ℕ)) → 0 < length old.counter.inputs → AreReadyBeside may gives new entries → KeepsQuestion old new book entries →
    AddsAxioms book entries → AreReadyWith may gives old book made → AreReadyWith may gives new entries made
ready_with_columns may gives old new book entries made some ready keeps adds with' = record {
  beside = ready;
  own = with'.own ++ adds.axioms;
  clauses = clauses_still old new book entries with'.own some with'.beside.coded ready.coded.columns keeps adds with'.clauses;
  both = subst (λ axioms. AreBoth axioms (with'.own ++ adds.axioms) (some_step_clauses (code_grid new.step) made)) (sym (ap axioms_of adds.more ∙ axioms_added book adds.axioms))
      (subst (λ (s : CodedSteps). AreBoth (axioms_of book ++ adds.axioms) (with'.own ++ adds.axioms) (some_step_clauses (code_grid s) made)) (sym keeps.step)
      (both_more (axioms_of book) with'.own (some_step_clauses (code_grid old.step) made) adds.axioms with'.both));
  made_new = subst (λ (s : CodedSteps). AreMade (meanings_of_parts new) s.net made) (sym keeps.step) (record {
    once = with'.made_new.once;
    new = all_from (λ (entry : ℕ × ℕ). meaning_of (meanings_of_parts new) entry.0 ≡ None) made (λ entry in'.
        subst (λ (q : BuiltQuestion). meaning_of (names_in q) entry.0 ≡ None) (sym keeps.built)
        (none_by_columns (built_of old book) (length keeps.counter.columns) entry.0 (all_at (λ (e : ℕ × ℕ). e.0 < old.vars) made with'.below entry in') (all_at (λ (e : ℕ × ℕ). meaning_of (meanings_of_parts old) e.0 ≡ None) made with'.made_new.new entry in')));
    events = with'.made_new.events;
    faults = with'.made_new.faults;
  });
  below = all_change (λ (e : ℕ × ℕ). e.0 < old.vars) (λ (e : ℕ × ℕ). e.0 < new.vars) made (λ entry less. omega (arith, less, later)) with'.below;
  built = built_with_columns old new book entries keeps with'.built;
  small = subst (λ inputs. MOST_COLUMNS * length inputs ≤ MOST_SIZE) (sym keeps.counter.inputs) with'.small;
}
  where
    later : old.vars ≤ new.vars
    later = subst (λ (q : BuiltQuestion). old.vars ≤ q.vars) (sym keeps.built) (vars_grow (built_of old book) (length keeps.counter.columns))

-- ---- where only the solver changes, or the book gets no axiom

pub ready_by_solver : {R : Type 0} (may : R → ℕ → Type 0) (gives : R → ℕ → ℕ → Type 0) (parts : Parts R) (solver : SolverState R) (book entries : List BookEntry) (made : List (ℕ × ℕ)) → axioms_of entries ≡ axioms_of book →
    AreReadyBeside may gives (record parts { solver = solver }) entries → AreReadyWith may gives parts book made → AreReadyWith may gives (record parts { solver = solver }) entries made
ready_by_solver may gives parts solver book entries made same ready with' = record {
  beside = ready;
  own = with'.own;
  clauses = with'.clauses;
  both = subst (λ axioms. AreBoth axioms with'.own (some_step_clauses (code_grid parts.step) made)) (sym same) with'.both;
  made_new = with'.made_new;
  below = with'.below;
  built = built_by_solver parts solver book entries same with'.built;
  small = with'.small;
}

-- ---- with a further literal

-- there is room for a further variable
room_more : {R : Type 0} (may : R → ℕ → Type 0) (gives : R → ℕ → ℕ → Type 0) (parts : Parts R) (book : List BookEntry) (made : List (ℕ × ℕ)) (vars : ℕ) → AreReadyWith may gives parts book made → parts.vars ≤ 1000000000 → vars ≡ parts.vars + 1 → HaveRoom parts.step parts.code.coded parts.counter vars
room_more may gives parts book made vars with' few is =
    let room = with'.beside.coded in
    let above = room.above in
    let small = with'.small in
    let fewer : MOST_COLUMNS - length parts.counter.columns ≤ MOST_COLUMNS = omega arith in
    let left = mul-le-mul_right (length parts.counter.inputs) fewer in record {
      together = room.together;
      above = omega (arith, above, is);
      made = made_later parts.vars vars parts.counter (omega (arith, is)) room.made;
      columns = room.columns;
      fits = omega (arith, left, small, few, is);
    }

pub ready_with_literal : {R : Type 0} (may : R → ℕ → Type 0) (gives : R → ℕ → ℕ → Type 0) (parts : Parts R) (solver : SolverState R) (vars : ℕ) (book entries : List BookEntry) (made : List (ℕ × ℕ)) (e : ℕ) → AreReadyWith may gives parts book made →
    e < length parts.step.net.events → is_fault parts.step.net e ≡ true → parts.vars ≤ 1000000000 → vars ≡ parts.vars + 1 → entries ≡ book ++ axiomatic (some_step_clause (code_grid parts.step) (parts.vars, e)) ∷ [] →
    HasAxiomVars entries → solver.adopted ≡ clauses_of entries → vars ≤ solver.vars → IsRanked may gives solver.order → AreReadyWith may gives (record parts { vars = vars; solver = solver }) entries (made ++ (parts.vars, e) ∷ [])
ready_with_literal may gives parts solver vars book entries made e with' known fault few is pushed axiom_vars adopted enough ranked = record {
  beside = record { coded = room_more may gives parts book made vars with' few is; known = axiom_vars; adopted_all = adopted; enough = enough; ranked = ranked };
  own = with'.own;
  clauses = with'.clauses;
  both = subst (λ axioms. AreBoth axioms with'.own (some_step_clauses grid (made ++ (parts.vars, e) ∷ []))) (sym (ap axioms_of pushed ∙ axioms_added book (some_step_clause grid (parts.vars, e) ∷ [])))
      (subst (λ rider. AreBoth (axioms_of book ++ some_step_clause grid (parts.vars, e) ∷ []) with'.own rider) (sym (map-append (some_step_clause grid) made ((parts.vars, e) ∷ [])))
      (rider_more (axioms_of book) with'.own (some_step_clauses grid made) (some_step_clause grid (parts.vars, e)) with'.both));
  made_new = record {
    once = pairs_append (λ (a b : ℕ × ℕ). a.0 ≢ b.0) made ((parts.vars, e) ∷ []) with'.made_new.once (tt, tt) (λ a b in' there same.
        let low = all_at (λ (x : ℕ × ℕ). x.0 < parts.vars) made with'.below a in' in
        let last = ap (λ (x : ℕ × ℕ). x.0) (only (parts.vars, e) b there) in
        omega (arith, low, last, same));
    new = all_append (λ (x : ℕ × ℕ). meaning_of (meanings_of_parts parts) x.0 ≡ None) made ((parts.vars, e) ∷ []) with'.made_new.new (none_above parts.step parts.code.coded parts.counter parts.vars with'.beside.coded, tt);
    events = all_append (λ (x : ℕ × ℕ). x.1 < length parts.step.net.events) made ((parts.vars, e) ∷ []) with'.made_new.events (known, tt);
    faults = all_append (λ (x : ℕ × ℕ). is_fault parts.step.net x.1 ≡ true) made ((parts.vars, e) ∷ []) with'.made_new.faults (fault, tt);
  };
  below = all_append (λ (x : ℕ × ℕ). x.0 < vars) made ((parts.vars, e) ∷ []) (all_change (λ (x : ℕ × ℕ). x.0 < parts.vars) (λ (x : ℕ × ℕ). x.0 < vars) made (λ entry less. omega (arith, less, is)) with'.below) (omega (arith, is), tt);
  built = built_with_literal parts solver vars book entries e known fault is pushed with'.built;
  small = with'.small;
}
  where
    grid : Grid
    grid = code_grid parts.step

    only : (x b : ℕ × ℕ) → Contains (x ∷ []) b → x ≡ b
    only x b in' = by (cons_cases x [] b in')
      where
        by : (x ≡ b) ⊎ Contains [] b → x ≡ b
        by (inl same) = same
        by (inr none) = absurd (none_in_nil b none)

-- the new clause is over variables that were made
pub event_clause_below : {R : Type 0} (may : R → ℕ → Type 0) (gives : R → ℕ → ℕ → Type 0) (parts : Parts R) (book : List BookEntry) (made : List (ℕ × ℕ)) (e values : ℕ) → AreReadyWith may gives parts book made → e < length parts.step.net.events → parts.vars < values →
    HasValues values (some_step_clause (code_grid parts.step) (parts.vars, e))
event_clause_below may gives parts book made e values with' known less =
    All-cons (λ (l : Lit). l.var < values) (negation (positive parts.vars)) (event_literals (code_grid parts.step) e) less (events_below parts.step parts.code.coded parts.counter parts.vars values with'.beside.coded e known (omega (arith, less)))
