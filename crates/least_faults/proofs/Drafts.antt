-- The parts of a question, and their book, with an addition to the log.
use Rattle.std.proofs.Common.{◌≡◌, ◌∙◌, ℕ, ◌+◌, ◌-◌, ◌*◌, ◌<◌, ◌≤◌, Bool, true, false, if◌then◌else◌, List, [], ◌++◌, map, take, drop, length, Some, refl, sym, ap, subst, arith, length-append, append_assoc, append-nil, sum_by, All}
use Rattle.std.proofs.Math.Seq.{take-append_seam, drop-append_seam}
use Rattle.std.proofs.lemmas.List.{length-map}
use Rattle.std.proofs.lemmas.List.Elements.{All-nil, All-cons, All-weaker}
use Rattle.std.proofs.lemmas.List.FromFn.{length-range_with_len}
use Rattle.std.proofs.lemmas.List.Sums.{sum_by-append}
use Rattle.std.specs.List.{AllByRecursion}
use Rattle.card_counter.proofs.Adding.{columns_stay, many_inputs_add}
use Rattle.card_counter.proofs.States.{later_may_count}
use Rattle.card_counter.specs.CounterState.{CounterState, IsMade, column_at, column_before, input_clauses, longer, place_clauses, with_input, with_inputs, inputs_clauses}
use Rattle.card_counter.specs.Growing.{AddsInputs, MayCount}
use Rattle.des_base.proofs.Elements.{all_split, all_change}
use Rattle.des_base.specs.Lists.{numbers_below}
use Rattle.des_base.specs.declared.TheConstants.{VAR_LIMIT}
use Rattle.least_faults.proofs.AddedClauses.{size_grows}
use Rattle.least_faults.proofs.Below.{axioms_below}
use Rattle.least_faults.proofs.Bounded.{bounded_with, width_fits}
use Rattle.least_faults.proofs.FewClauses.{AreFew, few_at, few_flat}
use Rattle.least_faults.specs.Adding.{input_count, is_doubted, last_literal, new_inputs}
use Rattle.least_faults.specs.Bounds.{question_variables}
use Rattle.least_faults.specs.Parts.{AreParts}
use Rattle.question_clauses.specs.Additions.{Addition, alarm_added, pair_added, with_addition}
use Rattle.question_clauses.specs.Drafts.{added_clauses, added_list, taken_events}
use Rattle.question_clauses.specs.LogClauses.{log_clause}
use Rattle.question_clauses.specs.LogNames.{alarm_meanings, false_meanings, match_chains}
use Rattle.log_encode.proofs.CodeLemmas.{beside}
use Rattle.log_encode.specs.CodedLog.{CodedLog, addition_width, code_after, read_meanings}
use Rattle.log_encode.specs.Drafted.{DraftState, IsDraftOf}
use Rattle.log_order.specs.Log.{Alarm}
use Rattle.proof_ledger.specs.Book.{BookEntry, axiomatic, axioms_of, clauses_of}
use Rattle.prop_core.proofs.Listed.{listed_are_written}
use Rattle.prop_core.specs.Clauses.{Clause, HasValues}
use Rattle.prop_core.specs.Listings.{written_by}
use Rattle.prop_core.specs.VariableNames.{named_clause}
use Rattle.prop_core.specs.declared.grid.Grid.{Grid}
use Rattle.prop_core.specs.declared.lit.Lit.{Lit}
use Rattle.replay.specs.QuestionSize.{question_size}
use Rattle.run_decode.proofs.WholeClauses.{clauses_grow}
use Rattle.run_decode.proofs.WholeNames.{together_grow}
use Rattle.run_decode.specs.QuestionAxioms.{added_axioms, added_built, cells_after}
use Rattle.run_decode.specs.WholeNaming.{AreClausesOf, AreCodedTogether, counter_after, counted_after, false_input}
use Rattle.sat_prop.specs.Changes.{IsFront}
use Rattle.step_encode.specs.Coded.{CodedSteps}
use Rattle.proof_ledger.proofs.AxiomLists.{axioms_added, clauses_added}

-- ---- what the counter gets with it

-- the variables of a doubtful alarm are one at least
one_wide : (code : CodedLog) (new : Alarm) → new.doubtful ≡ true → 1 ≤ addition_width code (alarm_added new)
one_wide code new h =
    let i = length code.log.alarms in
    let chains = match_chains code.grid.steps i (length (taken_events code.net code.log new)) in
    let whole = length-append (alarm_meanings code.net code.log code.grid.steps new) (chains ++ false_meanings new.doubtful i) in
    let both = length-append chains (false_meanings new.doubtful i) in
    let one : length (false_meanings new.doubtful i) ≡ 1 = ap (λ b. length (false_meanings b i)) h in
    omega (arith, whole, both, one)

-- as the addition says, on the variables after its own
abbrev Inputs : CodedLog → Addition → ℕ → List Lit
Inputs code addition first = new_inputs (is_doubted addition) (first + addition_width code addition)

last_is : (code : CodedLog) (new : Alarm) (first : ℕ) → new.doubtful ≡ true → last_literal (first + addition_width code (alarm_added new)) ≡ false_input code new first
last_is code new first h =
    let wide = one_wide code new h in
    let same : first + addition_width code (alarm_added new) - 1 ≡ first + (addition_width code (alarm_added new) - 1) = omega (arith, wide) in
    ap (λ v. let l : Lit = record { var = v; positive = true } in l) same

counter_is : (code : CodedLog) (counter : CounterState) (addition : Addition) (first : ℕ) → with_inputs counter (Inputs code addition first) (first + addition_width code addition) ≡ counter_after code counter addition first
counter_is code counter (pair_added i j) first = refl
counter_is code counter (alarm_added new) first = by new.doubtful refl
  where
    next : ℕ
    next = first + addition_width code (alarm_added new)

    by : (b : Bool) → new.doubtful ≡ b → with_inputs counter (new_inputs b next) next ≡ (if b then with_input counter (false_input code new first) next else counter)
    by true h = ap (λ l. with_input counter l next) (last_is code new first h)
    by false h = refl

counted_is : (code : CodedLog) (counter : CounterState) (addition : Addition) (first : ℕ) → inputs_clauses counter (Inputs code addition first) (first + addition_width code addition) ≡ counted_after code counter addition first
counted_is code counter (pair_added i j) first = refl
counted_is code counter (alarm_added new) first = by new.doubtful refl
  where
    next : ℕ
    next = first + addition_width code (alarm_added new)

    by : (b : Bool) → new.doubtful ≡ b → inputs_clauses counter (new_inputs b next) next ≡ (if b then input_clauses counter (false_input code new first) next else [])
    by true h = append-nil (input_clauses counter (last_literal next) next) ∙ ap (λ l. input_clauses counter l next) (last_is code new first h)
    by false h = refl

-- one variable in each column for the input
cells_are : (counter : CounterState) (addition : Addition) → input_count (is_doubted addition) * length counter.columns ≡ cells_after counter addition
cells_are counter (pair_added i j) = omega arith
cells_are counter (alarm_added new) = by new.doubtful
  where
    by : (b : Bool) → input_count b * length counter.columns ≡ (if b then length counter.columns else 0)
    by true = omega arith
    by false = omega arith

-- one input has at most 2 clauses in each column, and 5 literals in them
few_of_one : (counter : CounterState) (input : Lit) (first : ℕ) → AreFew (2 * length counter.columns) (5 * length counter.columns) (input_clauses counter input first)
few_of_one counter input first =
    rw (length-range_with_len 0 (length counter.columns)) at
    (few_flat (λ j. place_clauses input (column_before (longer first counter.columns) j) (column_at (longer first counter.columns) j) (length counter.inputs)) 2 5 (numbers_below (length counter.columns))
    (λ j. few_at input (column_before (longer first counter.columns) j) (column_at (longer first counter.columns) j) (length counter.inputs)))

pub few_counted : (counter : CounterState) (doubtful : Bool) (vars first : ℕ) →
    AreFew (2 * (input_count doubtful * length counter.columns)) (5 * (input_count doubtful * length counter.columns)) (inputs_clauses counter (new_inputs doubtful vars) first)
few_counted counter false vars first = record { few = omega arith; short = omega arith }
few_counted counter true vars first =
    let one = few_of_one counter (last_literal vars) first in
    let whole = append-nil (input_clauses counter (last_literal vars) first) in
    record { few = omega (arith, one.few, ap length whole); short = omega (arith, one.short, ap (λ (cs : List Clause). sum_by length cs) whole) }

-- the literal may become an input: its variable comes after those of the counter
pub may_count : (code : CodedLog) (counter : CounterState) (addition : Addition) (first : ℕ) → IsMade first counter → All (MayCount (first + addition_width code addition) counter) (Inputs code addition first)
may_count code counter (pair_added i j) first made = All-nil (MayCount (first + 0) counter)
may_count code counter (alarm_added new) first made = by new.doubtful refl
  where
    next : ℕ
    next = first + addition_width code (alarm_added new)

    by : (b : Bool) → new.doubtful ≡ b → All (MayCount next counter) (new_inputs b next)
    by true h =
        let wide = one_wide code new h in
        All-cons (MayCount next counter) (last_literal next) [] (later_may_count first next counter (last_literal next) made (omega (arith, wide)) (omega (arith, wide))) (All-nil (MayCount next counter))
    by false h = All-nil (MayCount next counter)

-- ---- the parts with it

module _ (steps : CodedSteps) (code : CodedLog) (counter : CounterState) (vars : ℕ) (axioms : List Clause) (parts : AreParts steps code counter vars axioms) (draft : DraftState) (is : IsDraftOf code draft.addition vars draft)
    (fits : question_variables steps.net (with_addition code.log draft.addition) steps.steps ≤ VAR_LIMIT) where
  time : code.grid.steps ≡ steps.steps
  time = ap (λ (grid : Grid). grid.steps) parts.together.beside.grid

  -- all that it makes is within the limit
  pub variables_fit : vars + draft.vars + input_count (is_doubted draft.addition) * length counter.columns ≤ VAR_LIMIT
  variables_fit =
      let width = is.width in
      let few = width_fits steps code counter vars axioms parts.bounded draft.addition parts.together.beside.net time fits in
      omega (arith, width, few)

  -- its clauses are those of the listing
  pub draft_written : draft.clauses ≡ written_by (read_meanings (code_after code draft.addition vars)) (added_list code.net code.log code.grid.steps draft.addition)
  draft_written =
      let fit = variables_fit in
      let width = is.width in
      let grown = (together_grow steps code counter vars parts.together parts.above parts.made).by_addition draft.addition (omega (arith, fit, width)) in
      listed_are_written (read_meanings (code_after code draft.addition vars)) (added_list code.net code.log code.grid.steps draft.addition) draft.clauses (beside (code_after code draft.addition vars) grown.beside.logged).once is.listed

  -- as many clauses as are listed
  pub draft_size : length draft.clauses ≡ length (added_clauses code.net code.log code.grid.steps draft.addition)
  draft_size =
      sym (length-map draft.clauses (named_clause (read_meanings (code_after code draft.addition vars))))
      ∙ ap length is.listed
      ∙ length-map (added_list code.net code.log code.grid.steps draft.addition) (λ named. Some named)
      ∙ length-map (added_clauses code.net code.log code.grid.steps draft.addition) (log_clause code.net (with_addition code.log draft.addition) code.grid.steps)

  module _ (doubtful : Bool) (doubt : doubtful ≡ is_doubted draft.addition) (now : CounterState) (end : ℕ) (written all : List Clause) (same : written ≡ draft.clauses)
      (adds : AddsInputs (new_inputs doubtful (vars + draft.vars)) counter (vars + draft.vars) written now end all) where
    -- the inputs are those of the addition
    as_said : AddsInputs (Inputs code draft.addition vars) counter (vars + addition_width code draft.addition) draft.clauses now end all
    as_said =
        subst (λ b. AddsInputs (new_inputs b (vars + addition_width code draft.addition)) counter (vars + addition_width code draft.addition) draft.clauses now end all) doubt
        (subst (λ k. AddsInputs (new_inputs doubtful (vars + k)) counter (vars + k) draft.clauses now end all) is.width
        (subst (λ cs. AddsInputs (new_inputs doubtful (vars + draft.vars)) counter (vars + draft.vars) cs now end all) same adds))

    pub counter_joined : now ≡ counter_after code counter draft.addition vars
    counter_joined = as_said.counter ∙ counter_is code counter draft.addition vars

    pub clauses_joined : all ≡ draft.clauses ++ counted_after code counter draft.addition vars
    clauses_joined = as_said.clauses ∙ ap (λ cs. draft.clauses ++ cs) (counted_is code counter draft.addition vars)

    -- with at most 2 clauses and 5 literals for each cell
    pub few_joined : AreFew (2 * (input_count doubtful * length counter.columns) + length draft.clauses) (5 * (input_count doubtful * length counter.columns) + sum_by length draft.clauses) all
    few_joined =
        let more = inputs_clauses counter (new_inputs doubtful (vars + draft.vars)) (vars + draft.vars) in
        let few = few_counted counter doubtful (vars + draft.vars) (vars + draft.vars) in
        let whole : all ≡ draft.clauses ++ more = adds.clauses ∙ ap (λ cs. cs ++ more) same in
        record {
          few = omega (arith, few.few, ap length whole, length-append draft.clauses more);
          short = omega (arith, few.short, ap (λ (cs : List Clause). sum_by length cs) whole, sum_by-append (λ (c : Clause). length c) draft.clauses more);
        }

    inputs_joined : length now.inputs ≡ length counter.inputs + input_count (is_doubted draft.addition)
    inputs_joined =
        let added = many_inputs_add counter (Inputs code draft.addition vars) (vars + addition_width code draft.addition) parts.together.counted.full in
        ap (λ (c : CounterState). length c.inputs) as_said.counter ∙ ap length added.inputs ∙ length-append counter.inputs (Inputs code draft.addition vars)
        ∙ ap (λ k. length counter.inputs + k) (count (is_doubted draft.addition))
      where
        count : (b : Bool) → length (new_inputs b (vars + addition_width code draft.addition)) ≡ input_count b
        count true = refl
        count false = refl

    pub end_is : end ≡ vars + addition_width code draft.addition + input_count (is_doubted draft.addition) * length counter.columns
    end_is = as_said.vars ∙ ap (λ k. vars + addition_width code draft.addition + k * length counter.columns) (count (is_doubted draft.addition))
      where
        count : (b : Bool) → length (new_inputs b (vars + addition_width code draft.addition)) ≡ input_count b
        count true = refl
        count false = refl

    pub parts_joined : AreParts steps (code_after code draft.addition vars) now end (axioms ++ all)
    parts_joined =
        let above = parts.above in
        let fit = variables_fit in
        let width = is.width in
        let begins = is.begins in
        let short = few_joined in
        let drafts = (clauses_grow steps code counter axioms parts.together.counted.full parts.clauses).drafts draft.addition draft (subst (λ first. IsDraftOf code draft.addition first draft) (sym begins) is)
        (record { above = omega (arith, above, begins); few = omega (arith, fit, begins) }) in
        record {
          together = subst (λ (c : CounterState). AreCodedTogether steps (code_after code draft.addition vars) c) (sym counter_joined)
              ((together_grow steps code counter vars parts.together above parts.made).by_addition draft.addition (omega (arith, fit, width)));
          clauses = subst (λ (c : CounterState). AreClausesOf steps (code_after code draft.addition vars) c (axioms ++ all)) (sym counter_joined)
              (subst (AreClausesOf steps (code_after code draft.addition vars) (counter_after code counter draft.addition vars)) (joined axioms draft.clauses (counted_after code counter draft.addition vars) all clauses_joined)
              (subst (λ first. AreClausesOf steps (code_after code draft.addition first) (counter_after code counter draft.addition first) ((axioms ++ draft.clauses) ++ counted_after code counter draft.addition first)) begins drafts));
          above = omega (arith, end_is);
          made = adds.made;
          bounded = bounded_with steps code counter vars axioms parts.bounded draft.addition (code_after code draft.addition vars) now end all (length draft.clauses) parts.together.beside.net time refl
              (columns_stay (new_inputs doubtful (vars + draft.vars)) counter (vars + draft.vars) written now end all adds parts.together.counted.full) inputs_joined end_is draft_size
              (omega (arith, short.few, ap (λ b. 2 * (input_count b * length counter.columns)) doubt)) fits;
        }
      where
        joined : (first second third all' : List Clause) → all' ≡ second ++ third → (first ++ second) ++ third ≡ first ++ all'
        joined first second third all' whole = append_assoc first second third ∙ ap (λ cs. first ++ cs) (sym whole)

-- What an addition leaves: its axioms stand behind those of the book, and a solver with enough variables and room can adopt them.
pub record HasDraft (steps : CodedSteps) (code : CodedLog) (counter : CounterState) (vars count : ℕ) (adopted : List Clause) (values : ℕ) (entries : List BookEntry) : Type 0 where
  pub parts : AreParts steps code counter vars (axioms_of entries)
  pub enough : vars ≤ values
  pub front : IsFront adopted (clauses_of entries)
  pub long : length (clauses_of entries) ≡ length adopted + count
  pub known : AllByRecursion (HasValues values) (drop (length adopted) (clauses_of entries))

-- this holds if the parts are those of the book with further axioms
pub draft_here : (steps : CodedSteps) (code : CodedLog) (counter : CounterState) (vars values : ℕ) (book : List BookEntry) (all : List Clause) → AreParts steps code counter vars (axioms_of book ++ all) → vars ≤ values →
    HasDraft steps code counter vars (length all) (clauses_of book) values (book ++ map axiomatic all)
draft_here steps code counter vars values book all parts enough =
    let whole = clauses_added book all in
    let below = (all_split (HasValues vars) (axioms_of book) all (axioms_below steps code counter vars (axioms_of book ++ all) parts)).1 in
    let known = all_change (HasValues vars) (HasValues values) all (λ clause low. All-weaker (λ (l : Lit). l.var < vars) (λ (l : Lit). l.var < values) (λ l less. omega (arith, less, enough)) clause low) below in
    record {
      parts = subst (AreParts steps code counter vars) (sym (axioms_added book all)) parts;
      enough = enough;
      front = ap (take (length (clauses_of book))) whole ∙ take-append_seam (clauses_of book) all;
      long = (let size = ap length whole in omega (arith, size, length-append (clauses_of book) all));
      known = subst (AllByRecursion (HasValues values)) (sym (ap (drop (length (clauses_of book))) whole ∙ drop-append_seam (clauses_of book) all)) known;
    }

module _ (steps : CodedSteps) (code longer : CodedLog) (counter : CounterState) (vars fresh : ℕ) (book : List BookEntry) (parts : AreParts steps code counter vars (axioms_of book)) (draft : DraftState) (is : IsDraftOf code draft.addition vars draft)
    (fits : question_variables steps.net (with_addition code.log draft.addition) steps.steps ≤ VAR_LIMIT) (count : fresh ≡ vars + draft.vars) (committed : longer ≡ code_after code draft.addition draft.first) (doubtful : Bool) (doubt : doubtful ≡ is_doubted draft.addition) where
  pub code_joined : longer ≡ code_after code draft.addition vars
  code_joined = committed ∙ ap (code_after code draft.addition) is.begins

  ends : longer.vars ≡ vars + draft.vars
  ends = (let width = is.width in ap (λ (k : CodedLog). k.vars) code_joined ∙ omega (arith, width))

  -- the input of the counter may be one
  pub inputs_may_count : All (MayCount fresh counter) (new_inputs doubtful longer.vars)
  inputs_may_count =
      let width = is.width in
      let last : vars + addition_width code draft.addition ≡ longer.vars = sym (ends ∙ ap (λ k. vars + k) width) in
      let next : vars + addition_width code draft.addition ≡ fresh = omega (arith, count, width) in
      subst (λ b. All (MayCount fresh counter) (new_inputs b longer.vars)) (sym doubt)
      (subst (λ k. All (MayCount fresh counter) (new_inputs (is_doubted draft.addition) k)) last
      (subst (λ k. All (MayCount k counter) (Inputs code draft.addition vars)) next (may_count code counter draft.addition vars parts.made)))

  module _ (now : CounterState) (end : ℕ) (written all : List Clause) (same : written ≡ draft.clauses) (adds : AddsInputs (new_inputs doubtful longer.vars) counter fresh written now end all) where
    adds_here : AddsInputs (new_inputs doubtful (vars + draft.vars)) counter (vars + draft.vars) written now end all
    adds_here =
        subst (λ k. AddsInputs (new_inputs doubtful k) counter (vars + draft.vars) written now end all) ends
        (subst (λ k. AddsInputs (new_inputs doubtful longer.vars) counter k written now end all) count adds)

    pub counter_added : now ≡ counter_after code counter draft.addition vars
    counter_added = counter_joined steps code counter vars (axioms_of book) parts draft is fits doubtful doubt now end written all same adds_here

    pub clauses_listed : all ≡ draft.clauses ++ counted_after code counter draft.addition vars
    clauses_listed = clauses_joined steps code counter vars (axioms_of book) parts draft is fits doubtful doubt now end written all same adds_here

    -- the clauses that the question gets, and all that is built of it
    pub clauses_built : all ≡ added_axioms (record { steps = steps; code = code; counter = counter; vars = vars; axioms = axioms_of book }) draft.addition
    clauses_built = clauses_listed ∙ ap (λ (cs : List Clause). cs ++ counted_after code counter draft.addition vars) (draft_written steps code counter vars (axioms_of book) parts draft is fits)

    pub built_added : (entries : List BookEntry) → entries ≡ book ++ map axiomatic all →
        record { steps = steps; code = longer; counter = now; vars = end; axioms = axioms_of entries } ≡ added_built (record { steps = steps; code = code; counter = counter; vars = vars; axioms = axioms_of book }) draft.addition
    built_added entries put =
        let count = end_is steps code counter vars (axioms_of book) parts draft is fits doubtful doubt now end written all same adds_here ∙ ap (λ k. vars + addition_width code draft.addition + k) (cells_are counter draft.addition) in
        let axioms = ap axioms_of put ∙ axioms_added book all ∙ ap (λ (cs : List Clause). axioms_of book ++ cs) clauses_built in
        λ i. record { steps = steps; code = code_joined i; counter = counter_added i; vars = count i; axioms = axioms i }

    pub few_added : AreFew (2 * (input_count doubtful * length counter.columns) + length draft.clauses) (5 * (input_count doubtful * length counter.columns) + sum_by length draft.clauses) all
    few_added = few_joined steps code counter vars (axioms_of book) parts draft is fits doubtful doubt now end written all same adds_here

    pub draft_added : (adopted : List Clause) (values : ℕ) (entries : List BookEntry) → adopted ≡ clauses_of book → vars + draft.vars + input_count doubtful * length counter.columns ≤ values → entries ≡ book ++ map axiomatic all →
        HasDraft steps longer now end (length all) adopted values entries
    draft_added adopted values entries kept enough put =
        let joined = parts_joined steps code counter vars (axioms_of book) parts draft is fits doubtful doubt now end written all same adds_here in
        let here = subst (λ (k : CodedLog). AreParts steps k now end (axioms_of book ++ all)) (sym code_joined) joined in
        let cells = adds_here.vars in
        let one = input_size doubtful in
        subst (HasDraft steps longer now end (length all) adopted values) (sym put)
        (subst (λ (held : List Clause). HasDraft steps longer now end (length all) held values (book ++ map axiomatic all)) (sym kept)
        (draft_here steps longer now end values book all here (omega (arith, enough, cells, one))))
      where
        input_size : (b : Bool) → length (new_inputs b (vars + draft.vars)) * length counter.columns ≡ input_count b * length counter.columns
        input_size true = refl
        input_size false = refl

    -- no more axioms than the growth of the question allows
    pub axioms_few : length all + 12 * question_size code.net code.log code.grid.steps ≤ 12 * question_size code.net longer.log code.grid.steps + 12
    axioms_few =
        let few = few_added in
        let size = draft_size steps code counter vars (axioms_of book) parts draft is fits in
        let grows = size_grows code.net code.log code.grid.steps draft.addition in
        let within = parts.bounded.columns in
        let cells = few_cells doubtful (length counter.columns) within in
        let same' = ap (λ b. 12 * (256 * input_count b)) doubt in
        let longer' = ap (λ (k : CodedLog). question_size code.net k.log code.grid.steps) code_joined in
        omega (arith, few.few, size, grows, cells, same', longer')
      where
        few_cells : (b : Bool) (c : ℕ) → c ≤ 256 → input_count b * c ≤ 256 * input_count b
        few_cells true c few = omega (arith, few)
        few_cells false c few = omega arith

-- the one new input is such a literal
pub one_of : (P : Lit → Type 0) (doubtful : Bool) (vars : ℕ) → doubtful ≡ true → All P (new_inputs doubtful vars) → P (last_literal vars)
one_of P doubtful vars is all = subst (λ b. All P (new_inputs b vars)) is all 0 (last_literal vars) (omega arith)
