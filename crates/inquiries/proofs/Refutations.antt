-- The refutation that a search leaves in its book: what it assumes, and what it refutes.
use Rattle.std.proofs.Common.{◌≡◌, ◌∙◌, ◌⊎◌, inl, inr, ℕ, zero, suc, ◌+◌, ◌-◌, ◌<◌, Bool, true, false, List, [], ◌∷◌, ◌++◌, length, map, nat_eq, Option, Some, None, IfSome, Result, Ok, Err, IfOk, refl, sym, ap, subst, append-nil, append_assoc, arith, Contains}
use Rattle.std.specs.Prelude.{All, IsTrue, ◌||◌, if◌then◌else◌}
use Rattle.std.specs.List.{AllByRecursion, flat_map, list_any, range_with_len}
use Rattle.std.proofs.lemmas.Bool.Decides.{nat_tests}
use Rattle.std.proofs.lemmas.List.Elements.{All-contains, All-from_recursion, filter_map-append, Contains-append_cases, Contains-append_right}
use Rattle.std.proofs.lemmas.List.Folds.{list_any-append}
use Rattle.card_counter.proofs.NameLemmas.{counter_meanings_stand}
use Rattle.card_counter.specs.CounterState.{CounterState, bound_literal, column_before, counter_meanings, input_at, negative, next_clauses, place_clauses, var_at, with_column}
use Rattle.des_base.proofs.Elements.{all_at, all_from, cons_cases, here_first, map_from, map_has, none_in_nil, take_whole}
use Rattle.des_base.specs.Lists.{numbers_below}
use Rattle.des_net.specs.Network.{Net, IsNetwork}
use Rattle.least_faults.proofs.ColumnsBuilt.{question_within_bound}
use Rattle.answers.specs.declared.found.Found.{Found}
use Rattle.answers.specs.declared.found.Found.TheVariants.{Explained, Absent, Many, Undecided}
use Rattle.least_faults.specs.declared.parts.Parts.{Parts}
use Rattle.least_faults.specs.Answers.{IsAnswered}
use Rattle.least_faults.specs.Asking.{AreAssumed, assumed_by, bound_part}
use Rattle.least_faults.specs.Columns.{built_within, columns_for}
use Rattle.least_faults.specs.Evidence.{IsEvidence, IsPosed, is_final}
use Rattle.least_faults.specs.Parts.{AreReady, BelongTo, IsBuilt, meanings_of_parts}
use Rattle.question_clauses.proofs.LogCodes.{IsReadOf, named_entry, read_of}
use Rattle.question_clauses.proofs.Guards.{literal_named}
use Rattle.log_encode.specs.CodedLog.{CodedLog, log_meanings, read_meanings}
use Rattle.log_order.specs.Log.{Log, IsValidLog}
use Rattle.proof_ledger.specs.Book.{BookEntry, axiomatic, final, mark, axiom_of, axioms_of, clause_of, clauses_of}
use Rattle.proof_ledger.specs.Checking.{check_proof}
use Rattle.proof_ledger.specs.declared.checker.ProofStep.{ProofStep}
use Rattle.proof_ledger.specs.declared.checker.Checked.TheVariants.{Verified}
use Rattle.proof_text.proofs.Fronts.{front_ends}
use Rattle.proof_text.proofs.Readable.{can_be_printed}
use Rattle.proof_text.specs.Refutation.{EndsIn, front_to, refuted_formula, refutation_steps, unit_clauses}
use Rattle.prop_core.proofs.Listed.{clause_written}
use Rattle.prop_core.specs.Clauses.{Clause, HasValues, NegatesOnly, negation, literal_true, AllLiteralsTrue}
use Rattle.prop_core.specs.Listings.{literal_by}
use Rattle.prop_core.specs.VariableNames.{Meaning, NamedLiteral, HasEachOnce, ReadsAs, named_clause, named_literal, no, reaches}
use Rattle.prop_core.specs.declared.lit.Lit.{Lit}
use Rattle.run_decode.proofs.Built.{columns_are_counted}
use Rattle.run_decode.proofs.RunNames.{is_step, log_entry, step_entry}
use Rattle.run_decode.proofs.WholeNames.{together_one_naming}
use Rattle.run_decode.specs.Drawn.{assumption_literals, at_most, fault_inputs}
use Rattle.run_decode.specs.QuestionAxioms.{BuiltQuestion, question_axioms, question_built}
use Rattle.run_decode.specs.WholeNaming.{AreCodedTogether, whole_meanings}
use Rattle.question_clauses.specs.LogClauses.{guard_literals}
use Rattle.step_encode.specs.Coded.{CodedSteps, code_meanings}
use Rattle.inquiries.specs.Formula.{bound_within, counted_bound, question_assumed, question_within}
use Rattle.inquiries.specs.Refuted.{HasBoundColumn, HasEvidence, HasEvidenceFor, IsLastFinal, IsVerifiedRefutation}
use Rattle.inquiries.proofs.Formulas.{posed_by}
use Rattle.inquiries.proofs.LastFinals.{has_final, last_found}
use Rattle.std.proofs.Math.ListN.{get_or-append}
use Rattle.proof_ledger.proofs.AxiomLists.{axioms_added, clauses_added}
use Rattle.sat_solve.specs.Leaving.{HasLastFinal}
use Rattle.replay.specs.declared.TheConstants.{MOST_FAULTS}

-- ---- what reads as the same literals is the same

-- by one naming, what is read of one list is read of the other
same_literals : (names : List (ℕ × Meaning)) (xs ys : List Lit) (named : List NamedLiteral) → HasEachOnce names → ReadsAs names xs named → ReadsAs names ys named → (l : Lit) → Contains xs l → Contains ys l
same_literals names xs ys named once first second l in' =
    let here = subst (λ (zs : List Lit). Contains zs l) (clause_written names once xs first.read first.by_name) in' in
    let found = map_from (literal_by names) first.read l here in
    let there = (second.same found.0).1 ((first.same found.0).0 found.1) in
    subst (λ (zs : List Lit). Contains zs l) (sym (clause_written names once ys second.read second.by_name))
    (subst (Contains (map (literal_by names) second.read)) found.2 (map_has (literal_by names) second.read found.0 there))

negates_alike : (xs ys : List Lit) (clause : Clause) → ((l : Lit) → Contains xs l → Contains ys l) → NegatesOnly xs clause → NegatesOnly ys clause
negates_alike xs ys [] alike h = tt
negates_alike xs ys (l ∷ clause) alike h = (alike (negation l) h.0, negates_alike xs ys clause alike h.1)

true_alike : (value : ℕ → Bool) (xs ys : List Lit) → ((l : Lit) → Contains ys l → Contains xs l) → AllLiteralsTrue value xs → AllLiteralsTrue value ys
true_alike value xs ys alike h = all_from (λ l. IsTrue (literal_true value l)) ys (λ l in'. all_at (λ l'. IsTrue (literal_true value l')) xs l h (alike l in'))

known_alike : (n : ℕ) (xs ys : List Lit) → ((l : Lit) → Contains ys l → Contains xs l) → HasValues n xs → HasValues n ys
known_alike n xs ys alike h = All-from_recursion (λ (l : Lit). l.var < n) ys (all_from (λ (l : Lit). l.var < n) ys (λ l in'. All-contains (λ (l' : Lit). l'.var < n) xs l h (alike l in')))

-- what one list poses, the other does
posed_alike : (names : List (ℕ × Meaning)) (clauses all : List Clause) (xs ys : List Lit) (net : Net) (log : Log) (n : ℕ) (bound : Option ℕ) → IsPosed names clauses xs net log n bound → IsPosed names all ys net log n bound → IsPosed names clauses ys net log n bound
posed_alike names clauses all xs ys net log n bound posed others = record {
  faithful = record {
    complete = λ word order explains within. (let found = posed.faithful.complete word order explains within in (found.0, record { clauses_true = found.1.clauses_true; assumed_true = true_alike found.0 xs ys back found.1.assumed_true }));
    sound = λ value makes. posed.faithful.sound value (record { clauses_true = makes.clauses_true; assumed_true = true_alike value ys xs over makes.assumed_true });
    satisfiable = posed.faithful.satisfiable;
    consistent = others.faithful.consistent;
  };
  once = posed.once;
  instances = posed.instances;
  assumes = others.assumes;
}
  where
    over : (l : Lit) → Contains xs l → Contains ys l
    over = same_literals names xs ys (assumption_literals net log n bound) posed.once posed.assumes others.assumes

    back : (l : Lit) → Contains ys l → Contains xs l
    back = same_literals names ys xs (assumption_literals net log n bound) posed.once others.assumes posed.assumes

-- ---- the counter's column for a bound that is assumed

-- what is read is read of a literal
record IsReadHere (names : List (ℕ × Meaning)) (m : NamedLiteral) : Type 0 where
  l : Lit
  is : named_literal names l ≡ Some m

read_here : (names : List (ℕ × Meaning)) (clause : Clause) (read : List NamedLiteral) (m : NamedLiteral) → named_clause names clause ≡ Some read → Contains read m → IsReadHere names m
read_here names [] read m h in' = absurd (nothing read h in')
  where
    nothing : (r : List NamedLiteral) → Some [] ≡ Some r → Contains r m → ⊥
    nothing [] e in'' = none_in_nil m in''
    nothing (x ∷ r) e in'' = cc
read_here names (l ∷ clause) read m h in' = by (cons (subst (λ r. Contains r m) parts.whole in')) (read_here names clause parts.rest m parts.later)
  where
    parts : IsReadOf names l clause read
    parts = read_of names l clause read h

    cons : Contains (parts.first ∷ parts.rest) m → (parts.first ≡ m) ⊎ Contains parts.rest m
    cons = cons_cases parts.first parts.rest m

    by : (parts.first ≡ m) ⊎ Contains parts.rest m → (Contains parts.rest m → IsReadHere names m) → IsReadHere names m
    by (inl is) later = record { l = l; is = parts.literal ∙ ap Some is }
    by (inr rest) later = later rest

reach_in_counter : (steps : CodedSteps) (code : CodedLog) (counter : CounterState) → AreCodedTogether steps code counter → (var i j : ℕ) → Contains (whole_meanings steps code counter) (var, reaches i (suc j)) → j < length counter.columns
reach_in_counter steps code counter together var i j in' = by (Contains-append_cases (code_meanings steps) (log_meanings code ++ counter_meanings counter) (var, reaches i (suc j)) in')
  where
    no_step : (meaning : Meaning) → is_step meaning ≡ false → is_step meaning ≡ true → ⊥
    no_step meaning h k = cc

    of_counter : Contains (counter_meanings counter) (var, reaches i (suc j)) → j < length counter.columns
    of_counter here =
        let found = (counter_meanings_stand counter together.counted).only (var, reaches i (suc j)) here in
        let same = ap (λ (e : ℕ × Meaning). number_of e.1) found.3 in
        let place = found.2 in
        omega (arith, same, place.column)
      where
        number_of : Meaning → ℕ
        number_of (reaches a k) = k
        number_of other = 0

    of_others : Contains (log_meanings code) (var, reaches i (suc j)) ⊎ Contains (counter_meanings counter) (var, reaches i (suc j)) → j < length counter.columns
    of_others (inl of_log) = absurd (log_entry steps code together.beside (var, reaches i (suc j)) of_log).0
    of_others (inr here) = of_counter here

    by : Contains (code_meanings steps) (var, reaches i (suc j)) ⊎ Contains (log_meanings code ++ counter_meanings counter) (var, reaches i (suc j)) → j < length counter.columns
    by (inl of_steps) = absurd (no_step (reaches i (suc j)) refl (step_entry steps code together.beside (var, reaches i (suc j)) of_steps).0)
    by (inr rest) = of_others (Contains-append_cases (log_meanings code) (counter_meanings counter) (var, reaches i (suc j)) rest)

read_length : (names : List (ℕ × Meaning)) (clause : Clause) (read : List NamedLiteral) → named_clause names clause ≡ Some read → length clause ≡ length read
read_length names [] read h = none read h
  where
    none : (r : List NamedLiteral) → Some [] ≡ Some r → 0 ≡ length r
    none [] e = refl
    none (x ∷ r) e = cc
read_length names (l ∷ clause) read h =
    let parts = read_of names l clause read h in
    let rest = read_length names clause parts.rest parts.later in
    let all = ap length parts.whole in
    omega (arith, rest, all)

column_there : (steps : CodedSteps) (code : CodedLog) (counter : CounterState) (log : Log) (b : ℕ) (assumed : List Lit) → AreCodedTogether steps code counter → code.log ≡ log → 0 < length counter.inputs →
    ReadsAs (whole_meanings steps code counter) assumed (assumption_literals steps.net log steps.steps (Some b)) → b < length counter.columns
column_there steps code counter log b assumed together same some reads = by (length (fault_inputs steps.net log steps.steps)) refl
  where
    count : length counter.inputs ≡ length (fault_inputs steps.net log steps.steps)
    count =
        read_length (whole_meanings steps code counter) counter.inputs (fault_inputs steps.net code.log steps.steps) (together_one_naming steps code counter together).of_faults
        ∙ ap (λ (l : Log). length (fault_inputs steps.net l steps.steps)) same

    by : (m : ℕ) → length (fault_inputs steps.net log steps.steps) ≡ m → b < length counter.columns
    by zero none = absurd (omega (arith, some, count, none))
    by (suc m) is =
        let literal = no (reaches (suc m) (suc b)) in
        let asked : Contains (assumption_literals steps.net log steps.steps (Some b)) literal =
        Contains-append_right (guard_literals steps.net log) (at_most (length (fault_inputs steps.net log steps.steps)) b) literal
        (subst (λ (k : ℕ). Contains (at_most k b) literal) (sym is) (here_first literal [] literal refl)) in
        let found = read_here (whole_meanings steps code counter) assumed reads.read literal reads.by_name ((reads.same literal).1 asked) in
        reach_in_counter steps code counter together found.l.var (suc m) b
        (named_entry (whole_meanings steps code counter) found.l.var (reaches (suc m) (suc b)) (literal_named (whole_meanings steps code counter) found.l literal found.is))

-- ---- what is assumed is what network, log, n and the bound determine

code_same : (net : Net) (log : Log) (n columns : ℕ) → (question_built net log n columns).code ≡ (question_built net log n 0).code
code_same net log n zero = refl
code_same net log n (suc columns) = code_same net log n columns

inputs_same : (net : Net) (log : Log) (n columns : ℕ) → (question_built net log n columns).counter.inputs ≡ (question_built net log n 0).counter.inputs
inputs_same net log n zero = refl
inputs_same net log n (suc columns) = inputs_same net log n columns

-- a further column leaves the literals of those before
literal_stays : (counter : CounterState) (first k : ℕ) → k < length counter.columns → bound_literal (with_column counter first) k ≡ bound_literal counter k
literal_stays counter first k less =
    ap (λ (column : List ℕ). negative (var_at column (length counter.inputs - 1))) (get_or-append counter.columns (range_with_len first (length counter.inputs) ∷ []) [] k less)

literal_same : (net : Net) (log : Log) (n k more columns : ℕ) → columns ≡ more + (k + 1) → bound_literal (question_built net log n columns).counter k ≡ bound_literal (question_built net log n (k + 1)).counter k
literal_same net log n k zero columns is =
    let same : columns ≡ k + 1 = omega (arith, is) in
    ap (λ (c : ℕ). bound_literal (question_built net log n c).counter k) same
literal_same net log n k (suc more) zero is = absurd (omega (arith, is))
literal_same net log n k (suc more) (suc columns) is =
    literal_stays (question_built net log n columns).counter (question_built net log n columns).vars k (let count = columns_are_counted net log n columns in omega (arith, count, is))
    ∙ literal_same net log n k more columns (omega (arith, is))

bound_same : (net : Net) (log : Log) (n columns : ℕ) (bound : Option ℕ) → IfSome bound (λ k. k < columns) → bound_part (question_built net log n columns).counter bound ≡ bound_part (question_built net log n (columns_for bound)).counter bound
bound_same net log n columns None less = refl
bound_same net log n columns (Some k) less =
    ap (λ (l : Lit). l ∷ []) (literal_same net log n k (columns - (k + 1)) columns (omega (arith, less)))

assumed_same : {R : Type 0} (net : Net) (log : Log) (n : ℕ) (bound : Option ℕ) (parts : Parts R) (book : List BookEntry) (assumed : List Lit) → IsBuilt net log n parts book → HasBoundColumn parts.counter bound →
    assumed ≡ assumed_by parts.code.coded parts.counter (counted_bound parts.counter bound) → assumed ≡ question_assumed net log n bound
assumed_same net log n bound parts book assumed built column listed = listed ∙ ap (assumed_by parts.code.coded parts.counter) counted ∙ all
  where
    columns : ℕ
    columns = length parts.counter.columns

    counter_is : parts.counter ≡ (question_built net log n columns).counter
    counter_is = ap (λ (q : BuiltQuestion). q.counter) built.determined

    code_is : parts.code.coded ≡ (question_built net log n columns).code
    code_is = ap (λ (q : BuiltQuestion). q.code) built.determined

    counted : counted_bound parts.counter bound ≡ bound_within net log n bound
    counted = ap (λ (inputs : List Lit). if nat_eq (length inputs) 0 then None else bound) (ap (λ (c : CounterState). c.inputs) counter_is ∙ inputs_same net log n columns)

    there : IfSome (bound_within net log n bound) (λ k. k < columns)
    there = subst (λ (o : Option ℕ). IfSome o (λ k. k < columns)) counted column

    codes : parts.code.coded ≡ (question_within net log n bound).code
    codes = code_is ∙ code_same net log n columns ∙ sym (code_same net log n (columns_for (bound_within net log n bound)))

    all : assumed_by parts.code.coded parts.counter (bound_within net log n bound) ≡ question_assumed net log n bound
    all =
        ap (λ (c : CodedLog). assumed_by c parts.counter (bound_within net log n bound)) codes
        ∙ ap (λ (c : CounterState). assumed_by (question_within net log n bound).code c (bound_within net log n bound)) counter_is
        ∙ ap (λ (ls : List Lit). map (literal_by (read_meanings (question_within net log n bound).code)) (guard_literals (question_within net log n bound).code.net (question_within net log n bound).code.log) ++ ls)
        (bound_same net log n columns (bound_within net log n bound) there)

-- ---- the axioms with the columns for a bound are those of the formula

-- a column of no inputs says nothing
none_in_column : (counter : CounterState) (first : ℕ) → length counter.inputs ≡ 0 → next_clauses counter first ≡ []
none_in_column counter first none =
    ap (λ (count : ℕ). flat_map (λ i. place_clauses (input_at counter.inputs i) (column_before counter.columns (length counter.columns)) (range_with_len first (length counter.inputs)) i) (numbers_below count)) none

columns_alone : (net : Net) (log : Log) (n columns : ℕ) → length (question_built net log n 0).counter.inputs ≡ 0 → question_axioms net log n columns ≡ question_axioms net log n 0
columns_alone net log n zero none = refl
columns_alone net log n (suc columns) none =
    let before = question_built net log n columns in
    ap (λ (cs : List Clause). before.axioms ++ cs) (none_in_column before.counter before.vars (ap length (inputs_same net log n columns) ∙ none)) ∙ append-nil before.axioms ∙ columns_alone net log n columns none

vars_alone : (net : Net) (log : Log) (n columns : ℕ) → length (question_built net log n 0).counter.inputs ≡ 0 → (question_built net log n columns).vars ≡ (question_built net log n 0).vars
vars_alone net log n zero none = refl
vars_alone net log n (suc columns) none = omega (arith, vars_alone net log n columns none, ap length (inputs_same net log n columns), none)

-- so it doesn't matter whether the bound is counted
within_counted : (net : Net) (log : Log) (n : ℕ) (bound : Option ℕ) → question_axioms net log n (columns_for bound) ≡ (question_within net log n bound).axioms
within_counted net log n bound = by (nat_eq (length (question_built net log n 0).counter.inputs) 0) refl
  where
    by : (none : Bool) → nat_eq (length (question_built net log n 0).counter.inputs) 0 ≡ none → question_axioms net log n (columns_for bound) ≡ question_axioms net log n (columns_for (if none then None else bound))
    by true none = columns_alone net log n (columns_for bound) (grind (arith, nat_tests))
    by false some = refl

vars_counted : (net : Net) (log : Log) (n : ℕ) (bound : Option ℕ) → (question_built net log n (columns_for bound)).vars ≡ (question_within net log n bound).vars
vars_counted net log n bound = by (nat_eq (length (question_built net log n 0).counter.inputs) 0) refl
  where
    by : (none : Bool) → nat_eq (length (question_built net log n 0).counter.inputs) 0 ≡ none → (question_built net log n (columns_for bound)).vars ≡ (question_built net log n (columns_for (if none then None else bound))).vars
    by true none = vars_alone net log n (columns_for bound) (grind (arith, nat_tests))
    by false some = refl

-- ---- all of it

module _ {R : Type 0} (may : R → ℕ → Type 0) (gives : R → ℕ → ℕ → Type 0) (net : Net) (log : Log) (parts : Parts R) (book : List BookEntry) (bound : Option ℕ) (belong : BelongTo net log parts) (ready : AreReady may gives parts book)
    (e : HasEvidence net log parts book bound) where
  abbrev names : List (ℕ × Meaning)
  names = meanings_of_parts parts

  -- a bound that is counted has its column
  pub has_column : HasBoundColumn parts.counter bound
  has_column = by bound e.evidence.assumed e.evidence.posed.assumes (nat_eq (length parts.counter.inputs) 0) refl
    where
      by : (o : Option ℕ) (assumed : List Lit) → ReadsAs names assumed (assumption_literals net log parts.step.steps o) → (none : Bool) → nat_eq (length parts.counter.inputs) 0 ≡ none → IfSome (if none then None else o) (λ k. k < length parts.counter.columns)
      by o assumed reads true none = tt
      by None assumed reads false some = tt
      by (Some b) assumed reads false some =
          column_there parts.step parts.code.coded parts.counter log b assumed ready.coded.together belong.same_log (grind (arith, nat_tests))
          (subst (λ (net' : Net). ReadsAs names assumed (assumption_literals net' log parts.step.steps (Some b))) (sym belong.of_steps) reads)

  module _ (assumed : List Lit) (assumes : AreAssumed parts.counter parts (counted_bound parts.counter bound) assumed) (network : IsNetwork net) (valid : IsValidLog log) where
    posed : IsPosed names (axioms_of book) assumed net log parts.step.steps bound
    posed = subst (λ (net' : Net). IsPosed names (axioms_of book) assumed net' log parts.step.steps bound) belong.of_steps
        (posed_by parts.step parts.code.coded parts.counter parts.vars (axioms_of book) ready.coded bound assumed log (subst IsNetwork (sym belong.of_steps) network) valid belong.same_log assumes.assumptions)

    -- the split of the book by the final clause of the evidence
    abbrev refuted : HasLastFinal e.since e.evidence.assumed
    refuted = e.evidence.refuted

    abbrev first : List Clause
    first = question_axioms net log parts.step.steps 0

    abbrev before : List BookEntry
    before = map axiomatic first ++ mark 0 ∷ refuted.earlier

    split : book ≡ before ++ final refuted.clause refuted.hints ∷ (refuted.later ++ mark 1 ∷ [])
    split =
        e.whole
        ∙ append_assoc (map axiomatic first) (mark 0 ∷ e.since) (mark 1 ∷ [])
        ∙ ap (λ (es : List BookEntry). map axiomatic first ++ mark 0 ∷ es)
        (ap (λ (es : List BookEntry). es ++ mark 1 ∷ []) refuted.whole ∙ append_assoc refuted.earlier (final refuted.clause refuted.hints ∷ refuted.later) (mark 1 ∷ []))
        ∙ sym (append_assoc (map axiomatic first) (mark 0 ∷ refuted.earlier) (final refuted.clause refuted.hints ∷ (refuted.later ++ mark 1 ∷ [])))

    none_later : list_any is_final (refuted.later ++ mark 1 ∷ []) ≡ false
    none_later = list_any-append is_final refuted.later (mark 1 ∷ []) ∙ by (list_any is_final refuted.later) refuted.last
      where
        by : (b : Bool) → b ≡ false → (b || false) ≡ false
        by false h = refl
        by true h = cc

    negates : NegatesOnly assumed refuted.clause
    negates = negates_alike e.evidence.assumed assumed refuted.clause (same_literals names e.evidence.assumed assumed (assumption_literals net log parts.step.steps bound) posed.once e.evidence.posed.assumes posed.assumes) refuted.negates

    pub some_final : list_any is_final book ≡ true
    some_final = ap (list_any is_final) split ∙ has_final before refuted.clause refuted.hints (refuted.later ++ mark 1 ∷ [])

    pub ends_in : (last : ℕ) → IsLastFinal book last → EndsIn book assumed last
    ends_in last found =
        let same = last_found book before refuted.clause refuted.hints (refuted.later ++ mark 1 ∷ []) last found split none_later in
        record { before = found.before; clause = found.clause; hints = found.hints; later = found.later; whole = found.whole; numbered = found.numbered; negates = subst (NegatesOnly assumed) (sym same.same) negates }

    front_is : (last : ℕ) → (found : IsLastFinal book last) → front_to last book ≡ found.before ++ final found.clause found.hints ∷ []
    unfolding ends_in
    front_is last found = front_ends book assumed last (ends_in last found)

    axioms_before : axioms_of before ≡ first ++ axioms_of refuted.earlier
    axioms_before = filter_map-append axiom_of (map axiomatic first) (mark 0 ∷ refuted.earlier) ∙ ap (λ (cs : List Clause). cs ++ axioms_of refuted.earlier) (axioms_added [] first)

    pub is_refuted : (last : ℕ) (steps : List ProofStep) → IsLastFinal book last → IsBuilt net log parts.step.steps parts book → steps ≡ refutation_steps (front_to last book) assumed → check_proof (refuted_formula (front_to last book) assumed) steps ≡ Verified →
        IsVerifiedRefutation net log parts.step.steps bound book steps
    is_refuted last steps found built steps_are verified = record {
      last = last;
      ends = subst (λ (xs : List Lit). EndsIn book xs last) is (ends_in last found);
      meanings = names;
      posed = subst (λ (xs : List Lit). IsPosed names (axioms_of (front_to last book)) xs net log parts.step.steps bound) is
          (subst (λ (cs : List Clause). IsPosed names cs assumed net log parts.step.steps bound) (sym front)
          (posed_alike names (first ++ axioms_of refuted.earlier) (axioms_of book) e.evidence.assumed assumed net log parts.step.steps bound e.evidence.posed_before posed));
      listed = listed;
      steps_are = subst (λ (xs : List Lit). steps ≡ refutation_steps (front_to last book) xs) is steps_are;
      verified = subst (λ (cs : List Clause). check_proof (cs ++ unit_clauses (question_assumed net log parts.step.steps bound)) steps ≡ Verified) listed
          (subst (λ (xs : List Lit). check_proof (refuted_formula (front_to last book) xs) steps ≡ Verified) is verified);
      printable = can_be_printed most (front_to last book) (front_to last book) (length (front_to last book)) (question_assumed net log parts.step.steps bound) ((question_within net log parts.step.steps bound).axioms ++ unit_clauses (question_assumed net log parts.step.steps bound)) steps
          known (subst (HasValues most) is assumed_known) (take_whole (front_to last book)) (ap (λ (cs : List Clause). cs ++ unit_clauses (question_assumed net log parts.step.steps bound)) (sym listed))
          (subst (λ (xs : List Lit). steps ≡ refutation_steps (front_to last book) xs) is steps_are);
    }
      where
        most : ℕ
        most = (question_within net log parts.step.steps bound).vars

        vars_are : (built_within (question_built net log parts.step.steps 0) bound).vars ≡ most
        vars_are = ap (λ (question : BuiltQuestion). question.vars) (question_within_bound net log parts.step.steps bound) ∙ vars_counted net log parts.step.steps bound

        assumed_known : HasValues most assumed
        assumed_known = known_alike most e.evidence.assumed assumed (same_literals names assumed e.evidence.assumed (assumption_literals net log parts.step.steps bound) posed.once posed.assumes e.evidence.posed.assumes)
            (subst (λ n. HasValues n e.evidence.assumed) vars_are e.evidence.known_assumed)

        front_clauses : clauses_of (front_to last book) ≡ clauses_of (before ++ final refuted.clause refuted.hints ∷ [])
        front_clauses =
            let same = last_found book before refuted.clause refuted.hints (refuted.later ++ mark 1 ∷ []) last found split none_later in
            ap clauses_of (front_is last found) ∙ filter_map-append clause_of found.before (final found.clause found.hints ∷ []) ∙ (λ i. clauses_of (same.earlier i) ++ same.same i ∷ [])
            ∙ sym (filter_map-append clause_of before (final refuted.clause refuted.hints ∷ []))

        clauses_before : clauses_of (before ++ final refuted.clause refuted.hints ∷ []) ≡ first ++ clauses_of (refuted.earlier ++ final refuted.clause refuted.hints ∷ [])
        clauses_before =
            ap clauses_of (append_assoc (map axiomatic first) (mark 0 ∷ refuted.earlier) (final refuted.clause refuted.hints ∷ []))
            ∙ filter_map-append clause_of (map axiomatic first) (mark 0 ∷ (refuted.earlier ++ final refuted.clause refuted.hints ∷ []))
            ∙ ap (λ (cs : List Clause). cs ++ clauses_of (refuted.earlier ++ final refuted.clause refuted.hints ∷ [])) (clauses_added [] first)

        known : All (HasValues most) (clauses_of (front_to last book))
        known = All-from_recursion (HasValues most) (clauses_of (front_to last book))
            (subst (AllByRecursion (HasValues most)) (sym (front_clauses ∙ clauses_before)) (subst (λ n. AllByRecursion (HasValues n) (first ++ clauses_of (refuted.earlier ++ final refuted.clause refuted.hints ∷ []))) vars_are e.evidence.known))

        front : axioms_of (front_to last book) ≡ first ++ axioms_of refuted.earlier
        front =
            let same = last_found book before refuted.clause refuted.hints (refuted.later ++ mark 1 ∷ []) last found split none_later in
            ap axioms_of (front_is last found) ∙ filter_map-append axiom_of found.before (final found.clause found.hints ∷ []) ∙ append-nil (axioms_of found.before) ∙ ap axioms_of same.earlier ∙ axioms_before

        listed : axioms_of (front_to last book) ≡ (question_within net log parts.step.steps bound).axioms
        listed =
            front ∙ e.evidence.listed ∙ ap (λ (question : BuiltQuestion). question.axioms) (question_within_bound net log parts.step.steps bound)
            ∙ within_counted net log parts.step.steps bound

        is : assumed ≡ question_assumed net log parts.step.steps bound
        is = assumed_same net log parts.step.steps bound parts book assumed built has_column assumes.listed

-- ---- what was found

evidence_within : {R : Type 0} (net : Net) (log : Log) (parts : Parts R) (since book : List BookEntry) (bound : Option ℕ) → book ≡ map axiomatic (question_axioms net log parts.step.steps 0) ++ mark 0 ∷ since ++ mark 1 ∷ [] →
    IsEvidence (meanings_of_parts parts) (question_built net log parts.step.steps 0) since net log parts.step.steps bound → HasEvidence net log parts book bound
evidence_within net log parts since book bound whole evidence = record { since = since; whole = whole; evidence = evidence }

-- the book has evidence for the bound that it refutes
pub evidence_for : {R : Type 0} (net : Net) (log : Log) (n : ℕ) (parts : Parts R) (budget : ℕ) (begun : BuiltQuestion) (old book : List BookEntry) (found : Found) → parts.step.steps ≡ n → begun ≡ question_built net log n 0 →
    old ≡ map axiomatic (question_axioms net log n 0) → IsAnswered (meanings_of_parts parts) begun net log parts.step.steps budget old book found → HasEvidenceFor net log parts book found
evidence_for net log n parts budget begun old book found steps is_first is_old answered =
    by found (subst (λ (q : BuiltQuestion). IsAnswered (meanings_of_parts parts) q net log parts.step.steps budget (map axiomatic (question_axioms net log parts.step.steps 0)) book found) (is_first ∙ ap (λ k. question_built net log k 0) (sym steps))
    (subst (λ (o : List BookEntry). IsAnswered (meanings_of_parts parts) begun net log parts.step.steps budget o book found) (is_old ∙ ap (λ k. map axiomatic (question_axioms net log k 0)) (sym steps)) answered))
  where
    by : (f : Found) → IsAnswered (meanings_of_parts parts) (question_built net log parts.step.steps 0) net log parts.step.steps budget (map axiomatic (question_axioms net log parts.step.steps 0)) book f → HasEvidenceFor net log parts book f
    by (Explained best) a = (a.found.few, λ k is. evidence_within net log parts a.left.since book (Some k) a.left.whole (a.found.evidence k is))
    by Absent a = evidence_within net log parts a.left.since book None a.left.whole a.found.evidence
    by (Many best) a = evidence_within net log parts a.left.since book (Some MOST_FAULTS) a.left.whole a.found.evidence
    by (Undecided lo best) a = tt

pub ok_both : {A B : Type 0} (r : Result A B) (P Q S : A → Type 0) → ((a : A) → P a → Q a → S a) → IfOk r P → IfOk r Q → IfOk r S
ok_both (Ok a) P Q S f p q = f a p q
ok_both (Err e) P Q S f p q = tt
