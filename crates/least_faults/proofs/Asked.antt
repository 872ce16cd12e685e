-- What a question comes to: what it leaves in the book, and what its answer means.
use Rattle.std.proofs.Common.{◌≡◌, ◌≢◌, ◌∙◌, ℕ, ◌+◌, ◌<◌, ◌≤◌, inl, inr, Bool, true, false, List, [], ◌∷◌, ◌++◌, length, max, Option, None, Some, IfSome, IfNone, map, refl, sym, ap, subst, arith, Contains, IsTrue, append-nil, append_assoc}
use Rattle.std.specs.Prelude.{⊤}
use Rattle.std.proofs.lemmas.List.{append_cancel_left}
use Rattle.std.specs.List.{AllByRecursion, list_any, list_all}
use Rattle.card_counter.proofs.Exact.{counter_is_exact}
use Rattle.card_counter.specs.Counting.{true_count}
use Rattle.card_counter.specs.CounterState.{CounterState, counter_clauses, bound_literal}
use Rattle.des_base.proofs.Elements.{all_append, all_split, here_first, all_from as all_of}
use Rattle.des_net.specs.Network.{Net, IsNetwork}
use Rattle.least_faults.proofs.Assuming.{assumed_below}
use Rattle.least_faults.proofs.Below.{axioms_below}
use Rattle.least_faults.proofs.Entailing.{final_entailed}
use Rattle.least_faults.proofs.KnownVariables.{book_below, known_back}
use Rattle.least_faults.proofs.Posing.{poses}
use Rattle.least_faults.proofs.Putting.{axioms_with_learnt}
use Rattle.least_faults.proofs.Staying.{question_both, question_kept}
use Rattle.answers.specs.declared.found.Best.{Best}
use Rattle.least_faults.specs.declared.asking.Asked.{Asked}
use Rattle.least_faults.specs.declared.asking.Asked.TheVariants.{Explained, Refuted, Spent}
use Rattle.least_faults.specs.declared.parts.Parts.{Parts}
use Rattle.answers.specs.Explanations.{IsExplanation}
use Rattle.least_faults.specs.Asking.{AreAssumptions, bound_part, GoesOnReady, ArePut, HasAskedBy}
use Rattle.least_faults.specs.Columns.{built_within, columns_for}
use Rattle.least_faults.specs.Evidence.{IsPosed, is_final}
use Rattle.least_faults.specs.Growing.{KeepsQuestion}
use Rattle.least_faults.specs.Parts.{AreParts, AreReady}
use Rattle.question_clauses.proofs.Lists.{all_at}
use Rattle.log_encode.specs.CodedLog.{CodedLog}
use Rattle.log_order.specs.Log.{Log, IsValidLog}
use Rattle.proof_ledger.specs.Book.{BookEntry, axiomatic, learnt, final, mark, axioms_of, clauses_of, IsValidBook}
use Rattle.proof_ledger.specs.Fresh.{is_learnt}
use Rattle.prop_core.specs.Clauses.{Clause, HasValues, clause_true, literal_true, AllClausesTrue, AllLiteralsTrue}
use Rattle.prop_core.specs.declared.lit.Lit.{Lit}
use Rattle.run_decode.proofs.Decided.{refuted_is_decided}
use Rattle.run_decode.specs.Decided.{Entails}
use Rattle.run_decode.specs.Faithful.{IsWithin, IsFaithful}
use Rattle.run_decode.specs.Decoding.{IsTrueRun}
use Rattle.run_decode.specs.QuestionAxioms.{BuiltQuestion}
use Rattle.least_faults.proofs.Ranking.{still_ranked}
use Rattle.sat_solve.specs.Searching.{IsClosedByFinal, HasAxiomVars, IsSearched, HasPut, IsRefuted, IsSpent}
use Rattle.sat_solve.specs.Solving.{KeepsSize, SolverState}
use Rattle.sat_solve.specs.declared.answer.Answer.TheVariants as solver
use Rattle.std.proofs.lemmas.List.Elements.{Contains-append_left as append_left, Contains-append_right as append_right}
use Rattle.run_decode.specs.WholeNaming.{whole_meanings}
use Rattle.step_encode.specs.Coded.{CodedSteps}
use Rattle.sat_solve.proofs.Entries.{AreFinalsFor, IsLastFinalFor, last_final_for, learnt_no_final, no_final_in, none_counted, none_final, none_joined, put_finals, put_since, same_axioms}
use Rattle.sat_solve.specs.Leaving.{AddsAxioms}
use Rattle.sat_solve.proofs.Leaving.{searching_both, last_later, closed_last}

-- ---- what is put

-- the parts stay ready where their solver has searched
pub goes_by_search : {R : Type 0} (may : R → ℕ → Type 0) (gives : R → ℕ → ℕ → Type 0) (old parts : Parts R) (solver : SolverState R) (before after : ℕ) (book mid new : List BookEntry) → AreReady may gives parts mid → KeepsQuestion old parts book mid → AddsAxioms book mid → IsSearched mid new before after → solver.adopted ≡ clauses_of new →
    KeepsSize parts.solver solver → GoesOnReady may gives old (record parts { solver = solver }) book new before after
goes_by_search may gives old parts solver before after book mid new ready kept adds searched all same = record {
  ready = record {
    coded = subst (AreParts parts.step parts.code.coded parts.counter parts.vars) (sym same_now) ready.coded;
    known = searched.known ready.known;
    adopted_all = all;
    enough = subst (λ v. parts.vars ≤ v) (sym same.vars) ready.enough;
    ranked = still_ranked may gives parts.solver.order solver.order same.order ready.ranked;
  };
  kept = question_both old parts (record parts { solver = solver }) kept (question_kept parts parts.counter parts.vars solver mid new refl refl same.order.rank same_now);
  searching = searching_both book mid new before after adds searched ready.known;
}
  where
    same_now : axioms_of new ≡ axioms_of mid
    same_now = ap axioms_of searched.whole ∙ same_axioms mid searched.since searched.derived

-- ---- a model

pub axioms_true : (value : ℕ → Bool) (book : List BookEntry) → AllClausesTrue value (clauses_of book) → AllClausesTrue value (axioms_of book)
axioms_true value [] all = tt
axioms_true value (axiomatic clause ∷ book) all = (all.0, axioms_true value book all.1)
axioms_true value (learnt clause hints ∷ book) all = axioms_true value book all.1
axioms_true value (final clause hints ∷ book) all = axioms_true value book all.1
axioms_true value (mark number ∷ book) all = axioms_true value book all

-- what makes the book true makes the axioms true from which a search began
pub begun_true : (value : ℕ → Bool) (mid new : List BookEntry) (before after : ℕ) → IsSearched mid new before after → AllClausesTrue value (clauses_of new) → AllClausesTrue value (axioms_of mid)
begun_true value mid new before after searched all = subst (AllClausesTrue value) (ap axioms_of searched.whole ∙ same_axioms mid searched.since searched.derived) (axioms_true value new all)

-- a model of the axioms and the assumptions gives a run
pub true_run : (steps : CodedSteps) (code : CodedLog) (counter : CounterState) (vars : ℕ) (axioms : List Clause) (bound : Option ℕ) (assumed : List Lit) (value : ℕ → Bool) → AreParts steps code counter vars axioms →
    AreAssumptions code counter bound assumed → AllClausesTrue value axioms → AllLiteralsTrue value assumed → IsTrueRun steps code value
true_run steps code counter vars axioms bound assumed value parts assumptions all literals = record {
  guards = assumptions.guards;
  makes = record {
    stepped = parts.clauses.stepped;
    written = parts.clauses.written;
    step_code = parts.clauses.step_code;
    log_code = parts.clauses.log_code;
    guards_read = assumptions.read;
    makes = record {
      steps = all_of (λ c. IsTrue (clause_true value c)) parts.clauses.stepped (λ clause in'. all_at (λ c. IsTrue (clause_true value c)) axioms all clause ((parts.clauses.same clause).1 (inl in')));
      log_true = record {
        clauses = all_of (λ c. IsTrue (clause_true value c)) parts.clauses.written (λ clause in'. all_at (λ c. IsTrue (clause_true value c)) axioms all clause ((parts.clauses.same clause).1 (inr (inl in'))));
        guards = all_of (λ l. IsTrue (literal_true value l)) assumptions.guards
            (λ l in'. all_at (λ l'. IsTrue (literal_true value l')) assumed literals l (subst (λ xs. Contains xs l) (sym assumptions.whole) (append_left assumptions.guards (bound_part counter bound) l in')));
      };
    };
  };
}

-- ---- what is answered

module _ (steps : CodedSteps) (code : CodedLog) (counter : CounterState) (vars : ℕ) (net : Net) (log : Log) (mid : List BookEntry) (parts : AreParts steps code counter vars (axioms_of mid))
    (of_net : steps.net ≡ net) (network : IsNetwork net) (valid : IsValidLog log) (same : code.log ≡ log) (bound : Option ℕ) (assumed : List Lit) (assumptions : AreAssumptions code counter bound assumed)
    (old new : List BookEntry) (before after : ℕ) (adds : AddsAxioms old mid) (searched : IsSearched mid new before after) (known : HasAxiomVars mid) (begun : BuiltQuestion) (at_first : begun.axioms ≡ axioms_of old)
    (wide : length counter.columns ≡ max (length begun.counter.columns) (columns_for bound)) (listed : axioms_of mid ≡ (built_within begun bound).axioms)
    (counted : vars ≡ (built_within begun bound).vars) where
  now_axioms : axioms_of new ≡ axioms_of mid
  now_axioms = ap axioms_of searched.whole ∙ same_axioms mid searched.since searched.derived

  -- the variables are those of the question with the columns for the bound
  axioms_known : AllByRecursion (HasValues (built_within begun bound).vars) (axioms_of mid)
  axioms_known = subst (λ n. AllByRecursion (HasValues n) (axioms_of mid)) counted (axioms_below steps code counter vars (axioms_of mid) parts)

  all_known : AllByRecursion (HasValues (built_within begun bound).vars) (clauses_of new)
  all_known = book_below (built_within begun bound).vars new (subst (AllByRecursion (HasValues (built_within begun bound).vars)) (sym now_axioms) axioms_known) (searched.known known)

  no_final : list_all is_learnt searched.since ≡ true → list_any is_final (map axiomatic adds.axioms ++ searched.since) ≡ false
  no_final all_learnt = none_joined (map axiomatic adds.axioms) searched.since (none_final adds.axioms) (learnt_no_final searched.since all_learnt)

  -- without a bound no axiom is added
  learnt_alone : (b : Option ℕ) → IfNone b (adds.axioms ≡ []) → list_all is_learnt searched.since ≡ true → IfNone b (list_all is_learnt (map axiomatic adds.axioms ++ searched.since) ≡ true)
  learnt_alone None none all_learnt = ap (λ axioms. list_all is_learnt (map axiomatic axioms ++ searched.since)) none ∙ all_learnt
  learnt_alone (Some k) none all_learnt = tt

  if_none : (b : Option ℕ) (P Q : Type 0) → (P → Q) → IfNone b P → IfNone b Q
  if_none None P Q f p = f p
  if_none (Some k) P Q f p = tt

  -- where nothing is refuted
  put_learnt : (asked : Asked) → IfNone bound (adds.axioms ≡ []) → list_all is_learnt searched.since ≡ true → ArePut code counter bound (map axiomatic adds.axioms ++ searched.since) asked
  put_learnt asked none all_learnt = record {
    finals = λ clause hints in'. absurd (no_final_in (map axiomatic adds.axioms ++ searched.since) clause hints (no_final all_learnt) in');
    few = (let none = none_counted (map axiomatic adds.axioms ++ searched.since) (no_final all_learnt) in omega (arith, none));
    none = λ not. no_final all_learnt;
    unbounded = if_none bound (list_all is_learnt (map axiomatic adds.axioms ++ searched.since) ≡ true) (asked ≢ Refuted → list_all is_learnt (map axiomatic adds.axioms ++ searched.since) ≡ true) (λ p not. p) (learnt_alone bound none all_learnt);
  }

  pub asked_spent : IfNone bound (adds.axioms ≡ []) → HasPut mid new solver.Spent → IsSpent new assumed after → HasAskedBy code counter begun net log steps.steps bound old new before after Spent
  asked_spent none put spent = record {
    searching = searching_both old mid new before after adds searched known;
    columns = wide;
    known = all_known;
    put = put_learnt Spent none (put_since mid new searched.since solver.Spent searched.whole put);
    means = record { nothing = spent.nothing; assumed = assumed; assumptions = assumptions; clashes = spent.clashes };
  }

  -- ---- an explanation

  -- no more inputs are true than the bound says
  few_true : (value : ℕ → Bool) (k : ℕ) → k < length counter.columns → AllClausesTrue value (axioms_of mid) → IsTrue (literal_true value (bound_literal counter k)) → true_count value counter.inputs ≤ k
  few_true value k less axioms within =
      ((counter_is_exact counter parts.together.counted).bounded k less value).0
      (value, (λ var other. refl), (all_of (λ c. IsTrue (clause_true value c)) (counter_clauses counter) (λ clause in'. all_at (λ c. IsTrue (clause_true value c)) (axioms_of mid) axioms clause ((parts.clauses.same clause).1 (inr (inr in')))), within))

  is_within : (value : ℕ → Bool) (b : Option ℕ) (xs : List Lit) → xs ≡ assumptions.guards ++ bound_part counter b → IfSome b (λ k. k < length counter.columns) → AllClausesTrue value (axioms_of mid) → AllLiteralsTrue value xs →
      (faults : ℕ) → faults ≡ true_count value counter.inputs → IsWithin b faults
  is_within value None xs whole column axioms literals faults count = tt
  is_within value (Some k) xs whole column axioms literals faults count =
      let there = append_right assumptions.guards (bound_literal counter k ∷ []) (bound_literal counter k) (here_first (bound_literal counter k) [] (bound_literal counter k) refl) in
      let within = all_at (λ l. IsTrue (literal_true value l)) xs literals (bound_literal counter k) (subst (λ ys. Contains ys (bound_literal counter k)) (sym whole) there) in
      let few = few_true value k column axioms within in
      omega (arith, few, count)

  some_input : (value : ℕ → Bool) (inputs : List Lit) → 0 < true_count value inputs → 0 < length inputs
  some_input value [] more = more
  some_input value (l ∷ inputs) more = omega arith

  pub asked_explained : (value : ℕ → Bool) (best : Best) → IfNone bound (adds.axioms ≡ []) → HasPut mid new solver.Sat → AllClausesTrue value (axioms_of mid) → AllLiteralsTrue value assumed →
      IsExplanation net log steps.steps best → best.faults ≡ true_count value counter.inputs → HasAskedBy code counter begun net log steps.steps bound old new before after (Explained best)
  asked_explained value best none put axioms literals given count = record {
    searching = searching_both old mid new before after adds searched known;
    columns = wide;
    known = all_known;
    put = put_learnt (Explained best) none (put_since mid new searched.since solver.Sat searched.whole put);
    means = record {
      given = given;
      within = is_within value bound assumed assumptions.whole assumptions.column axioms literals best.faults count;
      counted = λ more. some_input value counter.inputs (omega (arith, more, count));
    };
  }

  -- ---- a refusal

  refused : Refuted ≢ Refuted → ⊥
  refused not = not refl

  pub asked_refuted : (number : ℕ) → HasPut mid new (solver.Unsat number) → IsRefuted new assumed number → IsValidBook new → HasAskedBy code counter begun net log steps.steps bound old new before after Refuted
  asked_refuted number put refuted whole = record {
    searching = searching_both old mid new before after adds searched known;
    columns = wide;
    known = all_known;
    put = record {
      finals = λ clause hints in'. (assumed, assumptions, finals.negate clause hints in');
      few = finals.few;
      none = λ not. absurd (refused not);
      unbounded = if_none bound (⊤) (Refuted ≢ Refuted → list_all is_learnt (map axiomatic adds.axioms ++ searched.since) ≡ true) (λ p not. absurd (refused not)) (given bound);
    };
    means = record {
      assumed = assumed;
      assumptions = assumptions;
      refuted = record {
        refuted = last_later (map axiomatic adds.axioms) searched.since assumed (closed_last searched.since assumed closed last.negates);
        listed = before_it ∙ listed;
        known = all_append (HasValues most) begun.axioms (clauses_of (earlier ++ final closed.clause closed.hints ∷ []))
            (all_split (HasValues most) begun.axioms (axioms_of earlier) (subst (AllByRecursion (HasValues most)) (sym before_it) axioms_known)).0
            (known_back most old (earlier ++ final closed.clause closed.hints ∷ []) (subst (λ es. AllByRecursion (HasValues most) (clauses_of es)) ((searching_both old mid new before after adds searched known).whole ∙ ap (λ es. old ++ es) closes) all_known));
        known_assumed = subst (λ n. HasValues n assumed) counted (assumed_below steps code counter vars (axioms_of mid) (axioms_of mid) assumed steps.net log steps.steps bound parts posed);
        faithful = subst (λ axioms. IsFaithful axioms assumed net log steps.steps bound) (sym before_it) faithful;
      };
      decided = refuted_is_decided net log steps.steps bound (axioms_of mid) assumed closed.clause faithful
          (subst (λ axioms. Entails axioms closed.clause) now_axioms (final_entailed new closed.clause closed.hints whole last.there)) last.negates;
    };
  }
    where
      closed : IsClosedByFinal searched.since
      closed = put_since mid new searched.since (solver.Unsat number) searched.whole put

      last : IsLastFinalFor assumed new searched.since closed
      last = last_final_for assumed mid new searched.since number searched.whole closed refuted

      finals : AreFinalsFor assumed (map axiomatic adds.axioms ++ searched.since)
      finals = put_finals assumed [] mid new (map axiomatic adds.axioms) searched.since after (solver.Unsat number) (none_final adds.axioms) searched.whole closed refuted

      most : ℕ
      most = (built_within begun bound).vars

      earlier : List BookEntry
      earlier = map axiomatic adds.axioms ++ closed.before

      closes : map axiomatic adds.axioms ++ searched.since ≡ earlier ++ final closed.clause closed.hints ∷ []
      closes = ap (λ xs. map axiomatic adds.axioms ++ xs) closed.whole ∙ sym (append_assoc (map axiomatic adds.axioms) closed.before (final closed.clause closed.hints ∷ []))

      before_it : begun.axioms ++ axioms_of (map axiomatic adds.axioms ++ closed.before) ≡ axioms_of mid
      before_it = ap (λ cs. cs ++ axioms_of (map axiomatic adds.axioms ++ closed.before)) at_first ∙ axioms_with_learnt old mid (map axiomatic adds.axioms) closed.before adds.more closed.all_learnt

      posed : IsPosed (whole_meanings steps code counter) (axioms_of mid) assumed steps.net log steps.steps bound
      posed = poses steps code counter vars (axioms_of mid) bound assumed parts assumptions log (subst IsNetwork (sym of_net) network) valid same

      faithful : IsFaithful (axioms_of mid) assumed net log steps.steps bound
      faithful = subst (λ net'. IsFaithful (axioms_of mid) assumed net' log steps.steps bound) of_net
          posed.faithful

      given : (b : Option ℕ) → IfNone b ⊤
      given None = tt
      given (Some k) = tt

-- where the book stayed as it was, no axiom was added
pub none_added : (bound : Option ℕ) (old mid : List BookEntry) → (adds : AddsAxioms old mid) → IfNone bound (mid ≡ old) → IfNone bound (adds.axioms ≡ [])
none_added (Some k) old mid adds same = tt
none_added None old mid adds same = empty adds.axioms (append_cancel_left old (map axiomatic adds.axioms) [] (sym adds.more ∙ same ∙ sym (append-nil old)))
  where
    empty : (clauses : List Clause) → map axiomatic clauses ≡ [] → clauses ≡ []
    empty [] is = refl
    empty (c ∷ clauses) is = cc
