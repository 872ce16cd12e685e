-- What a question about an event comes to, by the answer of the solver; and what it is between its marks.
use Rattle.std.proofs.Common.{◌≡◌, ◌↔◌, ◌∙◌, inl, inr, ℕ, ◌<◌, ◌≤◌, Bool, true, List, [], ◌∷◌, ◌++◌, length, map, Result, Ok, Err, IfOk, refl, sym, ap, subst, arith, Contains, IsTrue, count_by}
use Rattle.std.proofs.lemmas.List.Elements.{Contains-append_right as append_right}
use Rattle.card_counter.specs.Counting.{true_count}
use Rattle.des_base.proofs.Elements.{all_from as all_of, all_split}
use Rattle.des_net.specs.Network.{Net, IsNetwork}
use Rattle.fault_verdicts.proofs.Asking.{HasPosed, has_posed}
use Rattle.fault_verdicts.proofs.Events.{few_inputs_true, run_has, true_run_of}
use Rattle.fault_verdicts.proofs.Going.{belong_on, ready_after_search}
use Rattle.fault_verdicts.proofs.Judged.{asked_beside, open_found, possible_found, refuted_found}
use Rattle.fault_verdicts.specs.Asked.{IsPosedOf, some_step_clauses}
use Rattle.fault_verdicts.specs.Judged.{IsBestRun, IsJudged, IsVerdict, IsVerdictOpenAtMost, IsQuestionAbout, NegatesAsked}
use Rattle.fault_verdicts.specs.Judging.{AreAssumedOf, IsSolvedAbout, IsSaidBy, IsVerdictShown, KeepsStepsAndLog, bound_for, verdict_of, EndsWithoutVerdict}
use Rattle.answers.specs.declared.verdict.Verdict.{Verdict}
use Rattle.answers.specs.declared.verdict.Verdict.TheVariants.{Possible, Open}
use Rattle.least_faults.proofs.Asked.{axioms_true}
use Rattle.least_faults.proofs.Entailing.{final_entailed}
use Rattle.sat_solve.proofs.Leaving.{searching_both, leaves_searched, leaves_both, leaves_open, leaves_closed}
use Rattle.sat_solve.specs.Leaving.{IsSearching, AddsAxioms}
use Rattle.least_faults.specs.Parts.{BelongTo}
use Rattle.least_faults.specs.declared.parts.Parts.{Parts}
use Rattle.question_clauses.proofs.Lists.{all_at}
use Rattle.log_order.specs.Log.{Log, IsValidLog}
use Rattle.log_order.specs.Order.{least_order}
use Rattle.proof_ledger.specs.Book.{BookEntry, axiomatic, final, mark, axioms_of, clauses_of, IsValidBook}
use Rattle.proof_ledger.specs.Fresh.{is_learnt, AreFresh}
use Rattle.prop_core.specs.Clauses.{clause_true, literal_true, value_in, AllClausesTrue, AllLiteralsTrue, NegatesOnly}
use Rattle.prop_core.specs.declared.lit.Lit.{Lit}
use Rattle.replay.specs.Explanation.{Explains, faults_of}
use Rattle.replay.specs.Matching.{IsWellMatched, order_of}
use Rattle.replay.specs.Traced.{word_of}
use Rattle.replay.specs.declared.run.RunStep.{RunStep}
use Rattle.run_decode.specs.Decoding.{IsTrueRun, decoded_run}
use Rattle.run_decode.specs.RunNaming.{AreFalseLiterals, truth_of}
use Rattle.sat_solve.specs.Searching.{HasPut, IsAnswer, IsModel, IsSearched}
use Rattle.sat_solve.specs.Solving.{KeepsSize, SolverState}
use Rattle.sat_solve.specs.declared.answer.Answer.{Answer}
use Rattle.sat_solve.specs.declared.answer.Answer.TheVariants.{Sat, Unsat, Spent}
use Rattle.step_encode.specs.Coded.{CodedSteps, code_grid}
use Rattle.step_encode.specs.FaultInputs.{fault_literals}
use Rattle.proof_ledger.proofs.AxiomLists.{marked_axioms, marked_clauses}
use Rattle.sat_solve.proofs.Entries.{AreFinalsFor, last_final_for, none_final, put_finals, put_since}

-- ---- what is true of a model

module _ {R : Type 0} (may : R → ℕ → Type 0) (gives : R → ℕ → ℕ → Type 0) (parts : Parts R) (book : List BookEntry) (k e : ℕ) (there : Bool) (assumed : List Lit) (are : AreAssumedOf may gives parts book k e there assumed) (value : ℕ → Bool)
    (axioms : AllClausesTrue value (axioms_of book)) (literals : AllLiteralsTrue value assumed) where
  own_true : AllClausesTrue value are.ready.own
  own_true = all_of (λ c. IsTrue (clause_true value c)) are.ready.own (λ clause in'. all_at (λ c. IsTrue (clause_true value c)) (axioms_of book) axioms clause ((are.ready.both clause).1 (inl in')))

  riders_true : AllClausesTrue value (some_step_clauses (code_grid parts.step) are.made)
  riders_true = all_of (λ c. IsTrue (clause_true value c)) (some_step_clauses (code_grid parts.step) are.made) (λ clause in'. all_at (λ c. IsTrue (clause_true value c)) (axioms_of book) axioms clause ((are.ready.both clause).1 (inr in')))

  parts_true : AllLiteralsTrue value are.guards × AllLiteralsTrue value are.further
  parts_true = all_split (λ l. IsTrue (literal_true value l)) are.guards are.further (subst (AllLiteralsTrue value) are.whole literals)

  pub assumed_true_run : IsTrueRun parts.step parts.code.coded value
  assumed_true_run = true_run_of parts.step parts.code.coded parts.counter are.ready.own (bound_for parts.counter k) are.guards value are.ready.clauses are.within own_true parts_true.0

  few_faults : true_count value parts.counter.inputs ≤ k
  few_faults = few_inputs_true parts.step parts.code.coded parts.counter are.ready.own k (length parts.counter.inputs) are.guards value refl are.ready.beside.coded.together are.ready.clauses are.within own_true parts_true.0

-- ---- what the solver says

-- axioms, and then what was put for the answer
finals_by : (old mid new : List BookEntry) (before after : ℕ) (values : List Bool) (assumed : List Lit) (adds : AddsAxioms old mid) (searched : IsSearched mid new before after) (answer : Answer) → HasPut mid new answer → IsAnswer values new assumed after answer → AreFinalsFor assumed (map axiomatic adds.axioms ++ searched.since)
finals_by old mid new before after values assumed adds searched answer put says =
    put_finals assumed values mid new (map axiomatic adds.axioms) searched.since after answer (none_final adds.axioms) searched.whole (put_since mid new searched.since answer searched.whole put) says

said_by : (old mid new : List BookEntry) (before after : ℕ) (values : List Bool) (assumed : List Lit) (adds : AddsAxioms old mid) (searched : IsSearched mid new before after) (answer : Answer) → HasPut mid new answer → IsAnswer values new assumed after answer → IsSaidBy values (map axiomatic adds.axioms ++ searched.since) new assumed after answer
said_by old mid new before after values assumed adds searched Sat put is = is
said_by old mid new before after values assumed adds searched (Unsat number) put is =
    let closed = put_since mid new searched.since (Unsat number) searched.whole put in
    let last = last_final_for assumed mid new searched.since number searched.whole closed is in
    record { clause = closed.clause; hints = closed.hints; there = append_right (map axiomatic adds.axioms) searched.since (final closed.clause closed.hints) last.put; negates = last.negates }
said_by old mid new before after values assumed adds searched Spent put is = is

pub solved : {R E : Type 0} (may : R → ℕ → Type 0) (gives : R → ℕ → ℕ → Type 0) (parts : Parts R) (solver : SolverState R) (k e : ℕ) (there : Bool) (assumed slice : List Lit) (old mid new : List BookEntry) (before after : ℕ) (result : Result Answer E) → AreAssumedOf may gives parts mid k e there assumed →
    slice ≡ assumed → AddsAxioms old mid → IsSearched mid new before after → solver.adopted ≡ clauses_of new → KeepsSize parts.solver solver → IfOk result (HasPut mid new) → IfOk result (IsAnswer solver.assignment new slice after) →
    IfOk result (IsSolvedAbout may gives (record parts { solver = solver }) k e there old new before after)
solved may gives parts solver k e there assumed slice old mid new before after (Err error) are same adds searched adopted kept put is = tt
solved may gives parts solver k e there assumed slice old mid new before after (Ok answer) are same adds searched adopted kept put is = record {
  assumed = assumed;
  are = record {
    made = are.made;
    ready = ready_after_search may gives parts solver before after mid new are.made are.ready searched adopted kept.vars kept.order;
    guards = are.guards;
    within = are.within;
    further = are.further;
    about = are.about;
    whole = are.whole;
  };
  searching = searching_both old mid new before after adds searched are.ready.beside.known;
  finals = (finals_by old mid new before after solver.assignment assumed adds searched answer put (subst (λ (xs : List Lit). IsAnswer solver.assignment new xs after answer) same is)).negate;
  few = (finals_by old mid new before after solver.assignment assumed adds searched answer put (subst (λ (xs : List Lit). IsAnswer solver.assignment new xs after answer) same is)).few;
  says = said_by old mid new before after solver.assignment assumed adds searched answer put (subst (λ (xs : List Lit). IsAnswer solver.assignment new xs after answer) same is);
}

-- ---- what it shows

module _ {R : Type 0} (may : R → ℕ → Type 0) (gives : R → ℕ → ℕ → Type 0) (begun parts : Parts R) (net : Net) (log : Log) (k e : ℕ) (first : List RunStep) (there : Bool) (old new : List BookEntry) (before after : ℕ) (answer : Answer)
    (goes : KeepsStepsAndLog 1 begun parts) (belong : BelongTo net log begun) (best : IsBestRun net log begun.step.steps k first) (told : there ≡ true ↔ Contains (word_of first) e) (network : IsNetwork net) (valid : IsValidLog log) (known : e < length net.events)
    (is : IsSolvedAbout may gives parts k e there old new before after answer) where
  belong_now : BelongTo net log parts
  belong_now = belong_on net log 1 begun parts goes belong

  best_now : IsBestRun net log parts.step.steps k first
  best_now = subst (λ (s : CodedSteps). IsBestRun net log s.steps k first) (sym goes.step) best

  has : HasPosed (axioms_of new) is.assumed net log parts.step.steps k e there
  has = has_posed may gives parts new net log k e there is.assumed is.are belong_now network valid known

  abbrev asked_now : IsQuestionAbout (axioms_of new) net log parts.step.steps k e first
  asked_now = record { question = has.question; asked = asked_beside first e has.question there told has.is_for; assumed = is.assumed; posed = has.posed }

  -- without a verdict
  pub shown_unanswered : EndsWithoutVerdict net log parts.step.steps k e first old new
  shown_unanswered = record { since = is.searching.since; whole = is.searching.whole; finals = λ clause hints in'. (asked_now, is.finals clause hints in'); few = is.few }

  with_verdict : (verdict : Verdict) → IsVerdict (axioms_of new) (clauses_of new) old is.searching.since net log parts.step.steps k e before first verdict → IsVerdictShown net log parts.step.steps k e first before old new verdict
  with_verdict verdict found = record { asked = asked_now; put = leaves_searched (NegatesOnly is.assumed) 1 before after old new is.searching is.finals is.few; found = found }

  pub shown_refuted : (number : ℕ) → answer ≡ Unsat number → IsValidBook new → IsVerdictShown net log parts.step.steps k e first before old new (verdict_of there)
  shown_refuted number unsat book =
      let last = subst (IsSaidBy parts.solver.assignment is.searching.since new is.assumed after) unsat is.says in
      let in' = subst (λ xs. Contains xs (final last.clause last.hints)) (sym is.searching.whole) (append_right old is.searching.since (final last.clause last.hints) last.there) in
      with_verdict (verdict_of there) (refuted_found (axioms_of new) (clauses_of new) old is.searching.since net log parts.step.steps k e before first there is.assumed best_now last (final_entailed new last.clause last.hints book in') has)

  pub shown_open : answer ≡ Spent → IsVerdictShown net log parts.step.steps k e first before old new Open
  shown_open none =
      let spent = subst (IsSaidBy parts.solver.assignment is.searching.since new is.assumed after) none is.says in
      let paid = is.searching.paid in
      let nothing = spent.nothing in
      let all : count_by is_learnt is.searching.since ≡ before = omega (arith, paid, nothing) in
      with_verdict Open (open_found (axioms_of new) (clauses_of new) old is.searching.since net log parts.step.steps k e before first there is.assumed told (subst (AreFresh old is.searching.since) all is.searching.fresh) has spent.clashes)

  -- ---- of a model

  module _ (values : List Bool) (same : values ≡ parts.solver.assignment) (sat : answer ≡ Sat) where
    model : IsModel values new is.assumed
    model = subst (λ (vs : List Bool). IsModel vs new is.assumed) (sym same) (subst (IsSaidBy parts.solver.assignment is.searching.since new is.assumed after) sat is.says)

    axioms : AllClausesTrue (value_in values) (axioms_of new)
    axioms = axioms_true (value_in values) new model.clauses

    pub shown_true_run : IsTrueRun parts.step parts.code.coded (value_in values)
    shown_true_run = assumed_true_run may gives parts new k e there is.assumed is.are (value_in values) axioms model.assumptions

    -- a run that differs
    pub shown_possible : (other : List RunStep) → IsWellMatched net log other → Explains net log parts.step.steps (word_of other) (order_of log other) →
        ((false_lits : List Lit) → AreFalseLiterals parts.code.coded false_lits → faults_of net (word_of other) (order_of log other) ≡ true_count (value_in values) (fault_literals net (code_grid parts.step) ++ false_lits)) →
        other ≡ decoded_run net log (truth_of parts.step parts.code.coded (value_in values)) (least_order (length log.alarms) log.pairs) parts.step.steps →
        IsVerdictShown net log parts.step.steps k e first before old new (Possible other)
    shown_possible other matched explains faults run =
        let value = value_in values in
        let grid = code_grid parts.step in
        let inputs = is.are.ready.beside.coded.together.inputs in
        let counted = faults inputs.false_lits inputs.read ∙ ap (λ (m : Net). true_count value (fault_literals m grid ++ inputs.false_lits)) (sym belong_now.of_steps) ∙ ap (true_count value) (sym inputs.whole) in
        let few = few_faults may gives parts new k e there is.assumed is.are value axioms model.assumptions in
        with_verdict (Possible other)
        (possible_found (axioms_of new) (clauses_of new) old is.searching.since net log parts.step.steps k e before first other there grid is.are.made is.are.further value best_now told is.are.about
        (riders_true may gives parts new k e there is.assumed is.are value axioms model.assumptions) (parts_true may gives parts new k e there is.assumed is.are value axioms model.assumptions).1 refl
        (run_has net log parts.step parts.code.coded value other network valid belong_now shown_true_run run e known) matched explains (omega (arith, counted, few)))

-- ---- between the marks

pub judged : (net : Net) (log : Log) (n k e budget : ℕ) (first : List RunStep) (old opened asked new : List BookEntry) (verdict : Verdict) → opened ≡ old ++ mark 0 ∷ [] → new ≡ asked ++ mark 1 ∷ [] → IsVerdictShown net log n k e first budget opened asked verdict →
    IsJudged net log n k e budget first old new verdict
judged net log n k e budget first old opened asked new verdict begins closes is = record {
  asked = record {
    question = is.asked.question;
    asked = is.asked.asked;
    assumed = is.asked.assumed;
    posed = subst (λ axioms. IsPosedOf axioms is.asked.assumed net log n k e is.asked.question) (sym (ap axioms_of closes ∙ marked_axioms asked 1)) is.asked.posed;
  };
  left = leaves_closed (NegatesOnly is.asked.assumed) (NegatesOnly is.asked.assumed) 1 budget old opened asked new begins closes (λ clause negates. negates) is.put;
  found = subst (λ axioms. IsVerdict axioms (clauses_of new) (old ++ mark 0 ∷ []) is.put.since net log n k e budget first verdict) (sym (ap axioms_of closes ∙ marked_axioms asked 1))
      (subst (λ clauses. IsVerdict (axioms_of asked) clauses (old ++ mark 0 ∷ []) is.put.since net log n k e budget first verdict) (sym (ap clauses_of closes ∙ marked_clauses asked 1))
      (subst (λ b. IsVerdict (axioms_of asked) (clauses_of asked) b is.put.since net log n k e budget first verdict) begins is.found));
}

-- ---- without a verdict

-- where there is one that can't be closed
pub unanswered_shown : (net : Net) (log : Log) (n k e budget : ℕ) (first : List RunStep) (old new : List BookEntry) (verdict : Verdict) → IsVerdictShown net log n k e first budget old new verdict → EndsWithoutVerdict net log n k e first old new
unanswered_shown net log n k e budget first old new verdict is = record { since = is.put.since; whole = is.put.whole; finals = λ clause hints in'. (is.asked, is.put.finals clause hints in'); few = is.put.few }

-- behind the opening mark the question is left open
pub left_open : (net : Net) (log : Log) (n k e budget left : ℕ) (first : List RunStep) (old opened asked : List BookEntry) → opened ≡ old ++ mark 0 ∷ [] → IsSearching opened asked budget left → EndsWithoutVerdict net log n k e first opened asked → IsVerdictOpenAtMost net log n k e budget first old asked
left_open net log n k e budget left first old opened asked begins searching is =
    let negates = NegatesAsked (axioms_of asked) net log n k e first in
    inr (leaves_open negates 1 budget old opened asked begins (leaves_both negates 1 budget left opened asked searching is))
