-- What is assumed of an event poses its question, over variables that were made and without contradiction.
use Rattle.std.proofs.Common.{◌≡◌, ◌∙◌, ℕ, zero, suc, ◌<◌, ◌≤◌, Bool, true, false, List, [], ◌++◌, length, None, Some, refl, sym, ap, subst, arith}
use Rattle.std.proofs.lemmas.List.Elements.{All-append, All-cons, All-nil}
use Rattle.card_counter.proofs.CodeLemmas.{read_length}
use Rattle.card_counter.specs.CounterState.{CounterState, positive}
use Rattle.des_base.specs.Lists.{numbers_below}
use Rattle.des_net.specs.Network.{Net, IsNetwork}
use Rattle.fault_verdicts.proofs.Drawing.{events_are_posed, map_map}
use Rattle.fault_verdicts.proofs.Ready.{gridded, signed_below}
use Rattle.fault_verdicts.specs.Asked.{Question, without, with_event, IsPosedOf, no_step_literals}
use Rattle.fault_verdicts.specs.Judging.{AreAssumedOf, IsAbout, at_most_of, bound_for, event_signed}
use Rattle.fault_verdicts.specs.Ready.{AreReadyWith}
use Rattle.fault_verdicts.specs.Telling.{AsksBeside, PosesEvents}
use Rattle.least_faults.proofs.Assuming.{compatible}
use Rattle.least_faults.proofs.Below.{read_below, room_names_below}
use Rattle.least_faults.proofs.Posing.{clauses_ask}
use Rattle.least_faults.proofs.Solved.{CanSearch}
use Rattle.least_faults.specs.Asking.{AreAssumptions}
use Rattle.least_faults.specs.Parts.{BelongTo, meanings_of_parts}
use Rattle.least_faults.specs.declared.parts.Parts.{Parts}
use Rattle.question_clauses.proofs.Lists.{all_at}
use Rattle.question_clauses.specs.LogClauses.{guard_literals}
use Rattle.log_encode.specs.CodedLog.{CodedLog}
use Rattle.log_order.specs.Log.{Log, IsValidLog}
use Rattle.proof_ledger.specs.Book.{BookEntry, axioms_of}
use Rattle.prop_core.specs.Clauses.{Clause, HasValues, negation}
use Rattle.prop_core.specs.VariableNames.{ReadsAs}
use Rattle.prop_core.specs.declared.grid.Grid.{Grid}
use Rattle.prop_core.specs.declared.lit.Lit.{Lit}
use Rattle.run_decode.proofs.WholeNames.{together_one_naming}
use Rattle.run_decode.specs.Drawn.{at_most, fault_inputs}
use Rattle.run_decode.specs.Question.{Asks}
use Rattle.run_decode.specs.WholeNaming.{AreClausesOf, AreCodedTogether, whole_meanings}
use Rattle.step_encode.specs.Coded.{CodedSteps, code_grid}
use Rattle.step_encode.specs.FaultInputs.{event_literal}

-- ---- within k faults, also where there is nothing to count

asks_by_number : (steps : CodedSteps) (code : CodedLog) (counter : CounterState) (own : List Clause) (k m : ℕ) (guards : List Lit) → length counter.inputs ≡ m → AreCodedTogether steps code counter → AreClausesOf steps code counter own →
    AreAssumptions code counter (at_most_of m k) guards → Asks steps.net code.log steps.steps (Some k) (whole_meanings steps code counter) own guards
asks_by_number steps code counter own k zero guards none together clauses assumptions =
    let asks = clauses_ask steps code counter own None guards together clauses assumptions in
    let naming = together_one_naming steps code counter together in
    let inputs : length (fault_inputs steps.net code.log steps.steps) ≡ 0 = read_length (whole_meanings steps code counter) counter.inputs (fault_inputs steps.net code.log steps.steps) naming.of_faults ∙ none in record {
      columns = asks.columns;
      question = asks.question;
      column = λ some. absurd (omega (arith, some, inputs));
      assumes = subst (ReadsAs (whole_meanings steps code counter) guards) (ap (λ m. guard_literals steps.net code.log ++ at_most m k) (sym inputs)) asks.assumes;
    }
asks_by_number steps code counter own k (suc m) guards some together clauses assumptions = clauses_ask steps code counter own (Some k) guards together clauses assumptions

asks_beside : {R : Type 0} (may : R → ℕ → Type 0) (gives : R → ℕ → ℕ → Type 0) (parts : Parts R) (book : List BookEntry) (made : List (ℕ × ℕ)) (net : Net) (log : Log) (k : ℕ) (guards : List Lit) → AreReadyWith may gives parts book made → BelongTo net log parts →
    AreAssumptions parts.code.coded parts.counter (bound_for parts.counter k) guards → AsksBeside net log parts.step.steps k (meanings_of_parts parts) (code_grid parts.step) made (axioms_of book) guards
asks_beside may gives parts book made net log k guards ready belong assumptions =
    subst (λ (net' : Net). AsksBeside net' log parts.step.steps k (meanings_of_parts parts) (code_grid parts.step) made (axioms_of book) guards) belong.of_steps (record {
      clauses = ready.own;
      asks = subst (λ l. Asks parts.step.net l parts.step.steps (Some k) (meanings_of_parts parts) ready.own guards) belong.same_log
          (asks_by_number parts.step parts.code.coded parts.counter ready.own k (length parts.counter.inputs) guards refl ready.beside.coded.together ready.clauses assumptions);
      gridded = gridded parts.step parts.code.coded parts.counter parts.vars ready.beside.coded;
      made_new = ready.made_new;
      both = ready.both;
    })

-- ---- about the event

-- which question it is, by whether the known run has the event
abbrev pub IsFor : Bool → Question → Type 0
IsFor true question = question ≡ without
IsFor false question = (var : ℕ) × (question ≡ with_event var)

pub record HasPosed (clauses : List Clause) (assumed : List Lit) (net : Net) (log : Log) (n k e : ℕ) (there : Bool) : Type 0 where
  pub question : Question
  pub is_for : IsFor there question
  pub posed : IsPosedOf clauses assumed net log n k e question

pub has_posed : {R : Type 0} (may : R → ℕ → Type 0) (gives : R → ℕ → ℕ → Type 0) (parts : Parts R) (book : List BookEntry) (net : Net) (log : Log) (k e : ℕ) (there : Bool) (assumed : List Lit) → AreAssumedOf may gives parts book k e there assumed → BelongTo net log parts →
    IsNetwork net → IsValidLog log → e < length net.events → HasPosed (axioms_of book) assumed net log parts.step.steps k e there
has_posed may gives parts book net log k e there assumed are belong network valid known =
    subst (λ ls. HasPosed (axioms_of book) ls net log parts.step.steps k e there) (sym are.whole) (by there are.about)
  where
    posed : PosesEvents net log parts.step.steps k (code_grid parts.step) are.made (axioms_of book) are.guards
    posed = events_are_posed net log parts.step.steps k (meanings_of_parts parts) (code_grid parts.step) are.made (axioms_of book) are.guards network valid
        (asks_beside may gives parts book are.made net log k are.guards are.ready belong are.within)

    by : (b : Bool) → IsAbout b are.made (code_grid parts.step) e are.further → HasPosed (axioms_of book) (are.guards ++ are.further) net log parts.step.steps k e b
    by true about = record { question = without; is_for = refl; posed = subst (λ ls. IsPosedOf (axioms_of book) (are.guards ++ ls) net log parts.step.steps k e without) (sym about) (posed.without_event e known) }
    by false about = record {
      question = with_event about.0;
      is_for = (about.0, refl);
      posed = subst (λ ls. IsPosedOf (axioms_of book) (are.guards ++ ls) net log parts.step.steps k e (with_event about.0)) (sym about.2) (posed.with_event about.0 e about.1);
    }

-- ---- what a search needs of them

-- that it happens in no step, as literals of one sign
pub none_signed : (grid : Grid) (e : ℕ) → no_step_literals grid e ≡ event_signed grid false e
none_signed grid e = map_map (event_literal grid e) negation (numbers_below grid.steps)

event_assumed_known : {R : Type 0} (may : R → ℕ → Type 0) (gives : R → ℕ → ℕ → Type 0) (parts : Parts R) (book : List BookEntry) (k e values : ℕ) (there : Bool) (assumed : List Lit) → AreAssumedOf may gives parts book k e there assumed →
    e < length parts.step.net.events → parts.vars ≤ values → HasValues values assumed
event_assumed_known may gives parts book k e values there assumed are known more =
    subst (HasValues values) (sym are.whole) (All-append (λ (l : Lit). l.var < values) are.guards are.further guards (by there are.about))
  where
    asks : Asks parts.step.net parts.code.coded.log parts.step.steps (Some k) (meanings_of_parts parts) are.ready.own are.guards
    asks = asks_by_number parts.step parts.code.coded parts.counter are.ready.own k (length parts.counter.inputs) are.guards refl are.ready.beside.coded.together are.ready.clauses are.within

    guards : HasValues values are.guards
    guards = read_below values (meanings_of_parts parts) are.guards asks.assumes.read (λ entry in'. let low = room_names_below parts.step parts.code.coded parts.counter parts.vars are.ready.beside.coded entry in' in omega (arith, low, more)) asks.assumes.by_name

    by : (b : Bool) → IsAbout b are.made (code_grid parts.step) e are.further → HasValues values are.further
    by true about = subst (HasValues values) (sym (about ∙ none_signed (code_grid parts.step) e)) (signed_below parts.step parts.code.coded parts.counter parts.vars values are.ready.beside.coded false e known more)
    by false about =
        let low = all_at (λ (entry : ℕ × ℕ). entry.0 < parts.vars) are.made are.ready.below (about.0, e) about.1 in
        subst (HasValues values) (sym about.2) (All-cons (λ (l : Lit). l.var < values) (positive about.0) [] (omega (arith, low, more)) (All-nil (λ (l : Lit). l.var < values)))

-- so the solver can be asked under them
pub can_search : {R : Type 0} (may : R → ℕ → Type 0) (gives : R → ℕ → ℕ → Type 0) (parts : Parts R) (book : List BookEntry) (net : Net) (log : Log) (k e : ℕ) (there : Bool) (assumed slice : List Lit) → AreAssumedOf may gives parts book k e there assumed → BelongTo net log parts → IsNetwork net → IsValidLog log →
    e < length net.events → slice ≡ assumed → CanSearch parts.solver.vars slice
can_search may gives parts book net log k e there assumed slice are belong network valid known same = subst (CanSearch parts.solver.vars) (sym same) (record {
  known = event_assumed_known may gives parts book k e parts.solver.vars there assumed are (subst (λ (m : Net). e < length m.events) (sym belong.of_steps) known) are.ready.beside.enough;
  compatible = compatible assumed (has_posed may gives parts book net log k e there assumed are belong network valid known).posed.tells.consistent;
})
