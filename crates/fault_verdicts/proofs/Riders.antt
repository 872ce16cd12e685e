-- The list of what came to a question goes on with it.
use Rattle.std.proofs.Common.{◌≡◌, ◌∙◌, ℕ, zero, suc, ◌+◌, ◌<◌, true, List, [], ◌∷◌, ◌++◌, length, refl, sym, ap, subst, arith}
use Rattle.std.specs.List.{AllByRecursion}
use Rattle.des_base.proofs.Elements.{all_append}
use Rattle.des_net.specs.Network.{Net, is_fault}
use Rattle.fault_verdicts.specs.Asked.{some_step_clause}
use Rattle.fault_verdicts.specs.Riders.{AreAskedOf, IsBuiltWith, IsOfFault, Rider, a_column, an_event, event_built, rider_built, riders_built}
use Rattle.least_faults.proofs.ColumnsBuilt.{question_columns}
use Rattle.least_faults.specs.Columns.{columns_built}
use Rattle.least_faults.specs.Growing.{KeepsQuestion}
use Rattle.least_faults.specs.Parts.{BelongTo, IsBuilt}
use Rattle.least_faults.specs.declared.parts.Parts.{Parts}
use Rattle.log_encode.specs.Drafted.{LogCodeState}
use Rattle.log_order.specs.Log.{Log}
use Rattle.proof_ledger.proofs.AxiomLists.{axioms_added}
use Rattle.proof_ledger.specs.Book.{BookEntry, axiomatic, axioms_of}
use Rattle.prop_core.specs.Clauses.{Clause}
use Rattle.run_decode.specs.QuestionAxioms.{BuiltQuestion, column_built, question_axioms, question_built}
use Rattle.sat_solve.specs.Solving.{SolverState}
use Rattle.step_encode.specs.Coded.{CodedSteps, code_grid}

-- ---- lists

riders_more : (question : BuiltQuestion) (riders : List Rider) (rider : Rider) → riders_built question (riders ++ rider ∷ []) ≡ rider_built (riders_built question riders) rider
riders_more question [] rider = refl
riders_more question (first ∷ riders) rider = riders_more (rider_built question first) riders rider

-- with this many columns behind them
abbrev with_columns : List Rider → ℕ → List Rider
with_columns riders zero = riders
with_columns riders (suc columns) = with_columns riders columns ++ a_column ∷ []

columns_behind : (question : BuiltQuestion) (riders : List Rider) (columns : ℕ) → riders_built question (with_columns riders columns) ≡ columns_built (riders_built question riders) columns
columns_behind question riders zero = refl
columns_behind question riders (suc columns) = riders_more question (with_columns riders columns) a_column ∙ ap column_built (columns_behind question riders columns)

still_faults : (net : Net) (riders : List Rider) (columns : ℕ) → AllByRecursion (IsOfFault net) riders → AllByRecursion (IsOfFault net) (with_columns riders columns)
still_faults net riders zero faults = faults
still_faults net riders (suc columns) faults = all_append (IsOfFault net) (with_columns riders columns) (a_column ∷ []) (still_faults net riders columns faults) (tt, tt)

-- ---- the question of a log

-- it has columns alone
abbrev columns_alone : ℕ → List Rider
columns_alone columns = with_columns [] columns

none_before : (columns : ℕ) → columns ≡ 0 + columns
none_before columns = omega arith

columns_ridden : (net : Net) (log : Log) (n columns : ℕ) → question_built net log n columns ≡ riders_built (question_built net log n 0) (columns_alone columns)
columns_ridden net log n columns = ap (question_built net log n) (none_before columns) ∙ sym (question_columns net log n 0 columns) ∙ sym (columns_behind (question_built net log n 0) [] columns)

pub asked_alone : (net : Net) (log : Log) (n columns : ℕ) (axioms : List Clause) → axioms ≡ question_axioms net log n columns → AreAskedOf net log n axioms
asked_alone net log n columns axioms is = record {
  riders = columns_alone columns;
  faults = still_faults net [] columns tt;
  listed = is ∙ ap (λ (q : BuiltQuestion). q.axioms) (columns_ridden net log n columns);
}

-- of parts that belong to network and log
of_parts : {R : Type 0} (net : Net) (log : Log) (n : ℕ) (parts : Parts R) → BelongTo net log parts → parts.step.steps ≡ n → question_built parts.step.net parts.code.coded.log parts.step.steps 0 ≡ question_built net log n 0
of_parts net log n parts belong time = λ i. question_built (belong.of_steps i) (belong.same_log i) (time i) 0

pub built_at_first : {R : Type 0} (net : Net) (log : Log) (parts : Parts R) (book : List BookEntry) → BelongTo net log parts → IsBuilt net log parts.step.steps parts book → IsBuiltWith parts book
built_at_first net log parts book belong built = record {
  riders = columns_alone (length parts.counter.columns);
  faults = still_faults parts.step.net [] (length parts.counter.columns) tt;
  determined =
      built.determined
      ∙ columns_ridden net log parts.step.steps (length parts.counter.columns)
      ∙ ap (λ (q : BuiltQuestion). riders_built q (columns_alone (length parts.counter.columns))) (sym (of_parts net log parts.step.steps parts belong refl));
}

-- what they are at last
pub asked_at_last : {R : Type 0} (net : Net) (log : Log) (n : ℕ) (parts : Parts R) (book : List BookEntry) → BelongTo net log parts → parts.step.steps ≡ n → IsBuiltWith parts book → AreAskedOf net log n (axioms_of book)
asked_at_last net log n parts book belong time built = record {
  riders = built.riders;
  faults = subst (λ (m : Net). AllByRecursion (IsOfFault m) built.riders) belong.of_steps built.faults;
  listed = ap (λ (q : BuiltQuestion). q.axioms) (built.determined ∙ ap (λ (q : BuiltQuestion). riders_built q built.riders) (of_parts net log n parts belong time));
}

-- ---- how it goes on

pub built_with_columns : {R : Type 0} (old new : Parts R) (book entries : List BookEntry) → KeepsQuestion old new book entries → IsBuiltWith old book → IsBuiltWith new entries
built_with_columns old new book entries keeps built = record {
  riders = with_columns built.riders columns;
  faults = subst (λ (s : CodedSteps). AllByRecursion (IsOfFault s.net) (with_columns built.riders columns)) (sym keeps.step) (still_faults old.step.net built.riders columns built.faults);
  determined =
      keeps.built
      ∙ ap (λ (q : BuiltQuestion). columns_built q columns) built.determined
      ∙ sym (columns_behind first built.riders columns)
      ∙ ap (λ (q : BuiltQuestion). riders_built q (with_columns built.riders columns)) same;
}
  where
    columns : ℕ
    columns = length keeps.counter.columns

    first : BuiltQuestion
    first = question_built old.step.net old.code.coded.log old.step.steps 0

    same : question_built old.step.net old.code.coded.log old.step.steps 0 ≡ question_built new.step.net new.code.coded.log new.step.steps 0
    same = sym (λ i. question_built (ap (λ (s : CodedSteps). s.net) keeps.step i) (ap (λ (c : LogCodeState). c.coded.log) keeps.code i) (ap (λ (s : CodedSteps). s.steps) keeps.step i) 0)

pub built_by_solver : {R : Type 0} (parts : Parts R) (solver : SolverState R) (book entries : List BookEntry) → axioms_of entries ≡ axioms_of book → IsBuiltWith parts book → IsBuiltWith (record parts { solver = solver }) entries
built_by_solver parts solver book entries same built = record {
  riders = built.riders;
  faults = built.faults;
  determined = ap (λ (axioms : List Clause). record { steps = parts.step; code = parts.code.coded; counter = parts.counter; vars = parts.vars; axioms = axioms }) same ∙ built.determined;
}

pub built_with_literal : {R : Type 0} (parts : Parts R) (solver : SolverState R) (vars : ℕ) (book entries : List BookEntry) (e : ℕ) → e < length parts.step.net.events → is_fault parts.step.net e ≡ true → vars ≡ parts.vars + 1 →
    entries ≡ book ++ axiomatic (some_step_clause (code_grid parts.step) (parts.vars, e)) ∷ [] → IsBuiltWith parts book → IsBuiltWith (record parts { vars = vars; solver = solver }) entries
built_with_literal parts solver vars book entries e known fault is pushed built = record {
  riders = built.riders ++ an_event e ∷ [];
  faults = all_append (IsOfFault parts.step.net) built.riders (an_event e ∷ []) built.faults ((known, fault), tt);
  determined =
      (λ i. record { steps = parts.step; code = parts.code.coded; counter = parts.counter; vars = is i; axioms = axioms i })
      ∙ ap (λ (q : BuiltQuestion). event_built q e) built.determined
      ∙ sym (riders_more (question_built parts.step.net parts.code.coded.log parts.step.steps 0) built.riders (an_event e));
}
  where
    axioms : axioms_of entries ≡ axioms_of book ++ some_step_clause (code_grid parts.step) (parts.vars, e) ∷ []
    axioms = ap axioms_of pushed ∙ axioms_added book (some_step_clause (code_grid parts.step) (parts.vars, e) ∷ [])
