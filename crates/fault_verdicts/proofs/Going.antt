-- How parts and book go on: by columns, by a variable, by a search and by marks.
use Rattle.std.proofs.Common.{◌≡◌, ◌∙◌, ℕ, zero, suc, ◌+◌, ◌*◌, ◌≤◌, List, [], ◌∷◌, ◌++◌, length, refl, sym, ap, subst, arith, length-append}
use Rattle.fault_verdicts.proofs.Ready.{ready_by_solver}
use Rattle.fault_verdicts.specs.Judging.{KeepsStepsAndLog}
use Rattle.fault_verdicts.specs.Ready.{AreReadyWith, AreReadyForVerdicts}
use Rattle.least_faults.proofs.Columns.{keeps_both, keeps_none}
use Rattle.sat_solve.proofs.Freshness.{known_same}
use Rattle.least_faults.proofs.Ranking.{still_ranked}
use Rattle.least_faults.specs.Columns.{columns_built}
use Rattle.least_faults.specs.Growing.{KeepsQuestion}
use Rattle.least_faults.specs.Parts.{BelongTo, built_of}
use Rattle.least_faults.specs.declared.parts.Parts.{Parts}
use Rattle.log_encode.specs.Drafted.{LogCodeState}
use Rattle.log_order.specs.Log.{Log}
use Rattle.des_net.specs.Network.{Net}
use Rattle.proof_ledger.specs.Book.{BookEntry, mark, axioms_of, clauses_of}
use Rattle.run_decode.specs.Decoding.{BelongTogether}
use Rattle.run_decode.specs.QuestionAxioms.{BuiltQuestion}
use Rattle.sat_order.specs.Rank.{KeepsRanks}
use Rattle.sat_solve.specs.Searching.{IsSearched}
use Rattle.sat_solve.specs.Solving.{SolverState}
use Rattle.step_encode.specs.Coded.{CodedSteps}
use Rattle.proof_ledger.proofs.AxiomLists.{marked_axioms, marked_clauses}
use Rattle.sat_solve.proofs.Entries.{same_axioms}

-- ---- the parts

-- what a solver learns and reserves changes nothing
pub goes_by_solver : {R : Type 0} (more : ℕ) (parts : Parts R) (solver : SolverState R) → solver.order.rank ≡ parts.solver.order.rank → KeepsStepsAndLog more parts (record parts { solver = solver })
goes_by_solver more parts solver rank = record { step = refl; code = refl; counter = keeps_none parts.counter; rank = rank; few = omega arith }

pub goes_nowhere : {R : Type 0} (more : ℕ) (parts : Parts R) → KeepsStepsAndLog more parts parts
goes_nowhere more parts = goes_by_solver more parts parts.solver refl

one_more_row : (a b c : ℕ) → (a + b * c) + c ≡ a + suc b * c
one_more_row a b c = grind arith

inputs_kept : (question : BuiltQuestion) (columns : ℕ) → length (columns_built question columns).counter.inputs ≡ length question.counter.inputs
inputs_kept question zero = refl
inputs_kept question (suc columns) = inputs_kept question columns

vars_by_columns : (question : BuiltQuestion) (columns : ℕ) → (columns_built question columns).vars ≡ question.vars + columns * length question.counter.inputs
vars_by_columns question zero = omega arith
vars_by_columns question (suc columns) =
    ap (λ v. v + length (columns_built question columns).counter.inputs) (vars_by_columns question columns)
    ∙ ap (λ c. (question.vars + columns * length question.counter.inputs) + c) (inputs_kept question columns)
    ∙ one_more_row question.vars columns (length question.counter.inputs)

pub goes_with_columns : {R : Type 0} (old new : Parts R) (book entries : List BookEntry) → KeepsQuestion old new book entries → KeepsStepsAndLog 0 old new
goes_with_columns old new book entries keeps = record {
  step = keeps.step;
  code = keeps.code;
  counter = keeps.counter;
  rank = keeps.rank;
  few = (let vars = ap (λ (q : BuiltQuestion). q.vars) keeps.built ∙ vars_by_columns (built_of old book) (length keeps.counter.columns) in omega (arith, vars));
}

pub goes_both : {R : Type 0} (one two more : ℕ) (old mid new : Parts R) → one + two ≤ more → KeepsStepsAndLog one old mid → KeepsStepsAndLog two mid new → KeepsStepsAndLog more old new
goes_both one two more old mid new enough first second = record {
  step = second.step ∙ first.step;
  code = second.code ∙ first.code;
  counter = keeps_both old.counter mid.counter new.counter first.counter second.counter;
  rank = second.rank ∙ first.rank;
  few =
      let few_first = first.few in
      let few_second = second.few in
      let inputs = ap length first.counter.inputs in
      let all = length-append first.counter.columns second.counter.columns in
      sum_up (length first.counter.columns) (length second.counter.columns) (length (first.counter.columns ++ second.counter.columns)) (length old.counter.inputs) (length mid.counter.inputs) old.vars mid.vars new.vars all inputs few_first few_second;
}
  where
    spread : (a b i : ℕ) → (a + b) * i ≡ a * i + b * i
    spread a b i = grind arith

    sum_up : (a b c i j u v w : ℕ) → c ≡ a + b → j ≡ i → v ≤ u + a * i + one → w ≤ v + b * j + two → w ≤ u + c * i + more
    sum_up a b c i j u v w whole same first_few second_few =
        let left : c * i ≡ a * i + b * i = ap (λ k. k * i) whole ∙ spread a b i in
        let right : b * j ≡ b * i = ap (λ k. b * k) same in
        omega (arith, left, right, first_few, second_few, enough)

pub belong_on : {R : Type 0} (net : Net) (log : Log) (more : ℕ) (old new : Parts R) → KeepsStepsAndLog more old new → BelongTo net log old → BelongTo net log new
belong_on net log more old new goes belong =
    subst (λ (s : CodedSteps). BelongTogether net log s new.code.coded) (sym goes.step)
    (subst (λ (c : LogCodeState). BelongTogether net log old.step c.coded) (sym goes.code) belong)

-- ---- the book

pub ready_after_search : {R : Type 0} (may : R → ℕ → Type 0) (gives : R → ℕ → ℕ → Type 0) (parts : Parts R) (solver : SolverState R) (before after : ℕ) (mid new : List BookEntry) (made : List (ℕ × ℕ)) → AreReadyWith may gives parts mid made → IsSearched mid new before after →
    solver.adopted ≡ clauses_of new → solver.vars ≡ parts.solver.vars → KeepsRanks parts.solver.order solver.order → AreReadyWith may gives (record parts { solver = solver }) new made
ready_after_search may gives parts solver before after mid new made ready searched all same ranks =
    ready_by_solver may gives parts solver mid new made (ap axioms_of searched.whole ∙ same_axioms mid searched.since searched.derived) (record {
      coded = ready.beside.coded;
      known = searched.known ready.beside.known;
      adopted_all = all;
      enough = subst (λ v. parts.vars ≤ v) (sym same) ready.beside.enough;
      ranked = still_ranked may gives parts.solver.order solver.order ranks ready.beside.ranked;
    }) ready

pub ready_with_mark : {R : Type 0} (may : R → ℕ → Type 0) (gives : R → ℕ → ℕ → Type 0) (parts : Parts R) (number : ℕ) (book new : List BookEntry) → new ≡ book ++ mark number ∷ [] → AreReadyForVerdicts may gives parts book → AreReadyForVerdicts may gives parts new
ready_with_mark may gives parts number book new is ready =
    let axioms = ap axioms_of is ∙ marked_axioms book number in
    let clauses = ap clauses_of is ∙ marked_clauses book number in (
      ready.0,
      ready_by_solver may gives parts parts.solver book new ready.0 axioms (record {
        coded = ready.1.beside.coded;
        known = known_same book new clauses axioms ready.1.beside.known;
        adopted_all = ready.1.beside.adopted_all ∙ sym clauses;
        enough = ready.1.beside.enough;
        ranked = ready.1.beside.ranked;
      }) ready.1,
    )

-- fewer variables are as many at most
pub goes_more : {R : Type 0} (few more : ℕ) (old new : Parts R) → few ≤ more → KeepsStepsAndLog few old new → KeepsStepsAndLog more old new
goes_more few more old new enough goes = record { step = goes.step; code = goes.code; counter = goes.counter; rank = goes.rank; few = (let vars = goes.few in omega (arith, vars, enough)) }
