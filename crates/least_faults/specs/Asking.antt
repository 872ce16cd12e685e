-- One question of a search: what it assumes, what it leaves in the book, and what its answer means.
use Rattle.std.specs.Prelude.{◌≡◌, ◌≢◌, ℕ, ◌+◌, ◌<◌, ◌≤◌, true, false, List, [], ◌∷◌, ◌++◌, length, max, Option, Some, None, IfSome, IfNone, count_by}
use Rattle.std.specs.List.{AllByRecursion, list_all, list_any}
use Rattle.card_counter.specs.CounterState.{CounterState, bound_literal}
use Rattle.des_net.specs.Network.{Net, IsNetwork}
use Rattle.answers.specs.declared.found.Best.{Best}
use Rattle.least_faults.specs.declared.asking.Asked.{Asked}
use Rattle.least_faults.specs.declared.asking.Asked.TheVariants.{Explained, Refuted, Spent}
use Rattle.least_faults.specs.declared.parts.Parts.{Parts}
use Rattle.answers.specs.Explanations.{IsExplanation}
use Rattle.sat_solve.specs.Leaving.{AddsAxioms, EachFinal, IsSearching}
use Rattle.least_faults.specs.Columns.{built_within, columns_for}
use Rattle.least_faults.specs.Evidence.{IsPosed, is_final, IsRefutation}
use Rattle.least_faults.specs.Growing.{KeepsQuestion}
use Rattle.least_faults.specs.Parts.{AreReady}
use Rattle.question_clauses.specs.LogClauses.{guard_literals}
use Rattle.log_encode.specs.CodedLog.{CodedLog, read_meanings, log_guards}
use Rattle.log_order.specs.Log.{Log, IsValidLog}
use Rattle.proof_ledger.specs.Book.{BookEntry, clauses_of}
use Rattle.proof_ledger.specs.Fresh.{is_learnt}
use Rattle.prop_core.specs.Clauses.{Clause, HasValues, NegatesOnly}
use Rattle.prop_core.specs.Trail.{Clashes}
use Rattle.prop_core.specs.VariableNames.{ReadsAs}
use Rattle.prop_core.specs.declared.lit.Lit.{Lit}
use Rattle.run_decode.specs.Decided.{Decides}
use Rattle.run_decode.specs.Faithful.{IsWithin}
use Rattle.run_decode.specs.QuestionAxioms.{BuiltQuestion}
use Rattle.run_decode.specs.WholeNaming.{AreClausesOf, whole_meanings}
use Rattle.sat_solve.specs.Searching.{HasAxiomVars, HasPut, IsAnswer, IsSearched}
use Rattle.sat_solve.specs.declared.answer.Answer.{Answer}
use Rattle.step_encode.specs.Coded.{CodedSteps}
use Rattle.replay.specs.declared.TheConstants.{MOST_FAULTS}

-- ---- what is assumed

-- the counter's literal for at most k faults, or nothing where there is no bound
abbrev pub bound_part : CounterState → Option ℕ → List Lit
bound_part counter None = []
bound_part counter (Some k) = bound_literal counter k ∷ []

-- the guards of the log, and the counter's literal for the bound
pub record AreAssumptions (code : CodedLog) (counter : CounterState) (bound : Option ℕ) (assumed : List Lit) : Type 0 where
  pub guards : List Lit
  pub read : ReadsAs (read_meanings code) guards (guard_literals code.net code.log)
  pub whole : assumed ≡ guards ++ bound_part counter bound
  pub column : IfSome bound (λ k. k < length counter.columns)

-- guards and bound as literals, in their order
abbrev pub assumed_by : CodedLog → CounterState → Option ℕ → List Lit
assumed_by code counter bound = log_guards code ++ bound_part counter bound

-- What is assumed is this list, and the counter has got the columns that the bound needs.
pub record AreAssumed {R : Type 0} (before : CounterState) (parts : Parts R) (bound : Option ℕ) (assumed : List Lit) : Type 0 where
  pub listed : assumed ≡ assumed_by parts.code.coded parts.counter bound
  pub assumptions : AreAssumptions parts.code.coded parts.counter bound assumed
  pub columns : length parts.counter.columns ≡ max (length before.columns) (columns_for bound)

-- at most k faults can be asked for: there is something to count, and the bound is one of the columns that a counter may have
pub record IsBoundable (counter : CounterState) (k : ℕ) : Type 0 where
  pub some : 0 < length counter.inputs
  pub few : k ≤ MOST_FAULTS

-- Together with the axioms they ask which explanations of the log there are within the bound.
abbrev pub Pose : CodedSteps → CodedLog → CounterState → List Clause → Option ℕ → List Lit → Type 0
Pose steps code counter axioms bound assumed = (log : Log) → IsNetwork steps.net → IsValidLog log → code.log ≡ log →
    IsPosed (whole_meanings steps code counter) axioms assumed steps.net log steps.steps bound

-- The counter has a column for the bound, and keeps those that it had. The literal is the counter's for it, and together with the guards it poses the question within the bound, with whatever list has the clauses of the parts.
pub record IsBoundLiteral {R : Type 0} (before : CounterState) (parts : Parts R) (k : ℕ) (literal : Lit) : Type 0 where
  pub columns : length parts.counter.columns ≡ max (length before.columns) (k + 1)
  pub literal_is : literal ≡ bound_literal parts.counter k
  pub posed : (own : List Clause) → AreClausesOf parts.step parts.code.coded parts.counter own →
      (guards : List Lit) → ReadsAs (read_meanings parts.code.coded) guards (guard_literals parts.code.coded.net parts.code.coded.log) →
      Pose parts.step parts.code.coded parts.counter own (Some k) (guards ++ literal ∷ [])

-- ---- what is put down

-- The parts stand ready and keep their question, and what was put is that of a search.
pub record GoesOnReady {R : Type 0} (may : R → ℕ → Type 0) (gives : R → ℕ → ℕ → Type 0) (old new : Parts R) (old_book new_book : List BookEntry) (budget_old budget_new : ℕ) : Type 0 where
  pub ready : AreReady may gives new new_book
  pub kept : KeepsQuestion old new old_book new_book
  pub searching : IsSearching old_book new_book budget_old budget_new

-- The book got axioms, none without a bound, and then the solver was asked under what is assumed; it put and says this.
pub record IsSolvedWithin {R : Type 0} (before : CounterState) (parts : Parts R) (bound : Option ℕ) (old new : List BookEntry) (budget_old budget_new : ℕ) (answer : Answer) : Type 0 where
  pub mid : List BookEntry
  pub axioms : AddsAxioms old mid
  pub none : IfNone bound (mid ≡ old)
  pub known : HasAxiomVars mid
  pub assumed : List Lit
  pub are : AreAssumed before parts bound assumed
  pub searched : IsSearched mid new budget_old budget_new
  pub put : HasPut mid new answer
  pub says : IsAnswer parts.solver.assignment new assumed budget_new answer

-- Each final entry negates assumptions with the bound alone, and there is at most one, and none if nothing is refuted. Without a bound learnt entries alone are put then.
pub record ArePut (code : CodedLog) (counter : CounterState) (bound : Option ℕ) (since : List BookEntry) (asked : Asked) : Type 0 where
  pub finals : EachFinal (λ clause. (assumed : List Lit) × AreAssumptions code counter bound assumed × NegatesOnly assumed clause) since
  pub few : count_by is_final since ≤ 1
  pub none : asked ≢ Refuted → list_any is_final since ≡ false
  pub unbounded : IfNone bound (asked ≢ Refuted → list_all is_learnt since ≡ true)

-- ---- what was answered

-- the last final entry refutes the question, which decides it
pub record IsRefusal (code : CodedLog) (counter : CounterState) (net : Net) (log : Log) (n : ℕ) (bound : Option ℕ) (first : BuiltQuestion) (since : List BookEntry) : Type 0 where
  pub assumed : List Lit
  pub assumptions : AreAssumptions code counter bound assumed
  pub refuted : IsRefutation first since net log n bound assumed
  pub decided : Decides net log n bound

-- an explanation within the bound, whose faults are inputs of the counter
pub record IsWitness (counter : CounterState) (net : Net) (log : Log) (n : ℕ) (bound : Option ℕ) (best : Best) : Type 0 where
  pub given : IsExplanation net log n best
  pub within : IsWithin bound best.faults
  pub counted : 0 < best.faults → 0 < length counter.inputs

-- nothing is left at a further conflict
pub record IsStopped (code : CodedLog) (counter : CounterState) (bound : Option ℕ) (book : List BookEntry) (budget : ℕ) : Type 0 where
  pub nothing : budget ≡ 0
  pub assumed : List Lit
  pub assumptions : AreAssumptions code counter bound assumed
  pub clashes : Clashes (clauses_of book) assumed

-- what an answer means: an explanation is found, the question is refuted, or the budget is spent
abbrev pub IsTrueAnswer : CodedLog → CounterState → Net → Log → ℕ → Option ℕ → BuiltQuestion → List BookEntry → List BookEntry → ℕ → Asked → Type 0
IsTrueAnswer code counter net log n bound first since book budget (Explained best) = IsWitness counter net log n bound best
IsTrueAnswer code counter net log n bound first since book budget Refuted = IsRefusal code counter net log n bound first since
IsTrueAnswer code counter net log n bound first since book budget Spent = IsStopped code counter bound book budget

-- What a question to the solver left, where it was built so first: the counter has got the columns that the bound needs, and all clauses of the book are over the variables of the question with them
pub record HasAskedBy (code : CodedLog) (counter : CounterState) (first : BuiltQuestion) (net : Net) (log : Log) (n : ℕ) (bound : Option ℕ) (old new : List BookEntry) (budget_old budget_new : ℕ) (asked : Asked) : Type 0 where
  pub searching : IsSearching old new budget_old budget_new
  pub columns : length counter.columns ≡ max (length first.counter.columns) (columns_for bound)
  pub known : AllByRecursion (HasValues (built_within first bound).vars) (clauses_of new)
  pub put : ArePut code counter bound searching.since asked
  pub means : IsTrueAnswer code counter net log n bound first searching.since new budget_new asked

-- the same for the parts of a question
abbrev pub HasAsked : {R : Type 0} → Parts R → BuiltQuestion → Net → Log → Option ℕ → List BookEntry → List BookEntry → ℕ → ℕ → Asked → Type 0
HasAsked parts first net log bound old new budget_old budget_new asked = HasAskedBy parts.code.coded parts.counter first net log parts.step.steps bound old new budget_old budget_new asked
