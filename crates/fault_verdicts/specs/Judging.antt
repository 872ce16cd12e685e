-- The question about one event while it is asked: what is made and assumed for it, and what is asked of the solver.
use Rattle.std.specs.Prelude.{◌≡◌, ℕ, zero, suc, ◌+◌, ◌*◌, ◌≤◌, ◌==◌, Bool, true, false, List, [], ◌∷◌, ◌++◌, length, map, Option, None, Some, Contains, count_by}
use Rattle.card_counter.specs.CounterState.{CounterState, positive}
use Rattle.des_base.specs.Lists.{numbers_below}
use Rattle.des_net.specs.Network.{Net}
use Rattle.fault_verdicts.specs.Asked.{no_step_literals}
use Rattle.fault_verdicts.specs.Judged.{IsQuestionAbout, IsVerdict, NegatesAsked}
use Rattle.fault_verdicts.specs.Ready.{AreReadyWith}
use Rattle.answers.specs.declared.verdict.Verdict.{Verdict}
use Rattle.answers.specs.declared.verdict.Verdict.TheVariants.{Certain, Excluded}
use Rattle.least_faults.specs.Asking.{AreAssumptions}
use Rattle.least_faults.specs.Evidence.{is_final}
use Rattle.least_faults.specs.Growing.{KeepsColumns}
use Rattle.least_faults.specs.declared.parts.Parts.{Parts}
use Rattle.log_order.specs.Log.{Log}
use Rattle.proof_ledger.specs.Book.{BookEntry, axioms_of, clauses_of}
use Rattle.prop_core.specs.Grids.{grid_variable}
use Rattle.prop_core.specs.declared.grid.Grid.{Grid}
use Rattle.prop_core.specs.declared.lit.Lit.{Lit}
use Rattle.replay.specs.declared.run.RunStep.{RunStep}
use Rattle.sat_solve.specs.Searching.{IsModel, IsSpent}
use Rattle.sat_solve.specs.declared.answer.Answer.{Answer}
use Rattle.sat_solve.specs.declared.answer.Answer.TheVariants.{Sat, Unsat, Spent}
use Rattle.step_encode.specs.Coded.{code_grid}
use Rattle.sat_solve.specs.Leaving.{IsSearching, HasFinal, EachFinal, PutsFinals, LeavesBare}
use Rattle.prop_core.specs.Clauses.{NegatesOnly}

-- the literal of an event in step t, counted from 0, with this sign
abbrev pub signed_literal : Grid → Bool → ℕ → ℕ → Lit
signed_literal grid sign e t = record { var = grid_variable grid e (suc t); positive = sign }

-- those of all steps, one after another
abbrev pub event_signed : Grid → Bool → ℕ → List Lit
event_signed grid sign e = map (signed_literal grid sign e) (numbers_below grid.steps)

-- Steps and log of a question stay as they are, and so does what ranks. The counter perhaps has further columns, and beside their variables at most `more` were made.
pub record KeepsStepsAndLog {R : Type 0} (more : ℕ) (old new : Parts R) : Type 0 where
  pub step : new.step ≡ old.step
  pub code : new.code ≡ old.code
  pub counter : KeepsColumns old.counter new.counter
  pub rank : new.solver.order.rank ≡ old.solver.order.rank
  pub few : new.vars ≤ old.vars + length counter.columns * length old.counter.inputs + more

-- a literal was made for the event, with the clause that gives the event in some step where it holds
pub record HasMade {R : Type 0} (may : R → ℕ → Type 0) (gives : R → ℕ → ℕ → Type 0) (parts : Parts R) (book : List BookEntry) (e : ℕ) (literal : Lit) : Type 0 where
  pub made : List (ℕ × ℕ)
  pub ready : AreReadyWith may gives parts book made
  pub there : Contains made (literal.var, e)
  pub holds : literal ≡ positive literal.var

-- at most k of this many inputs: of none there is nothing to ask
abbrev pub at_most_of : ℕ → ℕ → Option ℕ
at_most_of zero k = None
at_most_of (suc m) k = Some k

-- the bound that is asked for, where the counter has an input
abbrev pub bound_for : CounterState → ℕ → Option ℕ
bound_for counter k = at_most_of (length counter.inputs) k

-- What is assumed of the event: that it happens in no step, if the known run has it, and else the literal that was made for it.
abbrev pub IsAbout : Bool → List (ℕ × ℕ) → Grid → ℕ → List Lit → Type 0
IsAbout true made grid e further = further ≡ no_step_literals grid e
IsAbout false made grid e further = (var : ℕ) × Contains made (var, e) × (further ≡ positive var ∷ [])

-- the guards, the bound, and what is assumed of the event
pub record AreAssumedOf {R : Type 0} (may : R → ℕ → Type 0) (gives : R → ℕ → ℕ → Type 0) (parts : Parts R) (book : List BookEntry) (k e : ℕ) (there : Bool) (assumed : List Lit) : Type 0 where
  pub made : List (ℕ × ℕ)
  pub ready : AreReadyWith may gives parts book made
  pub guards : List Lit
  pub within : AreAssumptions parts.code.coded parts.counter (bound_for parts.counter k) guards
  pub further : List Lit
  pub about : IsAbout there made (code_grid parts.step) e further
  pub whole : assumed ≡ guards ++ further

-- what the solver says under what is assumed: a model, a final entry that refutes it, or a further conflict
abbrev pub IsSaidBy : List Bool → List BookEntry → List BookEntry → List Lit → ℕ → Answer → Type 0
IsSaidBy values since book assumed left Sat = IsModel values book assumed
IsSaidBy values since book assumed left (Unsat number) = HasFinal since assumed
IsSaidBy values since book assumed left Spent = IsSpent book assumed left

-- The solver was asked under what is assumed of the event, and says this. It put at most one final entry, which negates that.
pub record IsSolvedAbout {R : Type 0} (may : R → ℕ → Type 0) (gives : R → ℕ → ℕ → Type 0) (parts : Parts R) (k e : ℕ) (there : Bool) (old new : List BookEntry) (left_old left_new : ℕ) (answer : Answer) : Type 0 where
  pub assumed : List Lit
  pub are : AreAssumedOf may gives parts new k e there assumed
  pub searching : IsSearching old new left_old left_new
  pub finals : EachFinal (NegatesOnly assumed) searching.since
  pub few : count_by is_final searching.since ≤ 1
  pub says : IsSaidBy parts.solver.assignment searching.since new assumed left_new answer

-- the step has this event
abbrev pub has_this : ℕ → Option ℕ → Bool
has_this e None = false
has_this e (Some f) = f == e

-- what a refuted question says, by whether the known run has the event
abbrev pub verdict_of : Bool → Verdict
verdict_of true = Certain
verdict_of false = Excluded

-- The entries that were put show the verdict, by what was left of the budget, and all axioms pose the question, whose assumptions a final entry negates; there is at most one. Each clause that was learnt was fresh.
pub record IsVerdictShown (net : Net) (log : Log) (n k e : ℕ) (first : List RunStep) (budget : ℕ) (old new : List BookEntry) (verdict : Verdict) : Type 0 where
  pub asked : IsQuestionAbout (axioms_of new) net log n k e first
  pub put : LeavesBare (NegatesOnly asked.assumed) 1 budget old new
  pub found : IsVerdict (axioms_of new) (clauses_of new) old put.since net log n k e budget first verdict

-- It ended without a verdict: at most one final entry was put, which negates what the question assumes.
abbrev pub EndsWithoutVerdict : Net → Log → (n k e : ℕ) → List RunStep → (old new : List BookEntry) → Type 0
EndsWithoutVerdict net log n k e first old new = PutsFinals (NegatesAsked (axioms_of new) net log n k e first) 1 old new
