-- What questions about events put beside the question of the log: the axioms of the whole book, as a list.
use Rattle.std.specs.Prelude.{◌≡◌, ℕ, ◌+◌, ◌<◌, ⊤, true, List, [], ◌∷◌, ◌++◌, length}
use Rattle.std.specs.List.{AllByRecursion}
use Rattle.des_net.specs.Network.{Net, is_fault}
use Rattle.fault_verdicts.specs.Asked.{some_step_clause}
use Rattle.least_faults.specs.Parts.{built_of}
use Rattle.least_faults.specs.declared.parts.Parts.{Parts}
use Rattle.log_order.specs.Log.{Log}
use Rattle.proof_ledger.specs.Book.{BookEntry}
use Rattle.prop_core.specs.Clauses.{Clause}
use Rattle.run_decode.specs.QuestionAxioms.{BuiltQuestion, column_built, question_built}
use Rattle.step_encode.specs.Coded.{code_grid}

-- a further column of the counter, or a variable that is made for an event
pub data Rider : Type 0 where
  a_column : Rider
  an_event : (event : ℕ) → Rider

-- the next variable, made for the event, and behind the axioms the clause that gives the event in some step where it is true
abbrev pub event_built : BuiltQuestion → ℕ → BuiltQuestion
event_built question e = record question { vars = question.vars + 1; axioms = question.axioms ++ some_step_clause (code_grid question.steps) (question.vars, e) ∷ [] }

-- the question with one of them more
abbrev pub rider_built : BuiltQuestion → Rider → BuiltQuestion
rider_built question a_column = column_built question
rider_built question (an_event e) = event_built question e

-- with these, one after another
abbrev pub riders_built : BuiltQuestion → List Rider → BuiltQuestion
riders_built question [] = question
riders_built question (rider ∷ riders) = riders_built (rider_built question rider) riders

-- an event for which a variable is made is a fault event
abbrev pub IsOfFault : Net → Rider → Type 0
IsOfFault net a_column = ⊤
IsOfFault net (an_event e) = (e < length net.events) × (is_fault net e ≡ true)

-- These are the axioms of the question of the log, and behind them those of further columns and of variables for fault events, one after another.
pub record AreAskedOf (net : Net) (log : Log) (n : ℕ) (axioms : List Clause) : Type 0 where
  pub riders : List Rider
  pub faults : AllByRecursion (IsOfFault net) riders
  pub listed : axioms ≡ (riders_built (question_built net log n 0) riders).axioms

-- Parts and axioms are those of the question that was built first, with columns and variables for fault events that came to it one after another.
pub record IsBuiltWith {R : Type 0} (parts : Parts R) (book : List BookEntry) : Type 0 where
  pub riders : List Rider
  pub faults : AllByRecursion (IsOfFault parts.step.net) riders
  pub determined : built_of parts book ≡ riders_built (question_built parts.step.net parts.code.coded.log parts.step.steps 0) riders
