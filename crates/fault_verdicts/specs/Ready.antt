-- The parts of a question beside what was made for verdicts on them.
use Rattle.std.specs.Prelude.{ℕ, ◌*◌, ◌<◌, ◌≤◌, List, length}
use Rattle.std.specs.List.{AllByRecursion}
use Rattle.des_base.specs.declared.TheConstants.{MOST_COLUMNS}
use Rattle.fault_verdicts.specs.Asked.{some_step_clauses}
use Rattle.fault_verdicts.specs.Riders.{IsBuiltWith}
use Rattle.fault_verdicts.specs.Telling.{AreMade}
use Rattle.least_faults.specs.Parts.{AreReadyBeside, meanings_of_parts}
use Rattle.least_faults.specs.declared.TheConstants.{MOST_SIZE}
use Rattle.least_faults.specs.declared.parts.Parts.{Parts}
use Rattle.proof_ledger.specs.Book.{BookEntry, axioms_of}
use Rattle.prop_core.specs.Clauses.{Clause}
use Rattle.run_decode.specs.Tells.{AreBoth}
use Rattle.run_decode.specs.WholeNaming.{AreClausesOf}
use Rattle.step_encode.specs.Coded.{code_grid}

-- The axioms of the book are the clauses of the parts, and for each variable that was made for an event the clause that gives the event in some step. As a list they are those of the question, and behind them what came to it. The counter has no more inputs than a question of the largest size.
pub record AreReadyWith {R : Type 0} (may : R → ℕ → Type 0) (gives : R → ℕ → ℕ → Type 0) (parts : Parts R) (book : List BookEntry) (made : List (ℕ × ℕ)) : Type 0 where
  pub beside : AreReadyBeside may gives parts book
  pub own : List Clause
  pub clauses : AreClausesOf parts.step parts.code.coded parts.counter own
  pub both : AreBoth (axioms_of book) own (some_step_clauses (code_grid parts.step) made)
  pub made_new : AreMade (meanings_of_parts parts) parts.step.net made
  pub below : AllByRecursion (λ entry. entry.0 < parts.vars) made
  pub built : IsBuiltWith parts book
  pub small : MOST_COLUMNS * length parts.counter.inputs ≤ MOST_SIZE

-- This holds with the variables that earlier calls made, whichever they are.
abbrev pub AreReadyForVerdicts : {R : Type 0} → (R → ℕ → Type 0) → (R → ℕ → ℕ → Type 0) → Parts R → List BookEntry → Type 0
AreReadyForVerdicts may gives parts book = (made : List (ℕ × ℕ)) × AreReadyWith may gives parts book made
