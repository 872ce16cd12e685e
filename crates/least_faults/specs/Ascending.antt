-- A search upwards from 0: what it has found of a log when it comes to a bound, and what it finds.
use Rattle.std.specs.Prelude.{ℕ, List}
use Rattle.des_net.specs.Network.{Net}
use Rattle.answers.specs.declared.found.Found.{Found}
use Rattle.least_faults.specs.Answers.{HasConflictFor, IsFound}
use Rattle.least_faults.specs.Evidence.{NegatesAssumed}
use Rattle.log_order.specs.Log.{Log}
use Rattle.proof_ledger.specs.Book.{BookEntry}
use Rattle.prop_core.specs.VariableNames.{Meaning}
use Rattle.run_decode.specs.QuestionAxioms.{BuiltQuestion}
use Rattle.sat_solve.specs.Leaving.{PutsFinals, LeavesBare}

-- The entries that were put show what was found, and no more clauses were learnt than the budget says, each of them fresh. No other clause was derived but final ones, of negated assumptions alone, at most one for each bound.
pub record HasFound (meanings : List (ℕ × Meaning)) (first : BuiltQuestion) (net : Net) (log : Log) (n budget : ℕ) (old new : List BookEntry) (answer : Found) : Type 0 where
  pub put : LeavesBare (NegatesAssumed meanings net log n) 256 budget old new
  pub found : IsFound meanings first put.since net log n budget answer
  pub conflict : HasConflictFor meanings new net log n answer

-- A search that ended without an answer: each final entry that it put negates assumptions, and there is at most one for each bound.
abbrev pub HasRefused : List (ℕ × Meaning) → Net → Log → ℕ → List BookEntry → List BookEntry → Type 0
HasRefused meanings net log n old new = PutsFinals (NegatesAssumed meanings net log n) 256 old new
