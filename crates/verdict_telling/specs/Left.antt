-- What is left in the book: the question of the log with what was learnt for it, and behind that what was asked about fault events.
use Rattle.std.specs.Prelude.{◌≡◌, ◌⊎◌, ◌+◌, ◌*◌, ℕ, List, [], ◌++◌, length}
use Rattle.answers.specs.declared.found.Best.{Best}
use Rattle.answers.specs.declared.found.Found.TheVariants.{Explained}
use Rattle.des_net.specs.Network.{Net}
use Rattle.fault_verdicts.specs.Ready.{AreReadyForVerdicts}
use Rattle.fault_verdicts.specs.Riders.{AreAskedOf}
use Rattle.inquiries.specs.Begun.{HasAskedWithin, HasLearntWithin, HasQuestion}
use Rattle.inquiries.specs.Diagnosed.{IsDiagnosed}
use Rattle.least_faults.specs.declared.parts.Parts.{Parts}
use Rattle.log_order.specs.Log.{Log}
use Rattle.proof_ledger.specs.Book.{BookEntry, axioms_of}
use Rattle.step_encode.specs.FaultInputs.{fault_events}
use Rattle.verdict_telling.specs.Replied.{AreAskedInOrder, matter_behind}

-- The codes of steps and log are the same, and parts and book are ready for verdicts.
pub record StaysReady {R : Type 0} (may : R → ℕ → Type 0) (gives : R → ℕ → ℕ → Type 0) (old new : Parts R) (book : List BookEntry) : Type 0 where
  pub step : new.step ≡ old.step
  pub code : new.code ≡ old.code
  pub ready : AreReadyForVerdicts may gives new book

-- The question of the log comes first, with no more learnt than the budget says. Behind its axioms stand, one after another, those of further columns and of variables for fault events, and no others. With what was asked about the fault events, as much again may be learnt for each of them.
pub record BeginsWithQuestion (net : Net) (log : Log) (n budget : ℕ) (book : List BookEntry) : Type 0 where
  pub first : List BookEntry
  pub question : HasQuestion net log n (HasAskedWithin budget) first
  pub since : List BookEntry
  pub whole : book ≡ first ++ since
  pub asked : AreAskedOf net log n (axioms_of book)
  pub learnt : HasLearntWithin (budget + length (fault_events net) * budget) book

-- a least number was found, with the first book, and behind that fault events were judged in order
pub record AreAskedBehind (net : Net) (log : Log) (n budget : ℕ) (first book : List BookEntry) : Type 0 where
  pub best : Best
  pub diagnosed : IsDiagnosed net log n budget first (Explained best)
  pub asked : AreAskedInOrder (matter_behind net log n budget best) first book

-- The question of the log was asked once at most, and behind it stands nothing, or what the fault events left.
pub record StandsInOrder (net : Net) (log : Log) (n budget : ℕ) (book : List BookEntry) : Type 0 where
  pub first : List BookEntry
  pub question : HasQuestion net log n (HasAskedWithin budget) first
  pub behind : (book ≡ first) ⊎ AreAskedBehind net log n budget first book

-- the book is empty, or begins so and stands in this order
abbrev pub LeavesVerdicts : Net → Log → ℕ → ℕ → List BookEntry → Type 0
LeavesVerdicts net log n budget book = (book ≡ []) ⊎ (BeginsWithQuestion net log n budget book × StandsInOrder net log n budget book)
