-- The replies on fault events that were judged one after another, and how telling them ends.
use Rattle.std.specs.Prelude.{◌≡◌, ℕ, Bool, true, false, List, [], ◌∷◌, ◌++◌, Result, Ok, Err}
use Rattle.std.specs.List.{list_any}
use Rattle.des_base.specs.Outside.{Output, Took}
use Rattle.des_net.specs.Network.{Net}
use Rattle.fault_verdicts.specs.Judges.{AreJudged, IsLeftUnjudged, Matter}
use Rattle.answers.specs.declared.found.Best.{Best}
use Rattle.answers.specs.declared.verdict.Verdict.{Verdict}
use Rattle.answers.specs.declared.verdict.Verdict.TheVariants.{Certain, Excluded, Possible, Open}
use Rattle.least_faults.specs.Growing.{HasGrownWithin}
use Rattle.log_order.specs.Log.{Log}
use Rattle.proof_ledger.specs.Book.{BookEntry}
use Rattle.report.specs.VerdictTexts.{text_of_verdict}
use Rattle.step_encode.specs.FaultInputs.{fault_events}
use Rattle.telling.specs.Telling.{TookCut}
use Rattle.telling.specs.declared.each.Broken.{Broken}
use Rattle.telling.specs.declared.each.Broken.TheVariants.{Memory, Put}

-- what is judged behind a least number of faults
abbrev pub matter_behind : Net → Log → ℕ → ℕ → Best → Matter
matter_behind net log n budget best = record { net = net; log = log; steps = n; best = best; budget = budget }

-- the question about the event came to no answer
abbrev pub is_undecided : Verdict → Bool
is_undecided Certain = false
is_undecided Excluded = false
is_undecided (Possible run) = false
is_undecided Open = true

-- the replies on events by their verdicts, one after another
abbrev pub texts_of_verdicts : Net → List ℕ → List Verdict → List (List ℕ)
texts_of_verdicts net (e ∷ events) (verdict ∷ verdicts) = text_of_verdict net e verdict ∷ texts_of_verdicts net events verdicts
texts_of_verdicts net _ _ = []

-- These events were judged one after another, from the one book to the other. These are their verdicts, and the replies.
pub record AreReplied (m : Matter) (events : List ℕ) (old new : List BookEntry) (verdicts : List Verdict) (texts : List (List ℕ)) : Type 0 where
  pub judged : AreJudged m events old new verdicts
  pub are : texts ≡ texts_of_verdicts m.net events verdicts

-- the first of all fault events were judged so
pub record AreFirstJudged (m : Matter) (old new : List BookEntry) (events : List ℕ) (verdicts : List Verdict) (texts : List (List ℕ)) : Type 0 where
  pub others : List ℕ
  pub ordered : fault_events m.net ≡ events ++ others
  pub replied : AreReplied m events old new verdicts texts

-- All were, their replies were taken, and it is told whether some event was left open.
pub record IsAllTold (m : Matter) (old new : List BookEntry) (before now : Output) (open_left : Bool) : Type 0 where
  pub verdicts : List Verdict
  pub texts : List (List ℕ)
  pub replied : AreReplied m (fault_events m.net) old new verdicts texts
  pub left : open_left ≡ list_any is_undecided verdicts
  pub put : Took before now texts

-- For the next event a question was left open at most, or answered. Where there is none, nothing was put.
abbrev pub LeavesNext : Matter → List ℕ → List BookEntry → List BookEntry → Type 0
LeavesNext m [] old new = new ≡ old
LeavesNext m (e ∷ others) old new = IsLeftUnjudged m e old new

-- The first of all fault events were judged one after another, and behind that stands only what the next one left.
pub record AreAskedInOrder (m : Matter) (old new : List BookEntry) : Type 0 where
  pub events : List ℕ
  pub others : List ℕ
  pub verdicts : List Verdict
  pub mid : List BookEntry
  pub ordered : fault_events m.net ≡ events ++ others
  pub judged : AreJudged m events old mid verdicts
  pub next : LeavesNext m others mid new

-- It ran out of memory behind the replies on some of them, which were taken. For the next event the book has at most what its question put.
pub record IsOutOfMemory (m : Matter) (old new : List BookEntry) (before now : Output) : Type 0 where
  pub events : List ℕ
  pub verdicts : List Verdict
  pub texts : List (List ℕ)
  pub mid : List BookEntry
  pub front : AreFirstJudged m old mid events verdicts texts
  pub grown : HasGrownWithin m.budget mid new
  pub next : LeavesNext m front.others mid new
  pub put : Took before now texts

-- The last reply couldn't be put whole. The events up to this one were judged, and none behind it.
pub record IsCutThere (m : Matter) (old new : List BookEntry) (before now : Output) : Type 0 where
  pub events : List ℕ
  pub verdicts : List Verdict
  pub texts : List (List ℕ)
  pub front : AreFirstJudged m old new events verdicts texts
  pub put : TookCut texts before now

-- by how telling ends; rose says that the sink's count of faults rose
abbrev pub TellsVerdicts : Matter → List BookEntry → List BookEntry → Output → Output → Type 0 → Result Bool Broken → Type 0
TellsVerdicts m old new before now rose (Ok open_left) = IsAllTold m old new before now open_left
TellsVerdicts m old new before now rose (Err Memory) = IsOutOfMemory m old new before now
TellsVerdicts m old new before now rose (Err Put) = rose × IsCutThere m old new before now
