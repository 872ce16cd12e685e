-- What is told of a log: what was found, and behind a least number of faults the verdict on each fault event.
use Rattle.std.specs.Prelude.{◌≡◌, ◌⊎◌, ℕ, Bool, List, [], ◌∷◌, Option, Result, Ok, Err, IsErrOf}
use Rattle.std.specs.List.{list_any}
use Rattle.des_base.specs.Outside.{Output, Took, TookFront}
use Rattle.des_net.specs.Network.{Net}
use Rattle.answers.specs.declared.verdict.Verdict.{Verdict}
use Rattle.inquiries.specs.Begun.{HasAskedWithin, LeavesQuestion}
use Rattle.inquiries.specs.Diagnosed.{IsDiagnosed}
use Rattle.least_faults.specs.Growing.{HasGrownWithin}
use Rattle.answers.specs.declared.found.Found.{Found}
use Rattle.answers.specs.declared.found.Found.TheVariants.{Explained, Absent, Many, Undecided}
use Rattle.log_order.specs.Log.{Log}
use Rattle.proof_ledger.specs.Book.{BookEntry}
use Rattle.report.specs.Replies.{text_of_found}
use Rattle.step_encode.specs.FaultInputs.{fault_events}
use Rattle.telling.specs.Telling.{RisesExactlyIf, TookCut}
use Rattle.telling.specs.declared.each.Broken.{Broken}
use Rattle.telling.specs.declared.each.Broken.TheVariants.{Memory, Put}
use Rattle.verdict_telling.specs.Left.{LeavesVerdicts}
use Rattle.verdict_telling.specs.Replied.{AreFirstJudged, LeavesNext, is_undecided, matter_behind}
use Rattle.verdict_telling.specs.declared.whole.Told.{Told}
use Rattle.verdict_telling.specs.declared.whole.Told.TheVariants.{Judged, NotExplained, TooMany, NotDecided}

-- ---- what was found

-- It was found with the book that shows it, and the reply was taken. Or it ran out of memory before, and nothing was taken; or a front alone of the reply was. Here rose says that the sink's count of faults rose.
abbrev pub TellsFound : Net → Log → ℕ → ℕ → List BookEntry → Output → Output → Type 0 → Result Found Broken → Type 0
TellsFound net log n budget book before now rose (Ok found) = IsDiagnosed net log n budget book found × Took before now (text_of_found net n found ∷ [])
TellsFound net log n budget book before now rose (Err Memory) = Took before now []
TellsFound net log n budget book before now rose (Err Put) = rose × (found : Found) × IsDiagnosed net log n budget book found × TookFront before now (text_of_found net n found)

-- a text that tells what was found was taken, or nothing of it, or a front
abbrev pub PutsFound : List ℕ → Found → Output → Output → Type 0 → Result Found Broken → Type 0
PutsFound text found before now rose (Ok same) = (same ≡ found) × Took before now (text ∷ [])
PutsFound text found before now rose (Err Memory) = Took before now []
PutsFound text found before now rose (Err Put) = rose × TookFront before now text

-- ---- the verdicts behind it

-- nothing was judged
pub record AreNone (old new : List BookEntry) (events : List ℕ) (verdicts : List Verdict) (texts : List (List ℕ)) : Type 0 where
  pub book : new ≡ old
  pub no_events : events ≡ []
  pub no_verdicts : verdicts ≡ []
  pub no_texts : texts ≡ []

-- behind what was found: these first of all fault events were judged where a least number of faults is told, and else none
abbrev pub FollowsFound : Net → Log → ℕ → ℕ → Found → List BookEntry → List BookEntry → List ℕ → List Verdict → List (List ℕ) → Type 0
FollowsFound net log n budget (Explained best) old new events verdicts texts = AreFirstJudged (matter_behind net log n budget best) old new events verdicts texts
FollowsFound net log n budget Absent old new events verdicts texts = AreNone old new events verdicts texts
FollowsFound net log n budget (Many best) old new events verdicts texts = AreNone old new events verdicts texts
FollowsFound net log n budget (Undecided lo best) old new events verdicts texts = AreNone old new events verdicts texts

-- What was found came first, with the book that shows it, and then the verdicts on these events, over the book behind it. The texts are the reply about the log and those on the events.
pub record HaveReplies (net : Net) (log : Log) (n budget : ℕ) (found : Found) (events : List ℕ) (book : List BookEntry) (verdicts : List Verdict) (texts : List (List ℕ)) : Type 0 where
  pub front : List BookEntry
  pub diagnosed : IsDiagnosed net log n budget front found
  pub later : List (List ℕ)
  pub follows : FollowsFound net log n budget found front book events verdicts later
  pub are : texts ≡ text_of_found net n found ∷ later

-- Behind that book: for the next fault event a question was left open at most, or answered. Where no event is judged, nothing was put.
abbrev pub FollowsNext : (net : Net) (log : Log) (n budget : ℕ) (found : Found) (old mid : List BookEntry) (events : List ℕ) (verdicts : List Verdict) (texts : List (List ℕ)) → FollowsFound net log n budget found old mid events verdicts texts → List BookEntry → Type 0
FollowsNext net log n budget (Explained best) old mid events verdicts texts follows new = LeavesNext (matter_behind net log n budget best) follows.others mid new
FollowsNext net log n budget Absent old mid events verdicts texts follows new = new ≡ mid
FollowsNext net log n budget (Many best) old mid events verdicts texts follows new = new ≡ mid
FollowsNext net log n budget (Undecided lo best) old mid events verdicts texts follows new = new ≡ mid

-- ---- how it ends

-- the events that are to be judged behind what was found
abbrev pub events_behind : Net → Found → List ℕ
events_behind net (Explained best) = fault_events net
events_behind net Absent = []
events_behind net (Many best) = []
events_behind net (Undecided lo best) = []

-- what is answered: where events were judged, whether some was left open
abbrev pub told_of : Found → List Verdict → Told
told_of (Explained best) verdicts = Judged (list_any is_undecided verdicts)
told_of Absent verdicts = NotExplained
told_of (Many best) verdicts = TooMany
told_of (Undecided lo best) verdicts = NotDecided

-- All was told, and the replies were taken.
pub record IsAllSaid (net : Net) (log : Log) (n budget : ℕ) (book : List BookEntry) (before now : Output) (told : Told) : Type 0 where
  pub found : Found
  pub verdicts : List Verdict
  pub texts : List (List ℕ)
  pub have : HaveReplies net log n budget found (events_behind net found) book verdicts texts
  pub told_is : told ≡ told_of found verdicts
  pub put : Took before now texts

-- It ran out of memory before anything was taken. The book has at most the question of the log, asked once.
pub record IsBrokenFirst (net : Net) (log : Log) (n budget : ℕ) (book : List BookEntry) (before now : Output) : Type 0 where
  pub question : LeavesQuestion net log n (HasAskedWithin budget) book
  pub put : Took before now []

-- It ran out of memory behind some of the replies, which were taken. The book has at most what was put for the next event.
pub record IsBrokenOff (net : Net) (log : Log) (n budget : ℕ) (book : List BookEntry) (before now : Output) : Type 0 where
  pub found : Found
  pub events : List ℕ
  pub verdicts : List Verdict
  pub texts : List (List ℕ)
  pub mid : List BookEntry
  pub have : HaveReplies net log n budget found events mid verdicts texts
  pub grown : HasGrownWithin budget mid book
  pub next : FollowsNext net log n budget found have.front mid events verdicts have.later have.follows book
  pub put : Took before now texts

-- The last reply couldn't be put whole: that about the log, or on the last of these events.
pub record IsCutInReply (net : Net) (log : Log) (n budget : ℕ) (book : List BookEntry) (before now : Output) : Type 0 where
  pub found : Found
  pub events : List ℕ
  pub verdicts : List Verdict
  pub texts : List (List ℕ)
  pub have : HaveReplies net log n budget found events book verdicts texts
  pub put : TookCut texts before now

-- by how telling ends; it may run out of memory before anything is taken
abbrev pub TellsWhole : Net → Log → ℕ → ℕ → List BookEntry → Output → Output → Type 0 → Result Told Broken → Type 0
TellsWhole net log n budget book before now rose (Ok told) = IsAllSaid net log n budget book before now told
TellsWhole net log n budget book before now rose (Err Memory) = IsBrokenFirst net log n budget book before now ⊎ IsBrokenOff net log n budget book before now
TellsWhole net log n budget book before now rose (Err Put) = rose × IsCutInReply net log n budget book before now

-- how telling ends, what is left in the book, and that a put failed exactly if that is answered
pub record TellsCase (net : Net) (log : Log) (n budget : ℕ) (book : List BookEntry) (before now : Output) (rose : Type 0) (failed fails : Option ℕ) (result : Result Told Broken) : Type 0 where
  pub tells : TellsWhole net log n budget book before now rose result
  pub left : LeavesVerdicts net log n budget book
  pub failures : RisesExactlyIf (IsErrOf result Put) failed fails

-- where all were judged that is told with whether some was left open
abbrev pub HasJudged : Result Bool Broken → Result Told Broken → Type 0
HasJudged (Ok open_left) result = result ≡ Ok (Judged open_left)
HasJudged (Err broken) result = result ≡ Err broken
