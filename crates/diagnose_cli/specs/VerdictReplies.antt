-- What `verdicts` says: the reply of `diagnose`, and behind a least number of faults one reply on each fault event, in order.
use Rattle.std.specs.Prelude.{◌≡◌, ◌⊎◌, ℕ, true, false, List, []}
use Rattle.des_net.specs.Network.{Net}
use Rattle.answers.specs.declared.verdict.Verdict.{Verdict}
use Rattle.inquiries.specs.Begun.{HasAskedWithin, LeavesQuestion}
use Rattle.least_faults.specs.Growing.{HasGrownWithin}
use Rattle.answers.specs.declared.found.Found.{Found}
use Rattle.log_order.specs.Log.{Log as AlarmLog}
use Rattle.proof_ledger.specs.Book.{BookEntry}
use Rattle.verdict_telling.specs.Whole.{FollowsNext, HaveReplies, events_behind, told_of}
use Rattle.verdict_telling.specs.declared.whole.Told.{Told}
use Rattle.verdict_telling.specs.declared.whole.Told.TheVariants.{Judged, NotExplained, TooMany, NotDecided}
use Rattle.endings.specs.declared.ending.Kind.{Kind}
use Rattle.endings.specs.declared.ending.Kind.TheVariants.{Done, Absent, Undecided, Many}
use Rattle.endings.specs.Transcripts.{End, Transcript, said, cut, broken}

-- what is told in all has the kind of the reply about the log, but where some event is left open
abbrev pub kind_of_told : Told → Kind
kind_of_told (Judged true) = Undecided
kind_of_told (Judged false) = Done
kind_of_told NotExplained = Absent
kind_of_told TooMany = Many
kind_of_told NotDecided = Undecided

-- The texts are all replies: what was found, with the book that shows it, and the verdict on each fault event behind a least number of faults.
pub record IsToldInAll (net : Net) (alarms : AlarmLog) (n budget : ℕ) (book : List BookEntry) (texts : List (List ℕ)) (kind : Kind) : Type 0 where
  pub found : Found
  pub verdicts : List Verdict
  pub have : HaveReplies net alarms n budget found (events_behind net found) book verdicts texts
  pub kind_is : kind ≡ kind_of_told (told_of found verdicts)

-- The last text is the reply that couldn't be put whole: that about the log, or on the last of these events.
pub record IsToldCut (net : Net) (alarms : AlarmLog) (n budget : ℕ) (book : List BookEntry) (texts : List (List ℕ)) : Type 0 where
  pub found : Found
  pub events : List ℕ
  pub verdicts : List Verdict
  pub have : HaveReplies net alarms n budget found events book verdicts texts

-- It ran out of memory behind these replies. The book has at most what was put for the next event.
pub record IsToldBroken (net : Net) (alarms : AlarmLog) (n budget : ℕ) (book : List BookEntry) (texts : List (List ℕ)) : Type 0 where
  pub found : Found
  pub events : List ℕ
  pub verdicts : List Verdict
  pub mid : List BookEntry
  pub have : HaveReplies net alarms n budget found events mid verdicts texts
  pub grown : HasGrownWithin budget mid book
  pub next : FollowsNext net alarms n budget found have.front mid events verdicts have.later have.follows book

-- It ran out of memory before the first reply. The book has at most the question of the log, asked once.
pub record IsToldNothing (net : Net) (alarms : AlarmLog) (n budget : ℕ) (book : List BookEntry) (texts : List (List ℕ)) : Type 0 where
  pub none : texts ≡ []
  pub question : LeavesQuestion net alarms n (HasAskedWithin budget) book

-- by how it ends
abbrev pub EndsVerdicts : Net → AlarmLog → ℕ → ℕ → List BookEntry → List (List ℕ) → End → Type 0
EndsVerdicts net alarms n budget book texts (said kind) = IsToldInAll net alarms n budget book texts kind
EndsVerdicts net alarms n budget book texts cut = IsToldCut net alarms n budget book texts
EndsVerdicts net alarms n budget book texts broken = IsToldNothing net alarms n budget book texts ⊎ IsToldBroken net alarms n budget book texts

-- what may be said of this network and this log where this book is left
abbrev pub IsVerdicts : Net → AlarmLog → ℕ → ℕ → List BookEntry → Transcript → Type 0
IsVerdicts net alarms n budget book told = EndsVerdicts net alarms n budget book told.texts told.end
