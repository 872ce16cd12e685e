-- What a session says: the replies to its rows, and how it ends.
use Rattle.std.specs.Prelude.{◌≡◌, ◌⊎◌, ℕ, ⊤, List, [], ◌∷◌, ◌++◌, flat_map}
use Rattle.alarm_session.specs.Rows.{HasCarriedOut, IsLeftUndone, IsRowTold, after_row}
use Rattle.alarm_session.specs.Session.{Stage}
use Rattle.alarm_session.specs.Refusals.{refusal_number}
use Rattle.alarm_session.specs.declared.rows.RowTold.{RowTold}
use Rattle.alarm_session.specs.declared.rows.RowTold.TheVariants.{Made, Refused, Answered}
use Rattle.des_net.specs.Network.{Net}
use Rattle.answers.specs.declared.found.Found.{Found}
use Rattle.answers.specs.declared.found.Found.TheVariants.{Undecided}
use Rattle.log_order.specs.Log.{Log as AlarmLog, no_log}
use Rattle.log_csv.specs.declared.row.Row.{Row}
use Rattle.proof_ledger.specs.Book.{BookEntry}
use Rattle.report.specs.Replies.{text_of_found, text_of_refused}
use Rattle.endings.specs.declared.ending.Kind.TheVariants.{Done}
use Rattle.endings.specs.Transcripts.{End, said, cut, broken, Transcript}
use Rattle.diagnose_cli.specs.Replies.{IsEnough, RunReplays}

-- the replies to a row that told this: none where an addition was made
abbrev pub replies_to : Net → ℕ → RowTold → List (List ℕ)
replies_to net n Made = []
replies_to net n (Refused refusal) = text_of_refused (refusal_number refusal) ∷ []
replies_to net n (Answered found) = text_of_found net n found ∷ []

-- a run that a row told replays against the log
abbrev pub TellsReplaying : Net → AlarmLog → ℕ → RowTold → Type 0
TellsReplaying net alarms n Made = ⊤
TellsReplaying net alarms n (Refused refusal) = ⊤
TellsReplaying net alarms n (Answered found) = RunReplays net alarms n found

-- each run that rows told replays against the log of the rows before it
abbrev pub RunsReplay : Net → ℕ → AlarmLog → List Row → List RowTold → Type 0
RunsReplay net n alarms (row ∷ rows) (told ∷ others) = TellsReplaying net alarms n told × RunsReplay net n (after_row net n alarms row) rows others
RunsReplay net n alarms _ _ = ⊤

-- an answer that isn't left open
abbrev pub IsDecided : Found → Type 0
IsDecided (Undecided lo best) = ⊥
IsDecided _ = ⊤

-- a budget of 3 to the number of variables that network, log and n allow decides what a row asks
abbrev pub TellsDecided : Net → AlarmLog → ℕ → ℕ → RowTold → Type 0
TellsDecided net alarms n budget Made = ⊤
TellsDecided net alarms n budget (Refused refusal) = ⊤
TellsDecided net alarms n budget (Answered found) = IsEnough budget net alarms n → IsDecided found

-- so it is with each row and the log of the rows before it
abbrev pub AreDecided : Net → ℕ → ℕ → AlarmLog → List Row → List RowTold → Type 0
AreDecided net n budget alarms (row ∷ rows) (told ∷ others) = TellsDecided net alarms n budget told × AreDecided net n budget (after_row net n alarms row) rows others
AreDecided net n budget alarms _ _ = ⊤

-- A session carried out these rows one after another, and came so far. These are their replies, one after another.
pub record HasReplies (net : Net) (n budget : ℕ) (rows : List Row) (left : Stage) (texts : List (List ℕ)) : Type 0 where
  pub told : List RowTold
  pub carried : HasCarriedOut net n budget rows left told
  pub replays : RunsReplay net n no_log rows told
  pub decided : AreDecided net n budget no_log rows told
  pub are : texts ≡ flat_map (replies_to net n) told

-- The row was carried out, a run that it told replays, and this is its reply.
pub record IsRowReplied (net : Net) (n budget : ℕ) (old : Stage) (row : Row) (new : Stage) (reply : List ℕ) : Type 0 where
  pub told : RowTold
  pub holds : IsRowTold net n budget old row new told
  pub replays : TellsReplaying net old.log n told
  pub is : replies_to net n told ≡ reply ∷ []

-- The row has a reply that isn't told, since it ran out of memory for its text; or it ran out before that, and the row is left undone. Either way the book is that of a session.
abbrev pub IsUntold : Net → ℕ → ℕ → Row → Stage → Stage → Type 0
IsUntold net n budget row old new = ((reply : List ℕ) × IsRowReplied net n budget old row new reply) ⊎ IsLeftUndone net n budget old row new

-- A session over these rows came to one of them: those before it brought it to this stage, and these are their replies.
pub record SessionComesTo (net : Net) (n budget : ℕ) (rows : List Row) (row : Row) (left : Stage) (texts : List (List ℕ)) : Type 0 where
  pub front : List Row
  pub others : List Row
  pub split : rows ≡ front ++ row ∷ others
  pub replied : HasReplies net n budget front left texts

-- All rows were carried out, and these are their replies. The book is the one that they came to.
pub record IsFinished (net : Net) (n budget : ℕ) (rows : List Row) (book : List BookEntry) (texts : List (List ℕ)) : Type 0 where
  pub left : Stage
  pub replied : HasReplies net n budget rows left texts
  pub book_is : book ≡ left.book

-- The last text is the reply of the row that a session came to. This row was carried out as those before it, and no other: the book is the one that these came to.
pub record IsCut (net : Net) (n budget : ℕ) (rows : List Row) (book : List BookEntry) (texts : List (List ℕ)) : Type 0 where
  pub row : Row
  pub left : Stage
  pub end : Stage
  pub earlier : List (List ℕ)
  pub last : List ℕ
  pub comes : SessionComesTo net n budget rows row left earlier
  pub replied : IsRowReplied net n budget left row end last
  pub book_is : book ≡ end.book
  pub are : texts ≡ earlier ++ last ∷ []

-- Memory ran out at the row that a session came to: behind what those before it left, the book has what this one put.
pub record IsBroken (net : Net) (n budget : ℕ) (rows : List Row) (book : List BookEntry) (texts : List (List ℕ)) : Type 0 where
  pub row : Row
  pub left : Stage
  pub end : Stage
  pub comes : SessionComesTo net n budget rows row left texts
  pub untold : IsUntold net n budget row left end
  pub book_is : book ≡ end.book

-- by how it ends: the replies to all rows, which is a yes whatever they say, or to those that it came to
abbrev pub EndsSession : Net → ℕ → ℕ → List Row → List BookEntry → List (List ℕ) → End → Type 0
EndsSession net n budget rows book texts (said kind) = (kind ≡ Done) × IsFinished net n budget rows book texts
EndsSession net n budget rows book texts cut = IsCut net n budget rows book texts
EndsSession net n budget rows book texts broken = IsBroken net n budget rows book texts

-- what a session over these rows may say where it leaves this book
abbrev pub IsSession : Net → ℕ → ℕ → List Row → List BookEntry → Transcript → Type 0
IsSession net n budget rows book told = EndsSession net n budget rows book told.texts told.end
