-- What the whole run does.
use Rattle.std.specs.Prelude.{⊤, length, ◌≡◌, ◌≢◌, ◌⊎◌, ℕ, List, [], ◌∷◌, ◌≤◌, codes, false, Option}
use Rattle.des_base.specs.Outside.{Rose, Took}
use Rattle.des_base.specs.CommandWords.{word_at}
use Rattle.telling.specs.Lines.{line_with_number}
use Rattle.telling.specs.Telling.{RisesExactlyIf}
use Rattle.diagnose_cli.specs.Tasks.{IfCalled, MatchCalled}
use Rattle.diagnose_cli.specs.Commands.{command_of}
use Rattle.diagnose_cli.specs.Due.{Due, MayCome, StopsEmpty}
use Rattle.diagnose_cli.specs.Outcomes.{Outcome, IsUnbroken}
use Rattle.diagnose_cli.specs.Deciding.{DecidedRow}
use Rattle.diagnose_cli.specs.Exact.{StopRow}
use Rattle.endings.specs.Puts.{Finishes, IsCutOff}
use Rattle.diagnose_cli.specs.Rows.{TraceRow, ShowRow, ReplayRow, CheckRows, AskedRow, GenerateRows, BenchRow, DiagnoseRows, SessionRow, LeftRow}
use Rattle.diagnose_cli.specs.TwinRows.{TwinRows}
use Rattle.diagnose_cli.specs.VerdictRows.{VerdictRows}
use Rattle.diagnose_cli.specs.CheapRows.{CheapRows}

-- ---- how it ends

-- by an ending that may come for the words with the book that is left: its texts were put, and its status is answered
abbrev pub Ends : Outcome → Type 0
Ends o = Finishes (MayCome o.loads o.words o.book) o.before o.now o.status

-- By one that is due and whose last text can't be put whole: the others were put, and of this a front. Where that text says why there is no reply, the book is empty.
abbrev pub CutOff : Outcome → Type 0
CutOff o = IsCutOff (StopsEmpty (Due o.loads o.words o.book) o.book) o.before o.now

-- the count of the name of file i rose
abbrev pub RoseFor : Outcome → ℕ → Type 0
RoseFor o i = Rose (o.loads.before (word_at o.words i)) (o.loads.after (word_at o.words i))

-- the command has a file of this number, counted from 1
abbrev pub HasFile : List (List ℕ) → ℕ → Type 0
HasFile words file = MatchCalled (command_of words) ⊥ (λ t. (1 ≤ file) × (file ≤ length t.files))

-- the load of a file of the command failed, and `LOAD` with its number was put
pub record LoadRow (o : Outcome) : Type 0 where
  pub file : ℕ
  pub known : HasFile o.words file
  pub rose : RoseFor o file
  pub put : Took o.before o.now (line_with_number (codes "LOAD ") file ∷ [])

-- the words call no command
abbrev pub CallsNone : List (List ℕ) → Type 0
CallsNone words = MatchCalled (command_of words) ⊤ (λ t. ⊥)

-- by its status, whichever command the words call; rose says that the sink's count of faults rose
pub record Ran (o : Outcome) (rose : Type 0) : Type 0 where
  pub stops : IsUnbroken o.status → StopRow o
  pub usage : o.status ≡ 2 → CallsNone o.words
  pub ends : o.status ≢ 4 → Ends o
  pub load_failed : o.status ≡ 3 → LoadRow o
  pub put_failed : o.status ≡ 4 → rose
  pub cut_off : o.status ≡ 4 → CutOff o
  pub decided : DecidedRow o

-- ---- what isn't asked for

-- the words call no command that asks a question
abbrev pub AsksNone : List (List ℕ) → Type 0
AsksNone words = IfCalled (command_of words) (λ t. t.asks ≡ false)

-- the words call no command that has files
abbrev pub LoadsNone : List (List ℕ) → Type 0
LoadsNone words = IfCalled (command_of words) (λ t. t.files ≡ [])

-- the status says why there is no reply: the words, a file, its text, that there is no such fault event, or the size of the question
pub record SaysStop (status : ℕ) : Type 0 where
  pub low : 2 ≤ status
  pub among : (status ≤ 8) ⊎ ((15 ≤ status) × (status ≤ 16))
  pub put : status ≢ 4

-- A shelf that no file is loaded from is as it was. So is a book in which no question is asked, by the words or since the command stops before.
pub record LeavesAlone {F B : Type 0} (words : List (List ℕ)) (status : ℕ) (shelf later : F) (book left : B) : Type 0 where
  pub no_load : LoadsNone words → later ≡ shelf
  pub no_question : AsksNone words → left ≡ book
  pub stopped : SaysStop status → left ≡ book

-- ---- all of it

-- what every command answers, and how the run ends; rose says that the sink's count of faults rose
pub record Does (o : Outcome) (rose : Type 0) : Type 0 where
  pub asked : AskedRow o
  pub diagnosed : DiagnoseRows o
  pub replayed : ReplayRow o
  pub checked : CheckRows o
  pub traced : TraceRow o
  pub shown : ShowRow o
  pub generated : GenerateRows o
  pub benched : BenchRow o
  pub carried_out : SessionRow o
  pub twinned : TwinRows o
  pub judged : VerdictRows o
  pub priced : CheapRows o
  pub ran : Ran o rose

-- What a command answers and how its run ends, what it leaves alone and what it leaves in the book. A failure of the sink is counted exactly if the status is 4.
pub record Responds {F B : Type 0} (o : Outcome) (rose : Type 0) (shelf later : F) (book final : B) (failed fails : Option ℕ) : Type 0 where
  pub does : Does o rose
  pub left_alone : LeavesAlone o.words o.status shelf later book final
  pub left : LeftRow o
  pub failures : RisesExactlyIf (o.status ≡ 4) failed fails
