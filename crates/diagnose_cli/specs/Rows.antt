-- What each command answers, by its words and the bytes that the shelf holds under the names of its files.
use Rattle.std.specs.Prelude.{cond, ◌≡◌, ◌≢◌, ℕ, ◌+◌, ◌<◌, ◌≤◌, ⊤, List, [], ◌∷◌, ◌++◌, length, Option, Some, None, IfSome}
use Rattle.alarm_session.specs.Session.{Stage}
use Rattle.des_base.specs.CommandWords.{word_at}
use Rattle.des_base.specs.Outside.{Took}
use Rattle.des_net.specs.Network.{Net}
use Rattle.inquiries.specs.Begun.{IsEmptyOr}
use Rattle.answers.specs.Explanations.{IsExplanation}
use Rattle.least_faults.specs.Answers.{asked_last, HasConflict}
use Rattle.answers.specs.declared.found.Best.{Best}
use Rattle.answers.specs.declared.found.Found.TheVariants.{Explained, Many, Undecided}
use Rattle.log_csv.specs.LogText.{log_of}
use Rattle.log_csv.specs.ScriptText.{script_of}
use Rattle.log_csv.specs.declared.row.Row.{Row as ScriptRow}
use Rattle.log_order.specs.Log.{Log}
use Rattle.model_text.specs.ModelFaults.{network_of}
use Rattle.proof_ledger.specs.Book.{BookEntry}
use Rattle.proof_ledger.specs.Checking.{IsUnsatisfiable}
use Rattle.proof_ledger.specs.Fresh.{AreFresh}
use Rattle.proof_text.specs.CnfText.{formula_of}
use Rattle.prop_core.specs.VariableNames.{Meaning}
use Rattle.replay.specs.Explanation.{NeedsFaults, IsLeast, IsAbsent, IsMany}
use Rattle.replay.specs.QuestionSize.{variable_bound}
use Rattle.report.specs.Replies.{text_of_found}
use Rattle.endings.specs.Transcripts.{Transcript}
use Rattle.endings.specs.Texts.{FileKind, limit_of, fault_of_text}
use Rattle.diagnose_cli.specs.declared.command.Limits.{Limits}
use Rattle.diagnose_cli.specs.declared.generate_command.PlantText.TheVariants.{Model, Log as LogText}
use Rattle.diagnose_cli.specs.Commands.{asking, bench, check, command_of, generate, replay, session, show, trace}
use Rattle.diagnose_cli.specs.Questions.{ForEach, diagnose_question, named_questions}
use Rattle.diagnose_cli.specs.Replies.{IsEnough}
use Rattle.diagnose_cli.specs.SessionReplies.{HasReplies}
use Rattle.diagnose_cli.specs.Tasks.{AreWords, IfCalled, NamedCommand, Reply, Task, one}
use Rattle.diagnose_cli.specs.Due.{halts}
use Rattle.diagnose_cli.specs.Outcomes.{Outcome, IsPut, IsUnbroken, ShowsReply}

-- ---- the files of a command

-- the shelf tells these bytes of a file; they aren't too long, and their text has no fault
pub record IsRead (held : List ℕ → Option (List ℕ)) (name : List ℕ) (kind : FileKind) (files : List (List ℕ)) (text : List ℕ) : Type 0 where
  pub told : held name ≡ Some text
  pub fits : length text ≤ limit_of kind
  pub well : fault_of_text kind files text ≡ None

-- so it is with all of these, from number i on
abbrev pub AreRead : (List ℕ → Option (List ℕ)) → List (List ℕ) → ℕ → List FileKind → List (List ℕ) → List (List ℕ) → Type 0
AreRead held words i [] files [] = ⊤
AreRead held words i (kind ∷ kinds) files (text ∷ texts) = IsRead held (word_at words i) kind files text × AreRead held words (i + 1) kinds (files ++ text ∷ []) texts
AreRead held words i [] files (text ∷ texts) = ⊥
AreRead held words i (kind ∷ kinds) files [] = ⊥

-- the words call the command and spell this, all its files can be read, and nothing stops it then: it lacks no fault event, and its question isn't too large
pub record ReadsFiles (o : Outcome) (c : NamedCommand Transcript) (word : c.Word) (texts : List (List ℕ)) : Type 0 where
  pub called : AreWords c word o.words
  pub files : AreRead o.loads.held o.words 1 (c.task word).files [] texts
  pub small : halts (c.task word) o.words texts ≡ None

-- the shelf tells these bytes, from number i on
abbrev pub AreTold : (List ℕ → Option (List ℕ)) → List (List ℕ) → ℕ → List (List ℕ) → Type 0
AreTold held words i [] = ⊤
AreTold held words i (text ∷ texts) = (held (word_at words i) ≡ Some text) × AreTold held words (i + 1) texts

-- the words call the command and spell this, and the shelf tells these bytes of its files, from the first on, whatever they are
pub record CallsWith (o : Outcome) (c : NamedCommand Transcript) (word : c.Word) (texts : List (List ℕ)) : Type 0 where
  pub called : AreWords c word o.words
  pub told : AreTold o.loads.held o.words 1 texts

-- ---- one row for all commands with one reply

-- where its files can be read, status and text are those of a reply that the command may give
abbrev pub Row : Outcome → (c : NamedCommand Reply) → c.Word → List (List ℕ) → Type 0
Row o c word texts = ReadsFiles o (one c) word texts → IsUnbroken o.status → ShowsReply o ((c.task word).says o.words o.book texts)

-- so it is with a command that has no files, of which none can fail
abbrev pub RowAlone : Outcome → (c : NamedCommand Reply) → c.Word → Type 0
RowAlone o c word = ReadsFiles o (one c) word [] → IsPut o.status → ShowsReply o ((c.task word).says o.words o.book [])

-- so `trace` answers, over a model text and a run text
abbrev pub TraceRow : Outcome → Type 0
TraceRow o = (text steps : List ℕ) → Row o trace tt (text ∷ steps ∷ [])

-- so `show` answers, over a model text
abbrev pub ShowRow : Outcome → Type 0
ShowRow o = (text : List ℕ) → Row o show tt (text ∷ [])

-- so `replay` answers, over a model text, a log text and a run text
abbrev pub ReplayRow : Outcome → Type 0
ReplayRow o = (steps : ℕ) (text alarms events : List ℕ) → Row o replay steps (text ∷ alarms ∷ events ∷ [])

-- so `check` answers, over a formula text and a proof text; and where the status is 0, no assignment makes all clauses of the formula true
pub record CheckRows (o : Outcome) : Type 0 where
  pub checked : (formula proof : List ℕ) → Row o check tt (formula ∷ proof ∷ [])
  pub refuted : (formula : List ℕ) → CallsWith o (one check) tt (formula ∷ []) → o.status ≡ 0 → IsUnsatisfiable (formula_of formula).clauses

-- so each question is answered, over a model text and a log text
abbrev pub AskedRow : Outcome → Type 0
AskedRow o = ForEach named_questions (λ question. (steps : ℕ) (last : question.Word) (text alarms : List ℕ) → Row o (asking question) (steps, last) (text ∷ alarms ∷ []))

-- so `generate` answers, with a model or with a log; it has no files
pub record GenerateRows (o : Outcome) : Type 0 where
  pub model : (units start : ℕ) → RowAlone o generate (record { text = Model; units = units; start = start })
  pub log : (units start : ℕ) → RowAlone o generate (record { text = LogText; units = units; start = start })

-- so `bench` answers, which has no files
abbrev pub BenchRow : Outcome → Type 0
BenchRow o = (units start : ℕ) (limits : Limits) → RowAlone o bench (record { units = units; start = start; limits = limits })

-- ---- what a session tells

-- the status is 0, and what was taken are the replies to these rows; the book is the one that they came to
pub record TellsSession (o : Outcome) (net : Net) (n budget : ℕ) (rows : List ScriptRow) : Type 0 where
  pub left : Stage
  pub texts : List (List ℕ)
  pub replied : HasReplies net n budget rows left texts
  pub book : o.book ≡ left.book
  pub shown : o.status ≡ 0
  pub put : Took o.before o.now texts

-- where its files can be read
abbrev pub SessionRow : Outcome → Type 0
SessionRow o =
    (limits : Limits) (text lines : List ℕ) → ReadsFiles o session limits (text ∷ lines ∷ []) → IsUnbroken o.status → TellsSession o (network_of text) limits.steps limits.budget (script_of lines)

-- ---- what each status of `diagnose` tells

-- the run that is printed explains the log, and nothing that explains it has fewer faults
pub record TellsLeast (o : Outcome) (net : Net) (alarms : Log) (n : ℕ) : Type 0 where
  pub best : Best
  pub given : IsExplanation net alarms n best
  pub least : IsLeast net alarms n best.faults
  pub put : Took o.before o.now (text_of_found net n (Explained best) ∷ [])

-- the run that is printed explains the log, and all that explains it has more than 255 faults
pub record TellsMany (o : Outcome) (net : Net) (alarms : Log) (n : ℕ) : Type 0 where
  pub best : Best
  pub given : IsExplanation net alarms n best
  pub many : IsMany net alarms n
  pub put : Took o.before o.now (text_of_found net n (Many best) ∷ [])

-- As many clauses were learnt as the budget allows, each of them fresh, and there is a further conflict: without a bound if no run is printed, and else within lo. By the meanings of the
-- variables, which are no more than network, log and n allow, the book poses that question. All that explains the log has at least lo faults, and a run that is printed explains it with more.
pub record TellsUndecided (o : Outcome) (net : Net) (alarms : Log) (n budget : ℕ) : Type 0 where
  pub lo : ℕ
  pub best : Option Best
  pub spent : AreFresh [] o.book budget
  pub meanings : List (ℕ × Meaning)
  pub few : length meanings ≤ variable_bound net alarms n
  pub conflict : HasConflict meanings o.book net alarms n (asked_last lo best)
  pub above : NeedsFaults net alarms n lo
  pub known : IfSome best (λ run. IsExplanation net alarms n run × (lo < run.faults))
  pub put : Took o.before o.now (text_of_found net n (Undecided lo best) ∷ [])

-- the words call `diagnose` with these steps and this budget, and the shelf tells these bytes of its files
abbrev pub CallsDiagnose : Outcome → (steps budget : ℕ) → List ℕ → List ℕ → Type 0
CallsDiagnose o steps budget text alarms = CallsWith o (one (asking diagnose_question)) (steps, budget) (text ∷ alarms ∷ [])

-- By the status of `diagnose`, over whatever two texts the shelf tells. A budget of 3 to the number of variables that network, log and steps allow decides.
pub record DiagnoseRows (o : Outcome) : Type 0 where
  pub explained : (steps budget : ℕ) (text alarms : List ℕ) → CallsDiagnose o steps budget text alarms → o.status ≡ 0 → TellsLeast o (network_of text) (log_of alarms) steps
  pub absent : (steps budget : ℕ) (text alarms : List ℕ) → CallsDiagnose o steps budget text alarms → o.status ≡ 10 → IsAbsent (network_of text) (log_of alarms) steps
  pub undecided : (steps budget : ℕ) (text alarms : List ℕ) → CallsDiagnose o steps budget text alarms → o.status ≡ 11 → TellsUndecided o (network_of text) (log_of alarms) steps budget
  pub many : (steps budget : ℕ) (text alarms : List ℕ) → CallsDiagnose o steps budget text alarms → o.status ≡ 12 → TellsMany o (network_of text) (log_of alarms) steps
  pub decided : (steps budget : ℕ) (text alarms : List ℕ) → CallsDiagnose o steps budget text alarms → IsEnough budget (network_of text) (log_of alarms) steps → o.status ≢ 11

-- ---- what is left in the book

-- Of a command that asks a question, over as many texts as it has files: nothing, or what its task says.
abbrev pub Leaves : Task Transcript → List (List ℕ) → List (List ℕ) → List BookEntry → Type 0
Leaves t words texts book = cond t.asks (length texts ≡ length t.files → IsEmptyOr (t.leaves words texts) book) ⊤

-- so it is over whatever bytes of its files are told
abbrev pub LeavesOver : (List ℕ → Option (List ℕ)) → List (List ℕ) → List BookEntry → Task Transcript → Type 0
LeavesOver held words book t = (texts : List (List ℕ)) → AreTold held words 1 texts → Leaves t words texts book

-- of what the words call
abbrev pub LeftBy : (List ℕ → Option (List ℕ)) → List (List ℕ) → List BookEntry → Type 0
LeftBy held words book = IfCalled (command_of words) (LeavesOver held words book)

-- and whatever the status
abbrev pub LeftRow : Outcome → Type 0
LeftRow o = LeftBy o.loads.held o.words o.book
