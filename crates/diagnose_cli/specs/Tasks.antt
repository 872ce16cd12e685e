-- What a command is: the name by which words call it, what its other words spell, and what it has to do then. Each has one record of this, from which all that is said of every command is derived.
use Rattle.std.specs.Prelude.{◌≡◌, ⊤, ℕ, List, [], ◌∷◌, length, Bool, true, false, cond, nat_eq, bytes_eq, if◌then◌else◌, Option, Some, None}
use Rattle.des_base.specs.CommandWords.{word_at}
use Rattle.proof_ledger.specs.Book.{BookEntry}
use Rattle.endings.specs.declared.ending.Kind.{Kind}
use Rattle.endings.specs.Texts.{FileKind}
use Rattle.endings.specs.Transcripts.{IsOne, Transcript}

-- one reply: its kind and its text
abbrev pub Reply : Type 0
Reply = Kind × List ℕ

-- Which files a command has. By the words and the bytes of its files: whether a word names no fault event where it has to, the size of the question that is asked, and what may be said where this book is left. Then whether a question is asked; what that leaves in the book, unless the book is empty; what is so of the book where memory runs out before anything is said; and whether the budget is large enough to decide.
pub record Task (S : Type 0) : Type 1 where
  pub files : List FileKind
  pub lacks_fault : List (List ℕ) → List (List ℕ) → Bool
  pub size : List (List ℕ) → Option ℕ
  pub says : List (List ℕ) → List BookEntry → List (List ℕ) → S → Type 0
  pub asks : Bool
  pub leaves : List (List ℕ) → List (List ℕ) → List BookEntry → Type 0
  pub lost : List BookEntry → Type 0
  pub enough : List (List ℕ) → List (List ℕ) → Type 0

-- ---- over as many texts as there are

-- P, where there is no text
abbrev pub OverNone : List (List ℕ) → Type 0 → Type 0
OverNone [] P = P
OverNone _ P = ⊥

-- P of the one text that there is
abbrev pub OverOne : List (List ℕ) → (List ℕ → Type 0) → Type 0
OverOne (text ∷ []) P = P text
OverOne _ P = ⊥

-- P of the two texts that there are
abbrev pub OverTwo : List (List ℕ) → (List ℕ → List ℕ → Type 0) → Type 0
OverTwo (text ∷ second ∷ []) P = P text second
OverTwo _ P = ⊥

-- P of the three texts that there are
abbrev pub OverThree : List (List ℕ) → (List ℕ → List ℕ → List ℕ → Type 0) → Type 0
OverThree (text ∷ second ∷ third ∷ []) P = P text second third
OverThree _ P = ⊥

-- the size of a question about one text
abbrev pub size_over_one : List (List ℕ) → (List ℕ → ℕ) → Option ℕ
size_over_one (text ∷ []) size = Some (size text)
size_over_one _ size = None

-- the size of a question about two texts
abbrev pub size_over_two : List (List ℕ) → (List ℕ → List ℕ → ℕ) → Option ℕ
size_over_two (text ∷ second ∷ []) size = Some (size text second)
size_over_two _ size = None

-- the size of a question about three texts
abbrev pub size_over_three : List (List ℕ) → (List ℕ → List ℕ → List ℕ → ℕ) → Option ℕ
size_over_three (text ∷ second ∷ third ∷ []) size = Some (size text second third)
size_over_three _ size = None

-- ---- a command that says several replies

-- By the bytes of its files the size of its question, what it may say where this book is left, and what it leaves in the book, unless the book is empty; then what is so of the book where memory runs out before anything is said.
pub record Speech : Type 1 where
  pub size : List (List ℕ) → Option ℕ
  pub says : List BookEntry → List (List ℕ) → Transcript → Type 0
  pub leaves : List (List ℕ) → List BookEntry → Type 0
  pub lost : List BookEntry → Type 0

-- over files of these kinds; of no budget it is said that it decides all that is asked
abbrev pub speaking : List FileKind → Speech → Task Transcript
speaking files speech = record { files = files; lacks_fault = λ words texts. false; size = speech.size; says = λ words. speech.says; asks = true; leaves = λ words. speech.leaves; lost = speech.lost; enough = λ words texts. ⊥ }

-- ---- a command that has a name

-- a command that asks nothing has files and says something over their bytes
abbrev pub asking_nothing : List FileKind → (List (List ℕ) → Reply → Type 0) → Task Reply
asking_nothing files says = record { files = files; lacks_fault = λ words texts. false; size = λ texts. None; says = λ words book texts reply. says texts reply; asks = false; leaves = λ words texts book. ⊤; lost = λ book. ⊤; enough = λ words texts. ⊥ }

-- Its first word, how many words call it, and what they spell. By that what it has to do.
pub record NamedCommand (S : Type 0) : Type 1 where
  pub name : List ℕ
  pub count : ℕ
  pub Word : Type 0
  pub spelled : List (List ℕ) → Option Word
  pub task : Word → Task S

-- what so many words spell
abbrev pub read_words : {S : Type 0} → (c : NamedCommand S) → List (List ℕ) → Option c.Word
read_words c words = if nat_eq (length words) c.count then c.spelled words else None

-- the words call the command, and spell this
pub record AreWords {S : Type 0} (c : NamedCommand S) (word : c.Word) (words : List (List ℕ)) : Type 0 where
  pub name : word_at words 0 ≡ c.name
  pub read : read_words c words ≡ Some word

-- one reply is what it says
abbrev pub told_once : Task Reply → Task Transcript
told_once t = record { files = t.files; lacks_fault = t.lacks_fault; size = t.size; says = λ words book texts. IsOne (t.says words book texts); asks = t.asks; leaves = t.leaves; lost = λ book. ⊤; enough = t.enough }

-- such a command, which says one reply
abbrev pub one : NamedCommand Reply → NamedCommand Transcript
one c = record { name = c.name; count = c.count; Word = c.Word; spelled = c.spelled; task = λ word. told_once (c.task word) }

-- ---- what words call

-- a task, or nothing
pub data Called : Type 1 where
  NoCommand : Called
  Calls : Task Transcript → Called

-- what is called by what the words spell
abbrev pub calls_by : (c : NamedCommand Transcript) → Option c.Word → Called
calls_by c None = NoCommand
calls_by c (Some word) = Calls (c.task word)

-- that of the command of this name among these, by what the words spell
abbrev pub called_among : List (NamedCommand Transcript) → List ℕ → List (List ℕ) → Called
called_among [] name words = NoCommand
called_among (c ∷ others) name words = cond (bytes_eq name c.name) (calls_by c (read_words c words)) (called_among others name words)

-- N where nothing is called, and P of what is
abbrev pub MatchCalled : Called → Type 0 → (Task Transcript → Type 0) → Type 0
MatchCalled NoCommand N P = N
MatchCalled (Calls t) N P = P t

-- P of the task, if there is one
abbrev pub IfCalled : Called → (Task Transcript → Type 0) → Type 0
IfCalled called P = MatchCalled called ⊤ P
