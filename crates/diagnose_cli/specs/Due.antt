-- What may come for the words of a command line: a stop by the first cause in order, what the command says, or out of memory.
use Rattle.std.specs.Prelude.{◌≢◌, IfOk, Ok, Result, ◌≡◌, ℕ, ◌+◌, List, [], ◌∷◌, ◌++◌, Bool, nat_lt, option_and_then, option_map, Option, Some, None, if◌then◌else◌, Err, IfErr, IsOkAnd, MatchOption}
use Rattle.des_base.specs.CommandWords.{word_at}
use Rattle.least_faults.specs.declared.TheConstants.{MOST_SIZE}
use Rattle.proof_ledger.specs.Book.{BookEntry}
use Rattle.endings.specs.declared.stop.Stop.{Stop}
use Rattle.endings.specs.declared.stop.Stop.TheVariants.{Usage, Faulty, NoFault, Large}
use Rattle.endings.specs.Transcripts.{Ending, OrMemory, Transcript, UnlessMemory, cut_short, once, said}
use Rattle.endings.specs.Files.{Loads, WithFile}
use Rattle.endings.specs.Texts.{FileKind, limit_of, fault_of_text}
use Rattle.endings.specs.declared.ending.Kind.TheVariants.{Undecided}
use Rattle.diagnose_cli.specs.Tasks.{IfCalled, MatchCalled, Reply, Task, told_once}
use Rattle.diagnose_cli.specs.Commands.{command_of}

-- What a command may say by its words and over the bytes of its files, where this book is left. A budget that is large enough decides.
pub record Says (t : Task Transcript) (words : List (List ℕ)) (book : List BookEntry) (texts : List (List ℕ)) (told : Transcript) : Type 0 where
  pub says : t.says words book texts told
  pub decided : t.enough words texts → told.end ≢ said Undecided

-- the size, where it is above the limit
abbrev pub above_limit : ℕ → Option ℕ
above_limit size = if nat_lt MOST_SIZE size then Some size else None

-- the stop by these two causes, of which the first goes before the second
abbrev pub stop_by : Bool → Option ℕ → Option Stop
stop_by lacks size = if lacks then Some NoFault else option_map (λ n. Large n) size

-- the size of the question that a command asks over the bytes of its files, where it is above the limit
abbrev pub too_large : Task Transcript → List (List ℕ) → Option ℕ
too_large t texts = option_and_then above_limit (t.size texts)

-- why a command stops after its files: it lacks a fault event, or its question is too large
abbrev pub halts : Task Transcript → List (List ℕ) → List (List ℕ) → Option Stop
halts t words files = stop_by (t.lacks_fault words files) (too_large t files)

-- the end of a question of this size: it is above the limit, or this is said
abbrev pub EndsBySize : {T : Type 0} → ℕ → (T → Type 0) → Result T Stop → Type 0
EndsBySize size says e = MatchOption (option_map (λ n. Large n) (above_limit size)) (IsOkAnd e says) (λ stop. e ≡ Err stop)

-- after its files a command stops so, or says what it may
abbrev pub Closes : Task Transcript → List (List ℕ) → List BookEntry → List (List ℕ) → Ending → Type 0
Closes t words book files e = MatchOption (halts t words files) (IsOkAnd e (Says t words book files)) (λ stop. e ≡ Err stop)

-- The files from number i on, in order: for each its load, its length and its text. Then the end.
abbrev pub InOrder : Loads → List (List ℕ) → ℕ → List FileKind → List (List ℕ) → (List (List ℕ) → Ending → Type 0) → Ending → Type 0
InOrder l words i [] files closes e = closes files e
InOrder l words i (kind ∷ kinds) files closes e =
    WithFile l i (word_at words i) (limit_of kind)
    (λ bytes e. MatchOption (fault_of_text kind files bytes) (InOrder l words (i + 1) kinds (files ++ bytes ∷ []) closes e) (λ text. e ≡ Err (Faulty text))) e

-- what may be answered to a command with this book left: its files in order, which stand from word 1 on, and then the end
abbrev pub MayAnswer : Loads → List (List ℕ) → Task Transcript → List BookEntry → Ending → Type 0
MayAnswer l words t book = InOrder l words 1 t.files [] (Closes t words book)

-- what may be answered for these words with this book left, unless memory runs out
abbrev pub Due : Loads → List (List ℕ) → List BookEntry → Ending → Type 0
Due l words book e = MatchCalled (command_of words) (e ≡ Err Usage) (λ t. MayAnswer l words t book e)

-- It may come with this book left. Where it says why there is no reply, the book is empty, as it is before a question is asked.
pub record StopsEmpty (may : Ending → Type 0) (book : List BookEntry) (e : Ending) : Type 0 where
  pub comes : may e
  pub empty : IfErr e (λ stop. book ≡ [])

-- what is so of the book where memory ran out before anything was said
abbrev pub HasNotBegun : List (List ℕ) → List BookEntry → Type 0
HasNotBegun words book = IfCalled (command_of words) (λ t. t.lost book)

-- What may come for these words with this book left: what is due, or out of memory before any text is put, where a command with several replies leaves an empty book. A stop leaves an empty book. That a session ran out of memory at one of its rows, or `verdicts` at one of its questions, is due too, with the book that it came to.
abbrev pub MayCome : Loads → List (List ℕ) → List BookEntry → Ending → Type 0
MayCome l words book = OrMemory (StopsEmpty (Due l words book) book) (HasNotBegun words book)

-- ---- one reply

-- A reply that a command may give by its words and over the bytes of its files, where this book is left.
pub record MayReply (t : Task Reply) (words : List (List ℕ)) (book : List BookEntry) (texts : List (List ℕ)) (reply : Reply) : Type 0 where
  pub says : t.says words book texts reply
  pub decided : t.enough words texts → reply.0 ≢ Undecided

-- after its files a command with one reply stops as others do, or gives such a reply
abbrev pub ClosesOnce : Task Reply → List (List ℕ) → List BookEntry → List (List ℕ) → Result Reply Stop → Type 0
ClosesOnce t words book texts answer = MatchOption (halts (told_once t) words texts) (IsOkAnd answer (MayReply t words book texts)) (λ stop. answer ≡ Err stop)

-- a reply that is due may also be cut short
pub record IsDue (l : Loads) (words : List (List ℕ)) (book : List BookEntry) (answer : Result Reply Stop) : Type 0 where
  pub due : UnlessMemory answer (Due l words book (once answer))
  pub cut : IfOk answer (λ reply. Due l words book (Ok (cut_short reply)))
  pub begun : HasNotBegun words book
