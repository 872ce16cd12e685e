-- A session: a log that grows, and questions about it, over one book.
use Rattle.std.specs.Prelude.{◌≡◌, ℕ, ◌+◌, ◌*◌, ◌≤◌, List, length, map, Option, None}
use Rattle.alarm_session.specs.Additions.{built_on, next_id}
use Rattle.alarm_session.specs.declared.kept.Kept.{Kept}
use Rattle.alarm_session.specs.declared.kept.Drafted.{Drafted}
use Rattle.des_base.specs.declared.TheConstants.{VAR_LIMIT}
use Rattle.des_net.specs.Network.{Net}
use Rattle.des_net.specs.QuestionSize.{component_sizes}
use Rattle.least_faults.specs.Adding.{AddsFew}
use Rattle.least_faults.specs.Answers.{IsAnswered, IsOpenAtMost}
use Rattle.least_faults.specs.Bounds.{question_variables}
use Rattle.least_faults.specs.Columns.{columns_built}
use Rattle.least_faults.specs.Evidence.{IsPosed}
use Rattle.least_faults.specs.Growing.{HasGrownWithin}
use Rattle.least_faults.specs.Parts.{AreParts, AreReady, BelongTo, IsWithinLimits, built_of}
use Rattle.answers.specs.declared.found.Found.{Found}
use Rattle.question_clauses.specs.Additions.{Addition, with_addition}
use Rattle.log_encode.specs.Drafted.{IsDraftOf}
use Rattle.log_order.specs.Log.{Log, no_log}
use Rattle.proof_ledger.specs.Book.{BookEntry, axiomatic, axioms_of, clauses_of, IsValidBook}
use Rattle.prop_core.specs.VariableNames.{Meaning}
use Rattle.prop_core.specs.declared.lit.Lit.{Lit}
use Rattle.replay.specs.QuestionSize.{question_size}
use Rattle.run_decode.specs.QuestionAxioms.{BuiltQuestion, question_axioms, question_built, roomless}
use Rattle.sat_order.specs.Rank.{OrderState}
use Rattle.sat_solve.specs.Searching.{HasAxiomVars}

-- how far a session has come: the log so far, its question as it is built, and the book
pub record Stage : Type 0 where
  pub log : Log
  pub built : BuiltQuestion
  pub book : List BookEntry

-- with an empty log, the question of that without columns, and its axioms alone in the book
abbrev pub first_stage : Net → ℕ → Stage
first_stage net n = record { log = no_log; built = question_built net no_log n 0; book = map axiomatic (question_axioms net no_log n 0) }

-- the network, the number of steps, how far it has come, and the order of the variables
pub record SessionState (R : Type 0) : Type 0 where
  pub net : Net
  pub steps : ℕ
  pub stage : Stage
  pub order : OrderState R

-- ---- what is kept

-- what is built doesn't depend on the room that was made in it
abbrev pub stage_of : {R : Type 0} → Kept R → Stage
stage_of kept = record { log = kept.log; built = roomless (built_of kept.parts kept.book.entries); book = kept.book.entries }

-- The log is within the limits, its size is known, and the parts are coded for it.
pub record IsFor {R : Type 0} (net : Net) (n : ℕ) (kept : Kept R) : Type 0 where
  pub limits : IsWithinLimits net kept.log n
  pub size : kept.size ≡ question_size net kept.log n
  pub belong : BelongTo net kept.log kept.parts
  pub time : kept.parts.step.steps ≡ n

-- The parts are those of the log, and their clauses are the axioms of the book, in which all variables of its clauses occur; the solver has adopted these clauses.
pub record IsKept {R : Type 0} (net : Net) (n : ℕ) (kept : Kept R) : Type 0 where
  pub of_log : IsFor net n kept
  pub coded : AreParts kept.parts.step kept.parts.code.coded kept.parts.counter kept.parts.vars (axioms_of kept.book.entries)
  pub known : HasAxiomVars kept.book.entries
  pub adopted_all : kept.parts.solver.adopted ≡ clauses_of kept.book.entries
  pub enough : kept.parts.vars ≤ kept.parts.solver.vars

-- The same, and the stored ranks are what was answered.
pub record IsRankedKept {R : Type 0} (may : R → ℕ → Type 0) (gives : R → ℕ → ℕ → Type 0) (net : Net) (n : ℕ) (kept : Kept R) : Type 0 where
  pub of_log : IsFor net n kept
  pub ready : AreReady may gives kept.parts kept.book.entries

-- An addition is drafted that makes this log, of this size, which is within the limits.
pub record IsDraftedFor {R : Type 0} (net : Net) (n : ℕ) (kept : Kept R) (addition : Addition) (new : Log) (drafted : Drafted) : Type 0 where
  pub draft : IsDraftOf kept.parts.code.coded addition kept.parts.vars drafted.draft
  pub fits : question_variables kept.parts.step.net (with_addition kept.parts.code.coded.log addition) kept.parts.step.steps ≤ VAR_LIMIT
  pub size : drafted.size ≡ question_size net new n
  pub limits : IsWithinLimits net new n

-- It has come to nothing yet, and ranks by this.
pub record IsAtFirstStage {R : Type 0} (net : Net) (n : ℕ) (rank : R) (kept : Kept R) : Type 0 where
  pub stage : stage_of kept ≡ first_stage net n
  pub rank_is : kept.parts.solver.order.rank ≡ rank

-- ---- what each call leaves

-- a session begins like this
pub record BeginsAs {R : Type 0} (net : Net) (n : ℕ) (rank : R) (session : SessionState R) : Type 0 where
  pub net_is : session.net ≡ net
  pub steps : session.steps ≡ n
  pub stage : session.stage ≡ first_stage net n
  pub rank_is : session.order.rank ≡ rank

-- It is about the same network and as many steps, and ranks by what ranked before.
pub record KeepsSetting {R : Type 0} (old new : SessionState R) : Type 0 where
  pub net : new.net ≡ old.net
  pub steps : new.steps ≡ old.steps
  pub rank : new.order.rank ≡ old.order.rank

-- The log became this one, its question is built further with what was added, and few axioms were put into the book, and nothing else.
pub record Becomes (net : Net) (n : ℕ) (wanted : Log) (added : Option Addition) (old new : Stage) : Type 0 where
  pub log : new.log ≡ wanted
  pub built : new.built ≡ built_on (next_id old.log.alarms wanted) old.built added
  pub few : AddsFew net n old.log wanted old.book new.book

-- The log stays, its question perhaps gets further columns, and the book got entries, of which no more are learnt clauses than the budget says, each of them fresh.
pub record KeepsLog (budget : ℕ) (old new : Stage) : Type 0 where
  pub log : new.log ≡ old.log
  pub columns : ℕ
  pub built : new.built ≡ columns_built old.built columns
  pub grown : HasGrownWithin budget old.book new.book

-- The answer of the log so far, with what shows it in the valid book: entries that were put since the question was opened, as it was built so far.
pub record IsToldBy (net : Net) (n budget : ℕ) (old new : Stage) (found : Found) : Type 0 where
  pub meanings : List (ℕ × Meaning)
  pub answered : IsAnswered meanings old.built net old.log n budget old.book new.book found
  pub valid : IsValidBook new.book

-- The question of the log so far has no answer: it is open at most, and each final entry negates what it assumes.
abbrev pub IsUnanswered : Net → ℕ → ℕ → Stage → Stage → Type 0
IsUnanswered net n budget old new = (meanings : List (ℕ × Meaning)) × IsOpenAtMost meanings net old.log n budget old.book new.book

-- ---- what always holds of the book

-- By some meanings, and with some assumptions, the axioms ask what explains the log: they are faithful and drawn.
pub record Poses (net : Net) (log : Log) (n : ℕ) (book : List BookEntry) : Type 0 where
  pub meanings : List (ℕ × Meaning)
  pub assumed : List Lit
  pub posed : IsPosed meanings (axioms_of book) assumed net log n None

-- The book is lean, so that no question was written again: at most 12 axioms for each unit of the size, of the sizes of the components, and for each alarm and each pair, and 512.
abbrev pub IsLean : List BookEntry → Net → Log → ℕ → Type 0
IsLean book net log n = length (axioms_of book) ≤ 12 * (question_size net log n + component_sizes net + length log.alarms + length log.pairs) + 512

-- What a session's book says. Its axioms are, as a list, those of the question as it is built.
pub record IsSessionBook (net : Net) (n : ℕ) (stage : Stage) : Type 0 where
  pub axioms : axioms_of stage.book ≡ stage.built.axioms
  pub poses : Poses net stage.log n stage.book
  pub lean : IsLean stage.book net stage.log n
  pub valid : IsValidBook stage.book
