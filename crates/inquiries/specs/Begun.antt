-- A question that is written into a book, before anything is asked of it, and what stays of it whatever is asked.
use Rattle.std.specs.Prelude.{◌≡◌, ◌⊎◌, ◌≤◌, ℕ, List, [], map, count_by, Option, None, Some}
use Rattle.answers.specs.declared.found.Found.{Found}
use Rattle.des_base.specs.declared.TheConstants.{MOST_STEPS}
use Rattle.des_net.specs.Network.{Net}
use Rattle.least_faults.specs.declared.parts.Parts.{Parts}
use Rattle.least_faults.specs.Answers.{IsAnswered, IsOpenAtMost}
use Rattle.least_faults.specs.Parts.{AreReady, BelongTo, IsBuilt}
use Rattle.log_order.specs.Log.{Log}
use Rattle.proof_ledger.specs.Book.{BookEntry, axiomatic, axioms_of, IsValidBook}
use Rattle.proof_ledger.specs.Fresh.{is_learnt}
use Rattle.prop_core.specs.VariableNames.{Meaning}
use Rattle.run_decode.specs.QuestionAxioms.{question_axioms, question_built}
use Rattle.sat_solve.specs.Leaving.{HaveLearntFresh}

-- The axioms of the book are those of a question about network and log, and the parts are theirs.
pub record ArePartsOf {R : Type 0} (may : R → ℕ → Type 0) (gives : R → ℕ → ℕ → Type 0) (net : Net) (log : Log) (parts : Parts R) (book : List BookEntry) : Type 0 where
  pub belong : BelongTo net log parts
  pub ready : AreReady may gives parts book
  pub built : IsBuilt net log parts.step.steps parts book

-- The book has the axioms of the question without columns, and nothing else.
pub record HasBegun {R : Type 0} (may : R → ℕ → Type 0) (gives : R → ℕ → ℕ → Type 0) (net : Net) (log : Log) (parts : Parts R) (book : List BookEntry) : Type 0 where
  pub parts_of : ArePartsOf may gives net log parts book
  pub axioms : book ≡ map axiomatic (question_axioms net log parts.step.steps 0)
  pub columns : parts.counter.columns ≡ []
  pub few : parts.step.steps ≤ MOST_STEPS

-- ---- what is left

-- The axioms of the book are those of the question with some number of columns, in their order, and P holds of the question and the book.
pub record HasQuestion (net : Net) (log : Log) (n : ℕ) (P : Net → Log → ℕ → List BookEntry → Type 0) (book : List BookEntry) : Type 0 where
  pub columns : ℕ
  pub axioms : axioms_of book ≡ question_axioms net log n columns
  pub beside : P net log n book

-- the book is empty, or P of it
abbrev pub IsEmptyOr : (List BookEntry → Type 0) → List BookEntry → Type 0
IsEmptyOr P book = (book ≡ []) ⊎ P book

-- the book is empty, or a question stands in it so
abbrev pub LeavesQuestion : Net → Log → ℕ → (Net → Log → ℕ → List BookEntry → Type 0) → List BookEntry → Type 0
LeavesQuestion net log n P = IsEmptyOr (HasQuestion net log n P)

-- the book has axioms and nothing else
abbrev pub HasAxiomsAlone : List BookEntry → Type 0
HasAxiomsAlone book = book ≡ map axiomatic (axioms_of book)

-- at most as many clauses were learnt as the budget says, each of them fresh, and each derives by its hints from those before it
pub record HasLearntWithin (budget : ℕ) (book : List BookEntry) : Type 0 where
  pub within : count_by is_learnt book ≤ budget
  pub fresh : HaveLearntFresh [] book
  pub valid : IsValidBook book

-- the axioms of the question without columns, as they stand before anything is asked
abbrev pub unasked_book : Net → Log → ℕ → List BookEntry
unasked_book net log n = map axiomatic (question_axioms net log n 0)

-- behind these axioms the question was asked and answered
pub record IsAnsweredOnce (net : Net) (log : Log) (n budget : ℕ) (book : List BookEntry) : Type 0 where
  pub meanings : List (ℕ × Meaning)
  pub found : Found
  pub answered : IsAnswered meanings (question_built net log n 0) net log n budget (unasked_book net log n) book found

-- behind them nothing was asked, or the question is left open
pub record IsOpenOnce (net : Net) (log : Log) (n budget : ℕ) (book : List BookEntry) : Type 0 where
  pub meanings : List (ℕ × Meaning)
  pub unanswered : IsOpenAtMost meanings net log n budget (unasked_book net log n) book

-- The question was asked once at most: no more was learnt than the budget says, and behind the axioms stand an answer, with what shows it, or an open question, or nothing.
pub record HasAskedWithin (budget : ℕ) (net : Net) (log : Log) (n : ℕ) (book : List BookEntry) : Type 0 where
  pub learnt : HasLearntWithin budget book
  pub once : IsAnsweredOnce net log n budget book ⊎ IsOpenOnce net log n budget book

-- it was asked once with this budget, and without one nothing was asked
abbrev pub MayLearn : Option ℕ → Net → Log → ℕ → List BookEntry → Type 0
MayLearn None = λ net log n. HasAxiomsAlone
MayLearn (Some budget) = HasAskedWithin budget
