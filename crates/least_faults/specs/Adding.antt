-- An addition to the log of a question whose clauses stand in a book: the room that is made for it, and what the question and its book have with it.
use Rattle.std.specs.Prelude.{◌≡◌, ℕ, ◌+◌, ◌-◌, ◌*◌, ◌≤◌, Bool, true, false, if◌then◌else◌, List, [], ◌∷◌, ◌++◌, length, map, sum_by}
use Rattle.card_counter.specs.CounterState.{AreAlike}
use Rattle.card_counter.specs.Growing.{HasRoom}
use Rattle.des_base.specs.declared.TheConstants.{VAR_LIMIT}
use Rattle.des_net.specs.Network.{Net}
use Rattle.least_faults.specs.Bounds.{question_variables}
use Rattle.least_faults.specs.Parts.{built_of}
use Rattle.least_faults.specs.declared.adding.Reserved.{Reserved}
use Rattle.least_faults.specs.declared.parts.Parts.{Parts}
use Rattle.question_clauses.specs.Additions.{Addition, alarm_added, pair_added, with_addition}
use Rattle.log_encode.specs.Drafted.{DraftState, IsDraftOf, HasRoomFor}
use Rattle.log_order.specs.Log.{Log}
use Rattle.proof_ledger.specs.Book.{BookEntry, axiomatic}
use Rattle.proof_ledger.specs.Kept.{LedgerState}
use Rattle.prop_core.specs.Clauses.{Clause}
use Rattle.prop_core.specs.declared.lit.Lit.{Lit}
use Rattle.replay.specs.QuestionSize.{question_size}
use Rattle.run_decode.specs.QuestionAxioms.{added_axioms, added_built}

-- ---- what the counter gets

-- the addition may be false, which the counter then counts
abbrev pub is_doubted : Addition → Bool
is_doubted (alarm_added new) = new.doubtful
is_doubted (pair_added i j) = false

-- how many inputs the counter gets with an alarm: one if it is doubtful, else none
abbrev pub input_count : Bool → ℕ
input_count doubtful = if doubtful then 1 else 0

-- the last of the variables below a number, true
abbrev pub last_literal : ℕ → Lit
last_literal vars = record { var = vars - 1; positive = true }

-- A doubtful alarm is false where the last variable of its code is true.
abbrev pub new_inputs : Bool → ℕ → List Lit
new_inputs doubtful vars = if doubtful then last_literal vars ∷ [] else []

-- ---- room for it

-- There is room for a draft and for `cells` cells of the counter, each with at most 2 clauses and 5 literals in them: in the code of the log, in the counter, in the book and in the solver, which has the variables.
pub record HasRoomForDraft {R : Type 0} (draft : DraftState) (doubtful : Bool) (cells : ℕ) (parts : Parts R) (book : LedgerState) : Type 0 where
  pub coded : HasRoomFor parts.code draft.addition
  pub counted : input_count doubtful ≤ parts.counter.spare_inputs
  pub entered : 2 * cells + length draft.clauses ≤ book.spare_clauses
  pub spelt : 5 * cells + sum_by length draft.clauses ≤ book.spare_literals
  pub attached : 2 * cells + length draft.clauses ≤ parts.solver.spare
  pub values : parts.vars + draft.vars + cells ≤ parts.solver.vars

-- how many cells the counter's new input has, one in each column
abbrev pub cell_count : {R : Type 0} → Bool → Parts R → ℕ
cell_count doubtful parts = input_count doubtful * length parts.counter.columns

-- The draft is of the log of these parts, on the next variables, and with it the question keeps the limit of variables. There is room for all that comes with it.
pub record IsReserved {R : Type 0} (parts : Parts R) (book : LedgerState) (reserved : Reserved) : Type 0 where
  pub drafted : IsDraftOf parts.code.coded reserved.draft.addition parts.vars reserved.draft
  pub doubted : reserved.doubtful ≡ is_doubted reserved.draft.addition
  pub fits : question_variables parts.step.net (with_addition parts.code.coded.log reserved.draft.addition) parts.step.steps ≤ VAR_LIMIT
  pub written : reserved.clauses.clauses ≡ reserved.draft.clauses
  pub store : HasRoom reserved.clauses (2 * cell_count reserved.doubtful parts) (5 * cell_count reserved.doubtful parts)
  pub room : HasRoomForDraft reserved.draft reserved.doubtful (cell_count reserved.doubtful parts) parts book

-- The question and its book are as they were, and so is what ranks its variables. There is perhaps more room.
pub record KeepsAllButRoom {R : Type 0} (old new : Parts R) (old_book new_book : List BookEntry) : Type 0 where
  pub step : new.step ≡ old.step
  pub code : new.code.coded ≡ old.code.coded
  pub counter : AreAlike old.counter new.counter
  pub vars : new.vars ≡ old.vars
  pub rank : new.solver.order.rank ≡ old.solver.order.rank
  pub book : new_book ≡ old_book

-- ---- what there is with it

-- Parts and axioms are what was built before, with this addition. Its axioms are all that the book got, and what ranks is as it was.
pub record HasAddition {R : Type 0} (addition : Addition) (old new : Parts R) (old_book new_book : List BookEntry) : Type 0 where
  pub built : built_of new new_book ≡ added_built (built_of old old_book) addition
  pub put : new_book ≡ old_book ++ map axiomatic (added_axioms (built_of old old_book) addition)
  pub rank : new.solver.order.rank ≡ old.solver.order.rank

-- Axioms were added, and nothing else: at most 12 for each unit by which the size of the question grew, and 12.
pub record AddsFew (net : Net) (n : ℕ) (before now : Log) (old new : List BookEntry) : Type 0 where
  pub axioms : List Clause
  pub more : new ≡ old ++ map axiomatic axioms
  pub few : length axioms + 12 * question_size net before n ≤ 12 * question_size net now n + 12
