-- How a question and its book grow together.
use Rattle.std.specs.Prelude.{◌≡◌, ◌≤◌, ℕ, List, ◌++◌, length, map, take, count_by}
use Rattle.card_counter.specs.CounterState.{CounterState}
use Rattle.least_faults.specs.declared.parts.Parts.{Parts}
use Rattle.sat_solve.specs.Leaving.{HaveLearntFresh}
use Rattle.least_faults.specs.Columns.{columns_built}
use Rattle.least_faults.specs.Parts.{built_of}
use Rattle.proof_ledger.specs.Book.{BookEntry, axiomatic}
use Rattle.proof_ledger.specs.Fresh.{is_learnt}
use Rattle.prop_core.specs.Clauses.{Clause}

-- the counter has the same inputs, and perhaps further columns
pub record KeepsColumns (old new : CounterState) : Type 0 where
  pub inputs : new.inputs ≡ old.inputs
  pub columns : List (List ℕ)
  pub more : new.columns ≡ old.columns ++ columns

-- The question stays: the code of its steps and of its log, and what ranks its variables. The counter perhaps has further columns, and parts and axioms are what was built before, with these columns.
pub record KeepsQuestion {R : Type 0} (old new : Parts R) (old_book new_book : List BookEntry) : Type 0 where
  pub step : new.step ≡ old.step
  pub code : new.code ≡ old.code
  pub counter : KeepsColumns old.counter new.counter
  pub rank : new.solver.order.rank ≡ old.solver.order.rank
  pub built : built_of new new_book ≡ columns_built (built_of old old_book) (length counter.columns)

-- the book has a front of these axioms, and nothing else
pub record HasFrontOf (axioms : List Clause) (book : List BookEntry) : Type 0 where
  pub count : ℕ
  pub front : book ≡ map axiomatic (take count axioms)

-- the book got further entries, of which no more are learnt clauses than the budget says, each of them fresh
pub record HasGrownWithin (budget : ℕ) (old new : List BookEntry) : Type 0 where
  pub since : List BookEntry
  pub whole : new ≡ old ++ since
  pub within : count_by is_learnt since ≤ budget
  pub fresh : HaveLearntFresh old since

-- counter and book are as before
pub record StandsStill (old new : CounterState) (old_book new_book : List BookEntry) : Type 0 where
  pub counter : new ≡ old
  pub book : new_book ≡ old_book
