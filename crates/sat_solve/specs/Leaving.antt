-- What a question leaves in its book, whatever it asks: the entries that it put there, with the marks around them.
use Rattle.std.specs.Prelude.{◌≡◌, ℕ, ◌+◌, ◌≤◌, false, List, [], ◌∷◌, ◌++◌, map, Contains, count_by}
use Rattle.std.specs.List.{list_any}
use Rattle.prop_core.specs.Clauses.{Clause, NegatesOnly}
use Rattle.prop_core.specs.declared.lit.Lit.{Lit}
use Rattle.proof_ledger.specs.Book.{BookEntry, axiomatic, final, mark, is_mark}
use Rattle.proof_ledger.specs.Fresh.{AreFresh, is_learnt}
use Rattle.sat_solve.specs.Searching.{is_final}

-- each clause that was learnt since then was fresh
abbrev pub HaveLearntFresh : List BookEntry → List BookEntry → Type 0
HaveLearntFresh earlier since = AreFresh earlier since (count_by is_learnt since)

-- ---- final entries

-- this holds of the clause of each final entry
abbrev pub EachFinal : (Clause → Type 0) → List BookEntry → Type 0
EachFinal holds entries = (clause : Clause) (hints : List ℕ) → Contains entries (final clause hints) → holds clause

-- some final entry has no literals but negations of assumptions
pub record HasFinal (entries : List BookEntry) (assumed : List Lit) : Type 0 where
  pub clause : Clause
  pub hints : List ℕ
  pub there : Contains entries (final clause hints)
  pub negates : NegatesOnly assumed clause

-- the last final entry has no literals but negations of assumptions
pub record HasLastFinal (entries : List BookEntry) (assumed : List Lit) : Type 0 where
  pub earlier : List BookEntry
  pub clause : Clause
  pub hints : List ℕ
  pub later : List BookEntry
  pub whole : entries ≡ earlier ++ final clause hints ∷ later
  pub last : list_any is_final later ≡ false
  pub negates : NegatesOnly assumed clause

-- ---- while it is asked

-- the book got axioms, and nothing else
pub record AddsAxioms (old new : List BookEntry) : Type 0 where
  pub axioms : List Clause
  pub more : new ≡ old ++ map axiomatic axioms

-- no marks were put, and as many learnt entries as were paid for, each of them fresh
pub record IsSearching (old new : List BookEntry) (budget_old budget_new : ℕ) : Type 0 where
  pub since : List BookEntry
  pub whole : new ≡ old ++ since
  pub unmarked : (number : ℕ) → count_by (is_mark number) since ≡ 0
  pub paid : count_by is_learnt since + budget_new ≡ budget_old
  pub fresh : HaveLearntFresh old since

-- no final entry was put, as long as a question has no answer yet
pub record PutsNoFinal (old new : List BookEntry) : Type 0 where
  pub since : List BookEntry
  pub whole : new ≡ old ++ since
  pub none : list_any is_final since ≡ false

-- this holds of the clause of each final entry that was put, and there are at most so many
pub record PutsFinals (holds : Clause → Type 0) (most : ℕ) (old new : List BookEntry) : Type 0 where
  pub since : List BookEntry
  pub whole : new ≡ old ++ since
  pub finals : EachFinal holds since
  pub few : count_by is_final since ≤ most

-- ---- what is left

-- The entries that a question put, with what stands around them: no mark is among them, at most as many learnt ones as the budget says, each of them fresh behind the earlier ones, and at most so many final ones, of whose clauses this holds.
pub record LeavesEntries (holds : Clause → Type 0) (most budget : ℕ) (earlier : List BookEntry) (around : List BookEntry → List BookEntry) (book : List BookEntry) : Type 0 where
  pub since : List BookEntry
  pub whole : book ≡ around since
  pub unmarked : (number : ℕ) → count_by (is_mark number) since ≡ 0
  pub within : count_by is_learnt since ≤ budget
  pub fresh : HaveLearntFresh earlier since
  pub finals : EachFinal holds since
  pub few : count_by is_final since ≤ most

-- nothing stands around them yet
abbrev pub LeavesBare : (Clause → Type 0) → (most budget : ℕ) → List BookEntry → List BookEntry → Type 0
LeavesBare holds most budget old new = LeavesEntries holds most budget old (λ since. old ++ since) new

-- The question was opened by a mark 0 and has no answer: no mark stands behind that one.
abbrev pub LeavesOpen : (Clause → Type 0) → (most budget : ℕ) → List BookEntry → List BookEntry → Type 0
LeavesOpen holds most budget old new = LeavesEntries holds most budget (old ++ mark 0 ∷ []) (λ since. old ++ mark 0 ∷ since) new

-- It was opened by a mark 0 and closed by a mark 1.
abbrev pub LeavesClosed : (Clause → Type 0) → (most budget : ℕ) → List BookEntry → List BookEntry → Type 0
LeavesClosed holds most budget old new = LeavesEntries holds most budget (old ++ mark 0 ∷ []) (λ since. old ++ mark 0 ∷ since ++ mark 1 ∷ []) new
