-- Learnt clauses that are worth their place: unit propagation had not found them before.
use Rattle.std.specs.Prelude.{◌≡◌, ℕ, ◌<◌, Bool, true, false, List, length, count_by, ⊤}
use Rattle.std.specs.List.{list_any, list_all}
use Rattle.prop_core.specs.declared.lit.Lit.{Lit}
use Rattle.prop_core.specs.Clauses.{Clause, is_open}
use Rattle.prop_core.specs.Trail.{has_var, HasVarsOnce, all_quiet, is_forced_by}
use Rattle.proof_ledger.specs.Book.{BookEntry, axiomatic, learnt, final, mark, axioms_of, clauses_of, EachAfter}

-- the variable occurs in an axiom of the book
abbrev pub occurs : ℕ → List BookEntry → Bool
occurs var book = list_any (has_var var) (axioms_of book)

-- A clause is fresh after a book where it is not empty, has no variable twice, and has only variables that occur in axioms;
-- and where some literals that are taken as true, no variable twice, make all its literals false but one, which they leave
-- open, while under them no clause of the book is false, or has one open literal and all others false.
pub record IsFreshClause (before : List BookEntry) (clause : Clause) : Type 0 where
  pub some : 0 < length clause
  pub once : HasVarsOnce clause
  pub known : list_all (λ l. occurs l.var before) clause ≡ true
  pub found : Lit
  pub taken : List Lit
  pub taken_once : HasVarsOnce taken
  pub alone : is_forced_by taken found clause ≡ true
  pub left_open : is_open taken found ≡ true
  pub quiet : all_quiet taken (clauses_of before) ≡ true

-- the entry is a learnt clause; a final one is none
abbrev pub is_learnt : BookEntry → Bool
is_learnt (axiomatic clause) = false
is_learnt (learnt clause hints) = true
is_learnt (final clause hints) = false
is_learnt (mark number) = false

-- P holds of the clause of a learnt entry, and of another entry nothing is said
abbrev pub IfLearnt : BookEntry → (Clause → Type 0) → Type 0
IfLearnt (axiomatic clause) P = ⊤
IfLearnt (learnt clause hints) P = P clause
IfLearnt (final clause hints) P = ⊤
IfLearnt (mark number) P = ⊤

-- since then the book has `count` learnt entries, and each was fresh
pub record AreFresh (earlier since : List BookEntry) (count : ℕ) : Type 0 where
  pub number : count_by is_learnt since ≡ count
  pub each : EachAfter (λ before entry. IfLearnt entry (IsFreshClause before)) earlier since
