-- The book of a ledger: what was put down, in order.
use Rattle.std.specs.Prelude.{◌≡◌, ℕ, ◌+◌, Bool, false, List, [], ◌∷◌, ◌++◌, length, take, filter_map, Option, Some, None, slice_get, ◌==◌, ⊤, MatchOption}
use Rattle.prop_core.specs.Clauses.{Clause}
use Rattle.prop_core.specs.Derivation.{Derives, clause_numbered}
use Rattle.proof_ledger.specs.declared.entry.Entry.{Entry}
use Rattle.proof_ledger.specs.declared.entry.Entry.TheVariants.{Axiom, Learnt, Final, Mark}

-- A learnt and a final clause have the numbers of the clauses that derive them.
pub data BookEntry : Type 0 where
  axiomatic : Clause → BookEntry
  learnt : Clause → List ℕ → BookEntry
  final : Clause → List ℕ → BookEntry
  mark : ℕ → BookEntry

-- the clause of an entry; a mark has none
abbrev pub clause_of : BookEntry → Option Clause
clause_of (axiomatic clause) = Some clause
clause_of (learnt clause hints) = Some clause
clause_of (final clause hints) = Some clause
clause_of (mark k) = None

-- the hints of the clause of an entry: an axiom has an empty list of them, and a mark has no clause
abbrev pub clause_hints_of : BookEntry → Option (List ℕ)
clause_hints_of (axiomatic clause) = Some []
clause_hints_of (learnt clause hints) = Some hints
clause_hints_of (final clause hints) = Some hints
clause_hints_of (mark k) = None

-- the clauses of a book, numbered from 1
abbrev pub clauses_of : List BookEntry → List Clause
clauses_of book = filter_map clause_of book

-- and the hints of each
abbrev pub hints_of : List BookEntry → List (List ℕ)
hints_of book = filter_map clause_hints_of book

-- the clause of an axiom: none for any other entry
abbrev pub axiom_of : BookEntry → Option Clause
axiom_of (axiomatic clause) = Some clause
axiom_of (learnt clause hints) = None
axiom_of (final clause hints) = None
axiom_of (mark k) = None

-- the axioms of a book, in their order
abbrev pub axioms_of : List BookEntry → List Clause
axioms_of book = filter_map axiom_of book

-- the entry is the mark of this number (a question opens with 0 and closes with 1)
abbrev pub is_mark : ℕ → BookEntry → Bool
is_mark number (axiomatic clause) = false
is_mark number (learnt clause hints) = false
is_mark number (final clause hints) = false
is_mark number (mark k) = k == number

-- a clause derives from those of the entries
abbrev pub DerivesFrom : List BookEntry → Clause → List ℕ → Type 0
DerivesFrom earlier clause hints = Derives (clause_numbered (clauses_of earlier)) clause hints

-- an entry that has to be derived is, from the clauses of the entries before it
abbrev pub IsDerivedIfDue : List BookEntry → BookEntry → Type 0
IsDerivedIfDue earlier (axiomatic clause) = ⊤
IsDerivedIfDue earlier (learnt clause hints) = DerivesFrom earlier clause hints
IsDerivedIfDue earlier (final clause hints) = DerivesFrom earlier clause hints
IsDerivedIfDue earlier (mark k) = ⊤

-- P holds of each element of the list, with those before it: the ones given, and the list's own.
abbrev pub EachAfter : {X : Type 0} → (List X → X → Type 0) → List X → List X → Type 0
EachAfter P earlier [] = ⊤
EachAfter P earlier (x ∷ xs) = P earlier x × EachAfter P (earlier ++ x ∷ []) xs

-- each learnt and each final clause of the book derives by its hints from the clauses before it
abbrev pub IsValidBook : List BookEntry → Type 0
IsValidBook book = EachAfter IsDerivedIfDue [] book

-- an entry as a caller sees it, with the number of its clause
abbrev pub shown : ℕ → BookEntry → Entry
shown number (axiomatic clause) = Axiom number
shown number (learnt clause hints) = Learnt number
shown number (final clause hints) = Final number
shown number (mark k) = Mark k

-- The entry at a place, from 0, has the number that follows those of the clauses before it.
abbrev pub IsEntryAt : List BookEntry → ℕ → Entry → Type 0
IsEntryAt book place entry = MatchOption (slice_get book place) ⊥ (λ e. entry ≡ shown (length (clauses_of (take place book)) + 1) e)
