-- How a ledger keeps its book: entries with the numbers of clauses, and the clauses and their hints beside them. Of the axioms with which it begins the clauses alone are kept.
use Rattle.std.specs.Prelude.{◌≡◌, ℕ, ◌+◌, List, [], ◌∷◌, ◌++◌, map, drop, replicate, slice_index_or}
use Rattle.std.specs.List.{range_with_len}
use Rattle.prop_core.specs.Clauses.{Clause}
use Rattle.proof_ledger.specs.declared.entry.Entry.{Entry}
use Rattle.proof_ledger.specs.declared.entry.Entry.TheVariants as shown_entries
use Rattle.proof_ledger.specs.declared.entry.KeptEntry.{KeptEntry}
use Rattle.proof_ledger.specs.declared.entry.KeptEntry.TheVariants.{Axiom, Learnt, Final, Mark}
use Rattle.proof_ledger.specs.declared.ledger.Origin.{Origin}
use Rattle.proof_ledger.specs.declared.ledger.Origin.TheVariants as origins
use Rattle.proof_ledger.specs.Book.{BookEntry, axiomatic, learnt, final, mark, clauses_of, hints_of, IsValidBook}

-- the entries, and for how many more clauses and literals there is room
pub record LedgerState : Type 0 where
  pub entries : List BookEntry
  pub spare_clauses : ℕ
  pub spare_literals : ℕ

-- the book that is kept so
abbrev pub book_of : List KeptEntry → List Clause → List (List ℕ) → List BookEntry
book_of [] clauses hints = []
book_of (Axiom id ∷ entries) clauses hints = axiomatic (slice_index_or clauses 0 []) ∷ book_of entries (drop 1 clauses) (drop 1 hints)
book_of (Learnt id ∷ entries) clauses hints = learnt (slice_index_or clauses 0 []) (slice_index_or hints 0 []) ∷ book_of entries (drop 1 clauses) (drop 1 hints)
book_of (Final id ∷ entries) clauses hints = final (slice_index_or clauses 0 []) (slice_index_or hints 0 []) ∷ book_of entries (drop 1 clauses) (drop 1 hints)
book_of (Mark k ∷ entries) clauses hints = mark k ∷ book_of entries clauses hints

-- the entries of so many axioms with which a book begins
abbrev pub first_entries : ℕ → List KeptEntry
first_entries first = map Axiom (range_with_len 1 first)

-- the entries of a book that begins with so many axioms, where these are kept of it
abbrev pub all_entries : ℕ → List KeptEntry → List KeptEntry
all_entries first entries = first_entries first ++ entries

-- and the hints of its clauses: such an axiom has none
abbrev pub all_hints : ℕ → List (List ℕ) → List (List ℕ)
all_hints first hints = replicate first [] ++ hints

-- the entries as they are kept, behind some number of clauses
abbrev pub kept_from : ℕ → List BookEntry → List KeptEntry
kept_from count [] = []
kept_from count (axiomatic clause ∷ book) = Axiom (count + 1) ∷ kept_from (count + 1) book
kept_from count (learnt clause hints ∷ book) = Learnt (count + 1) ∷ kept_from (count + 1) book
kept_from count (final clause hints ∷ book) = Final (count + 1) ∷ kept_from (count + 1) book
kept_from count (mark k ∷ book) = Mark k ∷ kept_from count book

-- these are the entries, clauses and hints of a valid book
pub record IsBook (entries : List KeptEntry) (clauses : List Clause) (hints : List (List ℕ)) (book : List BookEntry) : Type 0 where
  pub entries_are : entries ≡ kept_from 0 book
  pub clauses_are : clauses ≡ clauses_of book
  pub hints_are : hints ≡ hints_of book
  pub valid : IsValidBook book

-- the entries, clauses and hints that are kept are those of a valid book: the one that `book_of` reads from them
abbrev pub IsKeptBook : List KeptEntry → List Clause → List (List ℕ) → Type 0
IsKeptBook entries clauses hints = IsBook entries clauses hints (book_of entries clauses hints)

-- an entry as it is kept, with the number of its clause
abbrev pub kept : ℕ → BookEntry → KeptEntry
kept number (axiomatic clause) = Axiom number
kept number (learnt clause hints) = Learnt number
kept number (final clause hints) = Final number
kept number (mark k) = Mark k

-- the entry that a caller sees
abbrev pub visible_entry : KeptEntry → Entry
visible_entry (Axiom number) = shown_entries.Axiom number
visible_entry (Learnt number) = shown_entries.Learnt number
visible_entry (Final number) = shown_entries.Final number
visible_entry (Mark k) = shown_entries.Mark k

-- the entry that is made of a clause by its origin
abbrev pub made : Origin → Clause → List ℕ → BookEntry
made origins.Learnt clause hints = learnt clause hints
made origins.Final clause hints = final clause hints
