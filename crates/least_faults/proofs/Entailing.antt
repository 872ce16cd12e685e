-- What a valid book entails.
use Rattle.std.proofs.Common.{ℕ, List, Contains, IsTrue}
use Rattle.des_base.proofs.Elements.{all_at as at_each}
use Rattle.prop_core.specs.Clauses.{Clause, clause_true}
use Rattle.proof_ledger.specs.Book.{BookEntry, final, clauses_of, axioms_of, IsValidBook}
use Rattle.run_decode.specs.Decided.{Entails}
use Rattle.proof_ledger.proofs.BookTruth.{book_true, clause_there}

-- the clause of a final entry is entailed by the axioms
pub final_entailed : (book : List BookEntry) (clause : Clause) (hints : List ℕ) → IsValidBook book → Contains book (final clause hints) → Entails (axioms_of book) clause
final_entailed book clause hints valid there assignment axioms =
    at_each (λ c. IsTrue (clause_true assignment c)) (clauses_of book) clause (book_true assignment book valid axioms) (clause_there book clause hints there)
