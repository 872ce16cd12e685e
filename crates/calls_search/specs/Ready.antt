-- A solver that can go on with a book.
use Rattle.std.specs.Prelude.{◌≡◌, ℕ, List}
use Rattle.proof_ledger.specs.Book.{BookEntry, clauses_of}
use Rattle.sat_order.specs.Rank.{IsRank}
use Rattle.sat_solve.specs.Solving.{SolverState}

-- its closure ranks, it has adopted all clauses of the book, and it has `vars` variables
pub record IsReady {R : Type 0} (may : R → ℕ → Type 0) (gives : R → ℕ → ℕ → Type 0) (solver : SolverState R) (book : List BookEntry) (vars : ℕ) : Type 0 where
  pub ranked : IsRank may gives solver.order.rank
  pub adopted : solver.adopted ≡ clauses_of book
  pub count : solver.vars ≡ vars
