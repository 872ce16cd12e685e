use Rattle.std.proofs.Common.{◌≡◌, ◌++◌, take}
use Rattle.proof_ledger.specs.Book.{clauses_of}
use Rattle.proof_text.specs.Refutation.{unit_clauses}
use Rattle.inquiries.proofs.formula.formula_under.Given as goal

-- the assumptions so far have their clauses
abbrev pub invariant-loop-lit : goal.invariant-loop-lit
invariant-loop-lit l = l.clauses.clauses ≡ clauses_of l.book.entries ++ unit_clauses (take l.lit-index l.assumed)
