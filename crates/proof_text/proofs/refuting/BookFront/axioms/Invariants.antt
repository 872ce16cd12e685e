use Rattle.std.proofs.Common.{◌≡◌, ◌≤◌, length, take}
use Rattle.proof_ledger.specs.Book.{axioms_of}
use Rattle.proof_text.proofs.refuting.BookFront.axioms.Given as goal

-- the axioms so far are counted
abbrev pub invariant-loop-place : goal.invariant-loop-place
invariant-loop-place l = record { counted : l.axioms ≡ length (axioms_of (take l.place l.self.book.now.entries)); few : l.axioms ≤ l.place }
