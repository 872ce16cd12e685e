use Rattle.std.proofs.Common.{◌<◌, take, length}
use Rattle.proof_ledger.specs.Book.{clauses_of}
use Rattle.proof_text.proofs.refuting.entries_to.Given as goal

-- the number isn't reached yet
abbrev pub invariant-loop-place : goal.invariant-loop-place
invariant-loop-place l = length (clauses_of (take l.place l.book.entries)) < l.last
