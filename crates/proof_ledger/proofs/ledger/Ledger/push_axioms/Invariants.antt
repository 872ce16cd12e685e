use Rattle.std.proofs.Common.{◌≡◌, ◌+◌, ◌≤◌, ◌++◌, length, map, sum_by, take}
use Rattle.proof_ledger.proofs.ledger.Ledger.push_axioms.Given as goal
use Rattle.proof_ledger.specs.Book.{axiomatic}

abbrev pub invariant-loop-before : goal.invariant-loop-before
invariant-loop-before l = record {
  added : l.self.entries ≡ l.fn.self.entries ++ map axiomatic (take l.before l.clauses.clauses);
  clauses : length l.clauses.clauses ≤ l.before + l.self.spare_clauses;
  literals : sum_by length l.clauses.clauses ≤ sum_by length (take l.before l.clauses.clauses) + l.self.spare_literals;
}
