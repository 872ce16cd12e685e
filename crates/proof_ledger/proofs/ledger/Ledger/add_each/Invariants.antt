use Rattle.std.proofs.Common.{◌≡◌, ◌++◌, map, take}
use Rattle.proof_ledger.proofs.ledger.Ledger.add_each.Given as goal
use Rattle.proof_ledger.specs.Book.{axiomatic}

abbrev pub invariant-loop-before : goal.invariant-loop-before
invariant-loop-before l = record {
  added : l.self.entries ≡ l.fn.self.entries ++ map axiomatic (take l.before l.clauses.clauses);
}
