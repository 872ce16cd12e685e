use Rattle.std.proofs.Common.{◌≡◌, ◌++◌, ℕ, length, false, []}
use Rattle.proof_text.specs.ClauseReading.{spelled_clauses}
use Rattle.proof_text.specs.CnfText.{some_open, fault_of_tokens}
use Rattle.proof_text.proofs.clause_reader.read_clauses.Given as goal

-- the faults and the clauses of the tokens to come are those of all
abbrev pub invariant-loop-token : goal.invariant-loop-token
invariant-loop-token l = record {
  vars : l.reader.vars ≡ l.fn.header.vars;
  faults : (end : ℕ) → fault_of_tokens l.fn.header.vars end l.reader.left (some_open l.reader.front.items) l.tokens ≡ fault_of_tokens l.fn.header.vars end l.fn.header.clauses false l.fn.tokens;
  clauses : l.reader.clauses.clauses ++ spelled_clauses l.reader.front.items l.tokens ≡ spelled_clauses [] l.fn.tokens;
}

abbrev pub decreases-loop-token : goal.decreases-loop-token
decreases-loop-token l = length l.tokens
