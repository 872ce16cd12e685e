use Rattle.std.proofs.Common.{◌≡◌, ◌++◌, take, length}
use Rattle.std.specs.Prelude.{flat_map}
use Rattle.proof_text.specs.PrintedText.{header_text, clause_text}
use Rattle.proof_text.proofs.print.push_formula.Given as goal

-- the header and the clauses so far are printed
abbrev pub invariant-loop-before : goal.invariant-loop-before
invariant-loop-before l = l.out.items ≡ l.fn.out.items ++ (header_text l.cnf.vars (length l.cnf.clauses.clauses) ++ flat_map clause_text (take l.before l.cnf.clauses.clauses))
