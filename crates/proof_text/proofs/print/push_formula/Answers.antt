use Rattle.std.proofs.Common.{length}
use Rattle.proof_text.specs.PrintedText.{header_text, clause_text}
use Rattle.proof_text.proofs.PrintLemmas.{one_more_behind, numbered_at}
use Rattle.proof_text.proofs.print.push_formula.Goals as goal

pub loop-before-preserved : goal.loop-before-preserved
loop-before-preserved c =
    one_more_behind clause_text c.args.cnf.now.clauses.clauses c.loop-before.before c.clause.result.now c.args.out.now.items (header_text c.args.cnf.now.vars (length c.args.cnf.now.clauses.clauses)) _ _
    (numbered_at c.args.cnf.now.clauses.clauses c.loop-before.before c.clause.result.now c.clause.ensures) c.loop-before.invariant c.in_ok-push_clause.ensures.ok
