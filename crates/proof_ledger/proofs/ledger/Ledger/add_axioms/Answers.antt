use Rattle.std.proofs.Common.{length, arith, ap, ◌∙◌}
use Rattle.proof_ledger.proofs.AxiomLists.{all_of_empty}
use Rattle.proof_ledger.specs.Kept.{LedgerState}
use Rattle.proof_ledger.proofs.ledger.Ledger.add_axioms.Goals as goal

pub returns-clause-some : goal.returns-clause-some
returns-clause-some c =
    (length c.args.clauses.clauses, ap (λ (state : LedgerState). state.entries) c.drop.view_is ∙ all_of_empty c.args.self.now.entries c.in_ok-self-inside.field-0.entries c.args.clauses.clauses (omega (arith, c.if-entries-gt0.false, c.entries.ensures.count)) c.in_ok-self-inside.ensures)
