use Rattle.std.proofs.Common.{◌<◌, length, arith}
use Rattle.proof_ledger.proofs.AxiomLists.{axioms_next}
use Rattle.proof_ledger.proofs.ledger.Ledger.add_each.Goals as goal

pub loop-before-preserved : goal.loop-before-preserved
loop-before-preserved c =
    let all = c.args.clauses.now.clauses in
    let below : c.loop-before.before < length all = omega (arith, c.loop-before-test.true, c.len-before-end.ensures) in
    record { added = axioms_next c.args.self.now.entries c.loop-before.self.entries c.add_axiom.new.self.entries all c.loop-before.before c.clause.result.now below c.clause.ensures c.loop-before.invariant.added c.in_ok-add_axiom.ensures.added }
