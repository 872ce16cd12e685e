use Rattle.std.proofs.Common.{◌<◌, length, arith}
use Rattle.least_faults.proofs.adding.literals_and.Goals as goal
use Rattle.proof_ledger.proofs.AxiomLists.{literals_next}

pub loop-before-preserved : goal.loop-before-preserved
loop-before-preserved c =
    let all = c.args.clauses.now.clauses in
    let below : c.loop-before.before < length all = omega (arith, c.loop-before-test.true, c.len-before-end.ensures) in
    record { count = omega (arith, literals_next all c.loop-before.before c.clause-own.result.now below c.clause-own.ensures, c.loop-before.invariant.count) }
