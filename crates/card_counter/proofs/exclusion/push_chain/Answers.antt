use Rattle.std.proofs.Common.{arith}
use Rattle.card_counter.proofs.Chains.{chain_next}
use Rattle.card_counter.proofs.exclusion.push_chain.Goals as goal

pub loop-place-preserved : goal.loop-place-preserved
loop-place-preserved c = record {
  added = chain_next c.args.inputs.now c.args.first c.loop-place.place c.args.out.now.clauses c.loop-place.out.clauses c.push_link.new.out.clauses c.loop-place.invariant.added c.push_link.ensures.added;
  clauses = omega (arith, c.loop-place.invariant.clauses, c.push_link.ensures.spare_clauses);
  literals = omega (arith, c.loop-place.invariant.literals, c.push_link.ensures.spare_literals);
}
