use Rattle.std.proofs.Common.{◌≡◌, ◌++◌, map, subst, take, arith}
use Rattle.prop_core.specs.declared.lit.Lit.{Lit}
use Rattle.card_counter.specs.AtMostOne.{not_both}
use Rattle.card_counter.proofs.PairLemmas.{push_next, pairs_next_count, has_room, has_room_twice}
use Rattle.card_counter.proofs.exclusion.push_pairs.Goals as goal

pub exclude_each-requires-clause-clauses : goal.exclude_each-requires-clause-clauses
exclude_each-requires-clause-clauses c = has_room c.args.inputs.now c.loop-place.place _ _ c.loop-place-test.true c.loop-place.invariant.clauses c.requires.clauses

pub exclude_each-requires-clause-literals : goal.exclude_each-requires-clause-literals
exclude_each-requires-clause-literals c = has_room_twice c.args.inputs.now c.loop-place.place _ _ c.loop-place-test.true c.loop-place.invariant.literals c.requires.literals

pub loop-place-preserved : goal.loop-place-preserved
loop-place-preserved c = record {
  added = push_next c.args.inputs.now c.loop-place.place c.index-inputs-place.result c.args.out.now.clauses c.loop-place.out.clauses _ c.loop-place-test.true c.loop-place.invariant.added
      (subst (λ (l : Lit). c.exclude_each.new.out.clauses ≡ c.loop-place.out.clauses ++ map (not_both l) (take c.loop-place.place c.args.inputs.now)) c.index-inputs-place.is c.exclude_each.ensures.added);
  clauses = omega (arith, pairs_next_count c.args.inputs.now c.loop-place.place c.loop-place-test.true, c.loop-place.invariant.clauses, c.exclude_each.ensures.spare_clauses);
  literals = omega (arith, pairs_next_count c.args.inputs.now c.loop-place.place c.loop-place-test.true, c.loop-place.invariant.literals, c.exclude_each.ensures.spare_literals);
}
