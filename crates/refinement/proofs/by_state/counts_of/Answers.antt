use Rattle.std.proofs.Common.{◌<◌, ◌+◌, ◌^◌, length, arith, rules}
use Rattle.refinement.proofs.NearLemmas.{count_has_room}
use Rattle.refinement.proofs.by_state.counts_of.Goals as goal

pub count-requires-clause-room : goal.count-requires-clause-room
count-requires-clause-room c =
    let few : length c.args.transitions.now + 1 < 2 ^ 63 = search rules in
    let within : c.trans-item.result.action < c.args.actions = search rules in
    let most = count_has_room _ _ _ _ c.trans-item.result.action c.loop-trans.invariant within in
    omega (arith, few, most, c.loop-trans-test.true)
