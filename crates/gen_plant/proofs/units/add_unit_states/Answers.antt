-- What stands of the unit after each call.
use Rattle.std.specs.Prelude.{codes}
use Rattle.std.proofs.lemmas.Result.{on_ok_weaker}
use Rattle.des_net.specs.Network.{no_component}
use Rattle.gen_plant.proofs.ComponentLemmas.{state_free, ok, ok_bad, unit_ok, unit_bad, unit_off, with_ok, with_bad, with_off}
use Rattle.gen_plant.proofs.units.add_unit_states.Goals as goal

pub add_state-requires-clause-free : goal.add_state-requires-clause-free
add_state-requires-clause-free c = state_free c.args.builder.now.components c.args.comp no_component (codes "ok") c.requires unit_ok

pub add_state-requires-2-clause-free : goal.add_state-requires-2-clause-free
add_state-requires-2-clause-free c =
    let first = with_ok c.args.builder.now c.add_state.new.builder c.args.comp c.requires c.in_ok-add_state.ensures in
    state_free c.add_state.new.builder.components c.args.comp ok (codes "bad") first.there unit_bad

pub add_state-requires-3-clause-free : goal.add_state-requires-3-clause-free
add_state-requires-3-clause-free c =
    let first = with_ok c.args.builder.now c.add_state.new.builder c.args.comp c.requires c.in_ok-add_state.ensures in
    let second = with_bad c.args.builder.now c.add_state.new.builder c.add_state-2.new.builder c.args.comp first c.in_ok-add_state-2.ensures in
    state_free c.add_state-2.new.builder.components c.args.comp ok_bad (codes "off") second.there unit_off

pub returns : goal.returns
returns c =
    let first = with_ok c.args.builder.now c.add_state.new.builder c.args.comp c.requires c.in_ok-add_state.ensures in
    let second = with_bad c.args.builder.now c.add_state.new.builder c.add_state-2.new.builder c.args.comp first c.in_ok-add_state-2.ensures in
    on_ok_weaker c.add_state-3.result (λ is. (with_off c.args.builder.now c.add_state-2.new.builder c.add_state-3.new.builder c.args.comp second is).is) c.add_state-3.ensures
