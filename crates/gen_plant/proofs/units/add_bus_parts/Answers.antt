-- What stands of the bus after each call.
use Rattle.std.proofs.Common.{true, arith}
use Rattle.std.specs.Prelude.{codes}
use Rattle.std.proofs.lemmas.Result.{on_ok_weaker}
use Rattle.des_net.specs.Building.{with_state}
use Rattle.des_net.specs.Network.{no_component}
use Rattle.gen_plant.proofs.ComponentLemmas.{state_free, trans_free, count_at, bus_up, bus_note, with_up, with_note}
use Rattle.gen_plant.proofs.units.add_bus_parts.Goals as goal

pub add_state-requires-clause-free : goal.add_state-requires-clause-free
add_state-requires-clause-free c = state_free c.args.builder.now.components c.args.comp no_component (codes "up") c.requires.new bus_up

pub add_trans-requires-clause-free : goal.add_trans-requires-clause-free
add_trans-requires-clause-free c =
    let s = with_up c.args.builder.now c.add_state.new.builder c.args.comp c.requires.new c.in_ok-add_state.ensures in
    trans_free c.add_state.new.builder.components c.args.comp (with_state (codes "up") true no_component) 0 (codes "note") 0 s.there
    (omega (arith, count_at c.args.builder.now c.args.comp (with_state (codes "up") true no_component) c.add_state.new.builder s, c.requires.few)) bus_note

pub returns : goal.returns
returns c =
    let s = with_up c.args.builder.now c.add_state.new.builder c.args.comp c.requires.new c.in_ok-add_state.ensures in
    on_ok_weaker c.add_trans.result (λ is. (with_note c.args.builder.now c.add_state.new.builder c.add_trans.new.builder c.args.comp s is).is) c.add_trans.ensures
