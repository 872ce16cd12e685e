-- One more unit: its component is the last one.
use Rattle.std.proofs.lemmas.Result.{on_ok_weaker}
use Rattle.des_net.specs.Network.{no_component}
use Rattle.gen_plant.specs.Stages.{unit_without_moves}
use Rattle.gen_plant.proofs.ComponentLemmas.{unit_free, named_there, stated_there, few_moves, unit_added}
use Rattle.gen_plant.proofs.units.add_unit.Goals as goal

pub add_component-requires : goal.add_component-requires
add_component-requires c = record { free = unit_free c.args.done c.args.builder.now c.in_ok-name.name c.requires.few c.requires.built c.in_ok-name.ensures }

pub add_unit_states-requires : goal.add_unit_states-requires
add_unit_states-requires c = named_there c.args.builder.now c.add_component.new.builder c.in_ok-name.name c.in_ok-comp.comp c.in_ok-comp.ensures.ok c.in_ok-comp.ensures.place

pub add_unit_moves-requires-clause-new : goal.add_unit_moves-requires-clause-new
add_unit_moves-requires-clause-new c =
    stated_there c.add_component.new.builder c.add_unit_states.new.builder c.in_ok-comp.comp no_component unit_without_moves
    (named_there c.args.builder.now c.add_component.new.builder c.in_ok-name.name c.in_ok-comp.comp c.in_ok-comp.ensures.ok c.in_ok-comp.ensures.place) c.in_ok-add_unit_states.ensures

pub add_unit_moves-requires-clause-few : goal.add_unit_moves-requires-clause-few
add_unit_moves-requires-clause-few c =
    few_moves c.args.done c.args.builder.now c.add_component.new.builder c.add_unit_states.new.builder c.in_ok-name.name c.in_ok-comp.comp
    c.requires.few c.requires.built c.in_ok-comp.ensures.ok c.in_ok-add_unit_states.ensures

pub returns : goal.returns
returns c = on_ok_weaker c.add_unit_moves.result (λ is.
    unit_added c.args.done c.in_ok-comp.comp c.args.builder.now c.add_component.new.builder c.add_unit_states.new.builder c.add_unit_moves.new.builder c.in_ok-name.name
    c.requires.built c.in_ok-name.ensures c.in_ok-comp.ensures.ok c.in_ok-comp.ensures.place c.in_ok-add_unit_states.ensures is) c.add_unit_moves.ensures
