use Rattle.gen_plant.proofs.ComponentLemmas.{bus_few}
use Rattle.gen_plant.proofs.units.add_bus.Goals as goal

pub add_bus_parts-requires-clause-few : goal.add_bus_parts-requires-clause-few
add_bus_parts-requires-clause-few c = bus_few c.args.builder.now c.add_component.new.builder c.in_ok-name.name c.requires c.in_ok-comp.ensures.ok
