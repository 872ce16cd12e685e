use Rattle.gen_plant.proofs.ComponentLemmas.{plant_lacks_none}
use Rattle.gen_plant.proofs.making.make_net.Goals as goal

pub unreachable-requires : goal.unreachable-requires
unreachable-requires c = plant_lacks_none c.args.units c.in-Err.field-0.comp c.build.new.builder c.in_ok-build.ensures c.in-Err.ensures.least
