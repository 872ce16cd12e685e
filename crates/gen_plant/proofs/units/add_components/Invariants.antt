use Rattle.std.proofs.Common.{◌≡◌}
use Rattle.gen_plant.specs.Stages.{first_components}
use Rattle.gen_plant.proofs.units.add_components.Given as goal

abbrev pub invariant-loop-done : goal.invariant-loop-done
invariant-loop-done l = l.builder ≡ first_components l.done
