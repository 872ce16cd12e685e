use Rattle.std.proofs.Common.{◌≡◌, ◌<◌}
use Rattle.gen_plant.specs.Plant.{sequence_number, plant_log}
use Rattle.gen_plant.proofs.alarms.add_alarms.Given as goal

abbrev pub invariant-loop-done : goal.invariant-loop-done
invariant-loop-done l = record { logged : l.log ≡ plant_log l.done l.start; number : l.number ≡ sequence_number l.start l.done; small : l.number < 97 }
