use Rattle.std.proofs.Common.{◌≡◌}
use Rattle.gen_plant.proofs.EventLemmas.{first_events}
use Rattle.gen_plant.proofs.events.add_events.Given as goal

abbrev pub invariant-loop-done : goal.invariant-loop-done
invariant-loop-done l = l.builder ≡ first_events l.units l.done
