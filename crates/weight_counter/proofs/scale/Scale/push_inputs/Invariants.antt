-- the clauses of the inputs so far are there
use Rattle.std.proofs.Common.{◌*◌, take}
use Rattle.card_counter.specs.Growing.{AddsWithin}
use Rattle.weight_counter.specs.Scales.{scale_clauses, place_variable}
use Rattle.weight_counter.proofs.scale.Scale.push_inputs.Given as goal

abbrev pub invariant-loop-place : goal.invariant-loop-place
invariant-loop-place l = AddsWithin l.fn.out (scale_clauses (place_variable l.self) l.self.amounts (take l.place l.inputs)) (2 * (l.place * l.self.amounts)) (5 * (l.place * l.self.amounts)) l.out
