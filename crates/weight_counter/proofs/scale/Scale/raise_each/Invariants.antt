-- what the amounts so far are raised to is there
use Rattle.std.proofs.Common.{◌*◌, map}
use Rattle.card_counter.specs.Growing.{AddsWithin}
use Rattle.des_base.specs.Lists.{numbers_below}
use Rattle.weight_counter.specs.Scales.{raised_clause, place_variable}
use Rattle.weight_counter.proofs.scale.Scale.raise_each.Given as goal

abbrev pub invariant-loop-amount : goal.invariant-loop-amount
invariant-loop-amount l = AddsWithin l.fn.out (map (raised_clause (place_variable l.self) l.before l.x) (numbers_below l.amount)) l.amount (3 * l.amount) l.out
