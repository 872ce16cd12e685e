-- what the input reaches by itself, of the amounts so far, is there
use Rattle.std.proofs.Common.{◌*◌, map}
use Rattle.card_counter.specs.Growing.{AddsWithin}
use Rattle.des_base.specs.Lists.{numbers_below}
use Rattle.weight_counter.specs.Scales.{alone_clause, place_variable}
use Rattle.weight_counter.proofs.scale.Scale.push_alone.Given as goal

abbrev pub invariant-loop-amount : goal.invariant-loop-amount
invariant-loop-amount l = AddsWithin l.fn.out (map (alone_clause (place_variable l.self) l.place l.x.input) (numbers_below l.amount)) l.amount (2 * l.amount) l.out
