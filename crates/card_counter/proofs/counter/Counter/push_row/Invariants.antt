-- what the columns so far say of the last input is there
use Rattle.std.proofs.Common.{◌*◌, ◌-◌, flat_map, length}
use Rattle.card_counter.specs.CounterState.{clauses_at}
use Rattle.card_counter.specs.Growing.{AddsWithin}
use Rattle.card_counter.proofs.counter.Counter.push_row.Given as goal
use Rattle.des_base.specs.Lists.{numbers_below}

abbrev pub invariant-loop-column : goal.invariant-loop-column
invariant-loop-column l = AddsWithin l.fn.out (flat_map (λ j. clauses_at l.self j (length l.self.inputs - 1)) (numbers_below l.column)) (2 * l.column) (5 * l.column) l.out
