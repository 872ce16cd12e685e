-- what the column says of the inputs so far is there
use Rattle.std.proofs.Common.{◌*◌, ◌-◌, flat_map, length}
use Rattle.card_counter.specs.CounterState.{clauses_at}
use Rattle.card_counter.specs.Growing.{AddsWithin}
use Rattle.card_counter.proofs.counter.Counter.push_column.Given as goal
use Rattle.des_base.specs.Lists.{numbers_below}

abbrev pub invariant-loop-place : goal.invariant-loop-place
invariant-loop-place l = AddsWithin l.fn.out (flat_map (clauses_at l.self (length l.self.columns - 1)) (numbers_below l.place)) (2 * l.place) (5 * l.place) l.out
