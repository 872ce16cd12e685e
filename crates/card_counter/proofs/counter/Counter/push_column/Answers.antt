use Rattle.std.proofs.Common.{ap, length, ◌-◌}
use Rattle.card_counter.specs.CounterState.{clauses_at}
use Rattle.card_counter.proofs.PlaceLemmas.{adds_next}
use Rattle.card_counter.proofs.counter.Counter.push_column.Goals as goal

pub loop-place-preserved : goal.loop-place-preserved
loop-place-preserved c =
    adds_next (clauses_at c.args.self.now (length c.args.self.now.columns - 1)) _ _ _ c.loop-place.place _
    (ap (λ n. clauses_at c.args.self.now (n - 1) c.loop-place.place) c.columns-column.ensures.columns) c.loop-place.invariant c.push_place.ensures
