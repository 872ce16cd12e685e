use Rattle.std.proofs.Common.{ap, length, ◌-◌}
use Rattle.card_counter.specs.CounterState.{clauses_at}
use Rattle.card_counter.proofs.PlaceLemmas.{adds_next}
use Rattle.card_counter.proofs.counter.Counter.push_row.Goals as goal

pub loop-column-preserved : goal.loop-column-preserved
loop-column-preserved c =
    adds_next (λ j. clauses_at c.args.self.now j (length c.args.self.now.inputs - 1)) _ _ _ c.loop-column.column _
    (ap (λ n. clauses_at c.args.self.now c.loop-column.column (n - 1)) c.inputs-place.ensures) c.loop-column.invariant c.push_place.ensures
