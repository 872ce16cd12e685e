use Rattle.std.proofs.Common.{arith}
use Rattle.card_counter.proofs.RowLemmas.{size_here}
use Rattle.card_counter.proofs.counter.Counter.columns.Goals as goal

pub returns-clause-columns : goal.returns-clause-columns
returns-clause-columns c =
    let size = size_here _ _ _ _ _ c.self.view_is in
    let len = c.len.ensures in
    grind (arith, size, len)
