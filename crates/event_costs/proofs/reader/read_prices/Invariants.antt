use Rattle.std.proofs.Common.{length}
use Rattle.event_costs.proofs.ReadLemmas.{IsReadTo}
use Rattle.event_costs.proofs.reader.read_prices.Given as goal

abbrev pub invariant-loop-line : goal.invariant-loop-line
invariant-loop-line l = IsReadTo l.net l.fn.lines l.lines l.table

abbrev pub decreases-loop-line : goal.decreases-loop-line
decreases-loop-line l = length l.lines
