use Rattle.std.proofs.Common.{length}
use Rattle.model_text.proofs.ReadLemmas.{IsReadTo}
use Rattle.model_text.proofs.reader.build.Given as goal

abbrev pub invariant-loop-line : goal.invariant-loop-line
invariant-loop-line l = IsReadTo l.fn.lines l.lines l.builder

abbrev pub decreases-loop-line : goal.decreases-loop-line
decreases-loop-line l = length l.lines
