use Rattle.std.proofs.Common.{arith}
use Rattle.sizing.proofs.Counted.{counted_all}
use Rattle.sizing.proofs.touching.count_touched.Goals as goal

pub returns : goal.returns
returns c = counted_all c.loop-part.counts c.args.counts.now c.args.parts.now c.loop-part.part-index (omega arith) c.requires.once c.loop-part.invariant.each
