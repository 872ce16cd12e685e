use Rattle.std.proofs.Common.{◌≡◌, ◌+◌, ◌<◌, ◌^◌, length}
use Rattle.des_base.specs.CountedLines.{counted_from}
use Rattle.des_base.proofs.lines.Lines.next_line.Given as goal

abbrev pub invariant-loop-self : goal.invariant-loop-self
invariant-loop-self l = (l.fn.self ≡ counted_from l.self-inside.comment (l.self-inside.number + 1) l.self-inside.rest.now) × (l.self-inside.number + length l.self-inside.rest.now < 2 ^ 32)

abbrev pub decreases-loop-self : goal.decreases-loop-self
decreases-loop-self l = length l.self-inside.rest.now
