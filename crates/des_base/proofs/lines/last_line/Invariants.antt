use Rattle.std.proofs.Common.{◌≡◌, ◌+◌, ◌<◌, ◌^◌, length}
use Rattle.des_base.specs.CountedLines.{text_lines}
use Rattle.des_base.proofs.lines.last_line.Given as goal

abbrev pub invariant-loop-rest : goal.invariant-loop-rest
invariant-loop-rest l = (l.count + length (text_lines l.rest) ≡ length (text_lines l.bytes)) × (l.count + length l.rest < 2 ^ 32)

abbrev pub decreases-loop-rest : goal.decreases-loop-rest
decreases-loop-rest l = length l.rest
