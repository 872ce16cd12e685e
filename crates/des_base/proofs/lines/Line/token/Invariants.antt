use Rattle.std.proofs.Common.{◌≡◌, length}
use Rattle.std.specs.Prelude.{find, nat_le}
use Rattle.des_base.specs.CountedLines.{token_from}
use Rattle.des_base.proofs.lines.Line.token.Given as goal

abbrev pub invariant-loop-token : goal.invariant-loop-token
invariant-loop-token l = token_from l.from l.self.text.now ≡ find (λ token. nat_le l.from token.start) l.tokens

abbrev pub decreases-loop-token : goal.decreases-loop-token
decreases-loop-token l = length l.tokens
