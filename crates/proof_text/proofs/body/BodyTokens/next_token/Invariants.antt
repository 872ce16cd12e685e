use Rattle.std.proofs.Common.{◌≡◌, ◌++◌, length, map}
use Rattle.des_base.specs.CountedLines.{texts_of}
use Rattle.proof_text.specs.CnfText.{lined, tokens_in}
use Rattle.proof_text.proofs.body.BodyTokens.next_token.Given as goal

abbrev pub invariant-loop-token : goal.invariant-loop-token
invariant-loop-token l = l.fn.self ≡ map (lined l.self-inside.line) (texts_of l.self-inside.tokens) ++ tokens_in l.self-inside.lines

abbrev pub decreases-loop-token : goal.decreases-loop-token
decreases-loop-token l = length l.self-inside.lines
