-- the pieces so far and those of the rest are all that the word needs
use Rattle.replay.proofs.PieceLemmas.{Standing}
use Rattle.replay.proofs.width.pieces_of.Given as goal

abbrev pub invariant-loop-number : goal.invariant-loop-number
invariant-loop-number l = Standing l.net l.events l.last.items l.pieces l.number-index
