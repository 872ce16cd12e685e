use Rattle.log_order.proofs.precedence.Precedence.reached.Given as goal
use Rattle.log_order.proofs.PassLemmas.{IsPassed}

abbrev pub invariant-loop-number : goal.invariant-loop-number
invariant-loop-number l = IsPassed l.self-inside.pairs.items l.self-inside.order.items l.from l.marks.items l.number-index
