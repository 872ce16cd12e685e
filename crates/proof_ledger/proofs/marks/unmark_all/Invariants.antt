use Rattle.std.proofs.Common.{drop}
use Rattle.proof_ledger.proofs.Marking.{MarkedAmong}
use Rattle.proof_ledger.proofs.marks.unmark_all.Given as goal

abbrev pub invariant-loop-lit : goal.invariant-loop-lit
invariant-loop-lit l = MarkedAmong l.marks.items (drop l.lit-index l.taken)
