use Rattle.log_encode.proofs.EndLemmas.{AreEndsBelow}
use Rattle.log_encode.proofs.chains.first_ends.Given as goal

abbrev pub invariant-loop-event : goal.invariant-loop-event
invariant-loop-event l = AreEndsBelow l.net l.fn.asked l.event l.closed l.ends.items
