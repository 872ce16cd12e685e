-- the inputs so far are added, and for the others there is room
use Rattle.card_counter.proofs.Adding.{AreAdded}
use Rattle.card_counter.proofs.counter.Counter.add_inputs.Given as goal

abbrev pub invariant-loop-input : goal.invariant-loop-input
invariant-loop-input l = AreAdded l.fn.self l.inputs l.fn.vars l.fn.out.clauses l.input-index l.self l.vars l.out
