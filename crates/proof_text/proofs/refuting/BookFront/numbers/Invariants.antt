use Rattle.proof_text.proofs.Fronts.{AreNumbered}
use Rattle.proof_text.proofs.refuting.BookFront.numbers.Given as goal

abbrev pub invariant-loop-place : goal.invariant-loop-place
invariant-loop-place l = AreNumbered l.first l.self.book.now.entries l.place l.numbers l.axiom l.next
