use Rattle.proof_text.proofs.Fronts.{HaveSteps}
use Rattle.proof_text.proofs.refuting.BookFront.put_steps.Given as goal

abbrev pub invariant-loop-place : goal.invariant-loop-place
invariant-loop-place l = HaveSteps l.numbers l.first l.self.book.now.entries l.place l.fn.proof l.proof l.next
