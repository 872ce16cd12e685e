use Rattle.std.proofs.Common.{◌≡◌, ◌∙◌, ◌+◌, sym, subst, ℕ}
use Rattle.proof_text.proofs.Fronts.{HaveSteps, step_derived, no_step, derived_within}
use Rattle.proof_text.proofs.refuting.BookFront.put_steps.Goals as goal
use Rattle.proof_text.proofs.refuting.BookFront.put_steps.Goals.{in_default, in-Learnt+in_ok-step+in_ok-push}

pub step-requires-clause-in_range : goal.step-requires-clause-in_range
step-requires-clause-in_range c = derived_within c.args.self.now.book.now.entries c.loop-place.place c.in-Learnt.id c.entry.result c.entry.ensures c.in-Learnt.is

stepped : (c : goal.Joined-entry) (n : ℕ) → c.match-entry.next ≡ n → HaveSteps c.args.numbers.now c.args.first c.args.self.now.book.now.entries (c.loop-place.place + 1) c.args.proof.now c.match-entry.proof n
    → HaveSteps c.args.numbers.now c.args.first c.args.self.now.book.now.entries (c.loop-place.place + 1) c.args.proof.now c.match-entry.proof c.match-entry.next
stepped c n a h = subst (λ x. HaveSteps c.args.numbers.now c.args.first c.args.self.now.book.now.entries (c.loop-place.place + 1) c.args.proof.now c.match-entry.proof x) (sym a) h

pub loop-place-preserved : goal.loop-place-preserved
loop-place-preserved c = elim c.match-entry.branch [
  | in_default w ↦
      stepped c c.loop-place.next w.next-is
      (no_step c.args.numbers.now c.args.first c.args.self.now.book.now.entries c.loop-place.place c.args.proof.now c.loop-place.proof c.match-entry.proof c.loop-place.next c.loop-place.invariant
      c.entry.result c.entry.ensures w.in_default.not-Learnt w.in_default.not-Final w.proof-is)
  | in-Learnt+in_ok-step+in_ok-push w ↦
      stepped c (c.loop-place.next + 1) w.next-is
      (step_derived c.args.numbers.now c.args.first c.args.self.now.book.now.entries c.loop-place.place c.args.proof.now c.loop-place.proof c.match-entry.proof c.loop-place.next c.loop-place.invariant
      w.in-Learnt.id c.entry.result w.in_ok-step.field-0 c.entry.ensures w.in-Learnt.is w.in_ok-step.ensures (w.proof-is ∙ w.in_ok-push.ensures.ok))
]
