use Rattle.std.proofs.Common.{◌≡◌, ◌∙◌, ◌+◌, sym, subst, ℕ}
use Rattle.proof_text.proofs.Fronts.{AreNumbered, numbered_axiom, numbered_entry, numbered_mark}
use Rattle.proof_text.proofs.refuting.BookFront.numbers.Goals as goal
use Rattle.proof_text.proofs.refuting.BookFront.numbers.Goals.{in-Axiom+in_ok-push-in-Axiom, in-Learnt+in_ok-push-in-Learnt, in-Mark}

numbered : (c : goal.Joined-entry) (k n : ℕ) → c.match-entry.axiom ≡ k → c.match-entry.next ≡ n → AreNumbered c.args.first c.args.self.now.book.now.entries (c.loop-place.place + 1) c.match-entry.numbers k n
    → AreNumbered c.args.first c.args.self.now.book.now.entries (c.loop-place.place + 1) c.match-entry.numbers c.match-entry.axiom c.match-entry.next
numbered c k n a b h =
    subst (λ x. AreNumbered c.args.first c.args.self.now.book.now.entries (c.loop-place.place + 1) c.match-entry.numbers x c.match-entry.next) (sym a)
    (subst (λ x. AreNumbered c.args.first c.args.self.now.book.now.entries (c.loop-place.place + 1) c.match-entry.numbers k x) (sym b) h)

pub loop-place-preserved : goal.loop-place-preserved
loop-place-preserved c = elim c.match-entry.branch [
  | in-Axiom+in_ok-push-in-Axiom w ↦
      numbered c (c.loop-place.axiom + 1) c.loop-place.next w.axiom-is w.next-is
      (numbered_axiom c.args.first c.args.self.now.book.now.entries c.loop-place.place c.loop-place.numbers c.match-entry.numbers c.loop-place.axiom c.loop-place.next c.loop-place.invariant
      w.in-Axiom.field-0 w.in-Axiom.ensures (w.numbers-is ∙ w.in_ok-push-in-Axiom.ensures.ok))
  | in-Learnt+in_ok-push-in-Learnt w ↦
      numbered c c.loop-place.axiom (c.loop-place.next + 1) w.axiom-is w.next-is
      (numbered_entry c.args.first c.args.self.now.book.now.entries c.loop-place.place c.loop-place.numbers c.match-entry.numbers c.loop-place.axiom c.loop-place.next c.loop-place.invariant
      c.entry.result c.entry.ensures w.in-Learnt.is (w.numbers-is ∙ w.in_ok-push-in-Learnt.ensures.ok))
  | in-Mark w ↦
      numbered c c.loop-place.axiom c.loop-place.next w.axiom-is w.next-is
      (numbered_mark c.args.first c.args.self.now.book.now.entries c.loop-place.place c.loop-place.numbers c.match-entry.numbers c.loop-place.axiom c.loop-place.next c.loop-place.invariant
      w.in-Mark.field-0 w.in-Mark.ensures w.numbers-is)
]
