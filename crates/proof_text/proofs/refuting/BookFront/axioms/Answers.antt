use Rattle.std.proofs.Common.{length, ap, arith}
use Rattle.proof_text.proofs.Fronts.{axiom_counted, no_axiom_more}
use Rattle.proof_text.proofs.refuting.BookFront.axioms.Goals as goal
use Rattle.proof_text.proofs.refuting.BookFront.axioms.Goals.{in-Axiom, in_default}

pub loop-place-preserved : goal.loop-place-preserved
loop-place-preserved c = elim c.match-entry.branch [
  | in-Axiom w ↦
      let one = axiom_counted c.args.self.now.book.now.entries c.loop-place.place w.in-Axiom.field-0 w.in-Axiom.ensures in
      record { counted = omega (arith, w.axioms-is, c.loop-place.invariant.counted, one); few = omega (arith, w.axioms-is, c.loop-place.invariant.few) }
  | in_default w ↦
      let none = ap length (no_axiom_more c.args.self.now.book.now.entries c.loop-place.place c.entry.result c.entry.ensures w.in_default.not-Axiom) in
      record { counted = omega (arith, w.axioms-is, c.loop-place.invariant.counted, none); few = omega (arith, w.axioms-is, c.loop-place.invariant.few) }
]
