-- Nothing is looked at yet, then one more literal, and then none is left.
use Rattle.std.proofs.Common.{◌∙◌, ap}
use Rattle.prop_core.specs.Clauses.{is_false, is_true}
use Rattle.prop_core.specs.declared.lit.Lit.{Lit}
use Rattle.proof_ledger.specs.Fronts.{front_with}
use Rattle.proof_ledger.proofs.Fronts.{front-begin, front-more, front-end}
use Rattle.proof_ledger.proofs.truths.Truths.standing.Goals as goal

pub loop-lit-init : goal.loop-lit-init
loop-lit-init c = front-begin c.args.self.now c.args.clause.now

pub loop-lit-preserved : goal.loop-lit-preserved
loop-lit-preserved c =
    front-more c.args.self.now c.loop-lit.front c.with-front.result c.args.clause.now c.loop-lit.lit-index c.lit-item.result c.marks_of-marks.result.negation c.marks_of-marks.result.itself
    c.loop-lit-test.true (c.marks_of-marks.ensures.negation ∙ ap (is_false c.args.self.now) c.lit-item.is) (c.marks_of-marks.ensures.itself ∙ ap (is_true c.args.self.now) c.lit-item.is)
    (c.with-front.ensures ∙ ap (λ (l : Lit). front_with c.loop-lit.front l c.marks_of-marks.result.negation c.marks_of-marks.result.itself) c.lit-item.is)
    ∙ c.loop-lit.invariant

pub returns : goal.returns
returns c = c.stands.ensures ∙ front-end c.args.self.now c.loop-lit.front c.args.clause.now c.loop-lit.lit-index c.loop-lit-test.false ∙ c.loop-lit.invariant
