use Rattle.std.proofs.Common.{◌∙◌, [], length, ap}
use Rattle.sat_learn.proofs.Closing.{closing_from, closing_same, negated_same}
use Rattle.sat_learn.proofs.learner.close.Goals as goal

pub returns-clause-closing : goal.returns-clause-closing
returns-clause-closing c =
    let h = c.in_ok-resolve_to_decisions.ensures.refuted [] c.in_ok-begin.ensures.refuted in
    let r = closing_from c.args.trail.now c.args.db.now.clauses c.resolve_to_decisions.new.seen c.resolve_to_decisions.new.hints.items c.is_sound.ensures.state.justified h c.in_ok-resolve_to_decisions.ensures.decided in
    closing_same c.args.trail.now c.args.db.now.clauses _ _ _ _ _ (c.clause.view_is ∙ negated_same c.new-clause.result _ c.args.trail.now.literals c.literals-literals.result.now c.resolve_to_decisions.new.seen (length c.literals-literals.result.now) _ c.new-clause.ensures c.in_ok-add_negated.ensures c.literals-literals.ensures (ap length c.literals-literals.ensures))
    (c.in_ok-from_slice.ensures ∙ c.deref.ensures.value ∙ c.reverse.ensures.items) r
