use Rattle.std.proofs.Common.{sym, ◌∙◌}
use Rattle.model_text.specs.ModelLines.{transition}
use Rattle.model_text.proofs.RefusalLemmas.{handed, transition-given}
use Rattle.model_text.proofs.addition.add_transition.Goals as goal

pub returns-in_err-add_trans : goal.returns-in_err-add_trans
returns-in_err-add_trans c =
    let line = c.in-Some.line in
    handed _ _ _ (transition line.from.now line.action.now line.to.now) _ _ c.in-Some.ensures c.from_residual-in_err-add_trans.ensures.1
    (transition-given c.args.builder.now c.in-Some-current.comp (rw c.in-Some-current.is at c.requires) line.from.now line.action.now line.to.now _ _ _ _
    (sym c.is_name.ensures ∙ c.if-not-is_name.false) (sym c.is_name-else-not-is_name.ensures ∙ c.if-not-is_name-2.false) c.in_ok-action.ensures
    c.in-Some-find_state.ensures.place c.in-Some-find_state-2.ensures.place c.in-Some-find_state.ensures.within c.in-Some-find_state-2.ensures.within c.in_err-add_trans.ensures.refused)
