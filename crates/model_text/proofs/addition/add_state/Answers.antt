use Rattle.model_text.specs.ModelLines.{state}
use Rattle.model_text.proofs.RefusalLemmas.{handed, state-given}
use Rattle.model_text.proofs.addition.add_state.Goals as goal

pub returns-in_err-add_state : goal.returns-in_err-add_state
returns-in_err-add_state c =
    handed _ _ _ (state c.in-Some.line.name.now c.in-Some.line.initial) _ _ c.in-Some.ensures c.from_residual-in_err-add_state.ensures.1
    (state-given c.args.builder.now c.in-Some-current.comp (rw c.in-Some-current.is at c.requires) c.in-Some.line.name.now c.in_ok-name.name c.in-Some.line.initial _ c.in_ok-name.ensures c.in_err-add_state.ensures.refused)
