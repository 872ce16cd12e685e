use Rattle.model_text.specs.PrintedModel.{line_of_state}
use Rattle.model_text.proofs.PrintLemmas.{named-on}
use Rattle.model_text.proofs.print.print_states.Goals as goal

pub loop-state-preserved : goal.loop-state-preserved
loop-state-preserved c = named-on line_of_state _ _ _ _ _ _ _ _ c.state_name.ensures c.is_init.ensures c.loop-state.invariant c.in_ok-print_state.ensures
