use Rattle.model_text.proofs.PrintLemmas.{component-whole}
use Rattle.model_text.proofs.print.print_component.Goals as goal

pub returns : goal.returns
returns c = component-whole _ _ _ _ c.args.net.now c.args.comp _ c.comp_name.ensures c.in_ok-print_component_line.ensures c.in_ok-print_states.ensures c.in_ok-print_transitions.ensures
