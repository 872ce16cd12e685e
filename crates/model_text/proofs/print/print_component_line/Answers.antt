use Rattle.model_text.proofs.PrintLemmas.{line-component}
use Rattle.model_text.proofs.print.print_component_line.Goals as goal

pub returns : goal.returns
returns c = line-component _ _ _ _ _ c.in_ok-extend_from_slice.ensures.items c.in_ok-print_name.ensures c.in_ok-extend_from_slice-2.ensures.items
