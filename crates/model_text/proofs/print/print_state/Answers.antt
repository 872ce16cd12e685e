use Rattle.model_text.proofs.PrintLemmas.{line-state}
use Rattle.model_text.proofs.print.print_state.Goals as goal

pub returns : goal.returns
returns c = line-state _ _ _ _ _ _ c.args.initial c.in_ok-extend_from_slice.ensures.items c.in_ok-print_name.ensures c.in_ok-print_mark.ensures c.in_ok-extend_from_slice-2.ensures.items
