use Rattle.model_text.proofs.PrintLemmas.{line-transition}
use Rattle.model_text.proofs.print.print_transition.Goals as goal

pub returns : goal.returns
returns c =
    line-transition _ _ _ _ _ _ _ _ _ _ _ c.in_ok-extend_from_slice.ensures.items c.in_ok-print_name.ensures c.in_ok-extend_from_slice-2.ensures.items c.in_ok-print_name-2.ensures
    c.in_ok-extend_from_slice-3.ensures.items c.in_ok-print_name-3.ensures c.in_ok-extend_from_slice-4.ensures.items
