use Rattle.model_text.proofs.PrintLemmas.{part-whole}
use Rattle.model_text.proofs.print.print_part.Goals as goal

pub returns : goal.returns
returns c = part-whole _ _ _ _ _ c.args.net.now c.args.part _ _ c.comp_name.ensures c.action_name.ensures c.in_ok-extend_from_slice.ensures.items c.in_ok-print_name.ensures c.in_ok-extend_from_slice-2.ensures.items c.in_ok-print_name-2.ensures
