use Rattle.log_csv.proofs.PrintLemmas.{line-pair}
use Rattle.log_csv.proofs.print.print_pair.Goals as goal

pub returns : goal.returns
returns c =
    line-pair _ _ _ _ _ _ _ _ c.in_ok-extend_from_slice.ensures.items c.in_ok-print_name.ensures c.in_ok-extend_from_slice-2.ensures.items c.in_ok-print_name-2.ensures c.in_ok-extend_from_slice-3.ensures.items
