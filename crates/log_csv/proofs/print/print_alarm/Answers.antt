use Rattle.log_csv.proofs.PrintLemmas.{line-alarm}
use Rattle.log_csv.proofs.print.print_alarm.Goals as goal

pub returns : goal.returns
returns c =
    line-alarm c.args.maybe _ _ _ _ _ _ _ _ _ _ c.alarm_word.ensures c.in_ok-extend_from_slice.ensures.items c.in_ok-extend_from_slice-2.ensures.items c.in_ok-print_name.ensures c.in_ok-extend_from_slice-3.ensures.items c.in_ok-print_labels.ensures c.in_ok-extend_from_slice-4.ensures.items
