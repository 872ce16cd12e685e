use Rattle.log_csv.proofs.PrintLemmas.{all-others, labels-all}
use Rattle.log_csv.proofs.print.print_labels.Goals as goal

pub returns : goal.returns
returns c = labels-all _ _ _ _ _ _ _ c.in_ok-print_name.ensures c.loop-label.invariant c.loop-label-test.false c.in-len1-up.len_at_least c.first-item.is (all-others c.args.labels.now c.in-len1-up.len_at_least)
