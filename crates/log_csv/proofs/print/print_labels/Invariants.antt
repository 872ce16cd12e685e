-- each label so far stands behind a bar
use Rattle.std.proofs.Common.{◌≡◌, ◌++◌, take}
use Rattle.std.specs.List.{flat_map}
use Rattle.log_csv.proofs.PrintLemmas.{behind_bar}
use Rattle.log_csv.proofs.print.print_labels.Given as goal

abbrev pub invariant-loop-label : goal.invariant-loop-label
invariant-loop-label l = l.text.items ≡ l.initial.text.items ++ flat_map behind_bar (take l.label-index l.others)
