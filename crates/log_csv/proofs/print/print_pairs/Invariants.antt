-- the lines of the pairs so far
use Rattle.std.proofs.Common.{◌≡◌, ◌++◌, take}
use Rattle.std.specs.List.{flat_map}
use Rattle.log_csv.specs.PrintedLog.{pair_line}
use Rattle.log_csv.proofs.print.print_pairs.Given as goal

abbrev pub invariant-loop-pair : goal.invariant-loop-pair
invariant-loop-pair l = l.text.items ≡ l.initial.text.items ++ flat_map (pair_line l.log.alarms) (take l.pair-index l.pair-items)
