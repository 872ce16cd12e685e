use Rattle.std.proofs.Common.{◌≡◌, map, take}
use Rattle.log_encode.proofs.alarm_code.noted_labels.Given as goal

abbrev pub invariant-loop-label : goal.invariant-loop-label
invariant-loop-label l = map (λ label. label.value) l.noted.items ≡ take l.label-index l.labels
