-- the labels so far have their marks
use Rattle.replay.specs.LabelPlaces.{HaveMarks}
use Rattle.replay.proofs.label_set.LabelSet.of.Given as goal

abbrev pub invariant-loop-label : goal.invariant-loop-label
invariant-loop-label l = HaveMarks l.marks l.labels l.label-index
