-- what comes leads from here to the label's place
use Rattle.std.proofs.Common.{◌≡◌, ◌<◌, drop}
use Rattle.replay.specs.LabelPlaces.{place_after, mark_place}
use Rattle.replay.proofs.label_set.mark_place.Given as goal

abbrev pub invariant-loop-byte : goal.invariant-loop-byte
invariant-loop-byte l = record {
  is : place_after l.place (drop l.byte-index l.label) ≡ mark_place l.label;
  within : l.place < 4096;
}
