use Rattle.std.specs.Prelude.{◌≡◌, ◌<◌, length, slice_set}
use Rattle.sat_solve.specs.Heap.{ArePlaced, has_place}
use Rattle.sat_solve.proofs.heap.rise.Given as goal

abbrev pub invariant-up : goal.invariant-up
invariant-up l = record {
  place : l.place < length l.vars;
  known : l.var < length l.places;
  placed : ArePlaced (slice_set l.vars l.place l.var) (slice_set l.places l.var l.place);
  waiting : has_place (slice_set l.places l.var l.place) ≡ has_place (slice_set l.fn.places l.var l.from);
}

abbrev pub decreases-up : goal.decreases-up
decreases-up l = l.place
