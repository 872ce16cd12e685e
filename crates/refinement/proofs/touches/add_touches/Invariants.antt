use Rattle.std.proofs.Common.{◌≡◌, drop, length}
use Rattle.refinement.specs.Marking.{with_touches}
use Rattle.refinement.proofs.touches.add_touches.Given as goal

abbrev pub invariant-loop-part : goal.invariant-loop-part
invariant-loop-part l = record {
  count : length l.touches.items ≡ length l.fn.touches.items;
  rest : with_touches l.event (drop l.part-index l.parts) l.touches.items ≡ with_touches l.event l.parts l.fn.touches.items;
}
