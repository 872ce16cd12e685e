-- each component was counted as often as parts so far are of it
use Rattle.std.proofs.Common.{◌≡◌, ◌+◌, ℕ, length, take}
use Rattle.std.specs.Prelude.{count_by, slice_index_or}
use Rattle.sizing.proofs.Counted.{is_of}
use Rattle.sizing.proofs.touching.count_touched.Given as goal

abbrev pub invariant-loop-part : goal.invariant-loop-part
invariant-loop-part l = record {
  long : length l.counts ≡ 1000;
  each : (c : ℕ) → slice_index_or l.counts c 0 ≡ slice_index_or l.fn.counts c 0 + count_by (is_of c) (take l.part-index l.parts);
}
