-- the ends so far are there, later, and for the others there is room
use Rattle.std.proofs.Common.{◌≡◌, ◌+◌, ◌≤◌, ◌++◌, map, take, vec_len, vec_capacity}
use Rattle.prop_core.specs.PieceList.{later_by}
use Rattle.prop_core.proofs.pieces.append_ends.Given as goal

abbrev pub invariant-loop-end : goal.invariant-loop-end
invariant-loop-end l = record {
  added : l.ends.items ≡ l.fn.ends.items ++ map (later_by l.later) (take l.end-index l.more);
  room : vec_len l.fn.ends + l.end-index ≡ vec_len l.ends;
  capacity : vec_capacity l.fn.ends ≤ vec_capacity l.ends;
}
