-- what the rest of the parts makes of the pieces is what all make of those at first
use Rattle.std.proofs.Common.{◌≡◌, ℕ, cond, drop, get_or, length}
use Rattle.des_net.specs.Network.{has_part}
use Rattle.replay.proofs.width.touch.Given as goal

abbrev pub invariant-loop-part : goal.invariant-loop-part
invariant-loop-part l = record {
  long : length l.last.items ≡ length l.fn.last.items;
  rest : (c : ℕ) → cond (has_part (drop l.part-index l.parts) c) l.piece (get_or l.last.items c 0) ≡ cond (has_part l.parts c) l.piece (get_or l.fn.last.items c 0);
}
