use Rattle.std.proofs.Common.{rules}
use Rattle.prop_core.proofs.PieceLists.{small_sum}
use Rattle.prop_core.proofs.pieces.append_ends.Goals as goal

pub overflow_add-later : goal.overflow_add-later
overflow_add-later c = let b = small_sum c.args.later c.loop-end.end-index 0 c.args.more.now c.requires.small (search rules) in search rules
