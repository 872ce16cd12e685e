use Rattle.std.proofs.Common.{◌%◌, ap, arith}
use Rattle.std.proofs.lemmas.Grind.{common_steps}
use Rattle.sat_prop.proofs.Walking.{walk_none}
use Rattle.sat_prop.proofs.WatchLists.{none_stand}
use Rattle.sat_prop.proofs.watch_lists.WatchLists.new.Goals as goal

pub invariant_of-result : goal.invariant_of-result
invariant_of-result c = record {
  lists = rw (c.new.ensures.items, c.new-2.ensures.items) none_stand;
  walk = (walk_none _ _ _ c.no_walk.ensures).walks;
  limit = rw c.new-2.ensures.items (grind (arith, common_steps));
  pairs = ap (λ n. n % 2) c.new.ensures.len;
  few = let l = c.new.ensures.len in grind (arith, common_steps);
  room = let l = c.new.ensures.len in grind (arith, common_steps);
}
