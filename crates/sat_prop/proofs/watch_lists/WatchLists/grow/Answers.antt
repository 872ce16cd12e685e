use Rattle.std.proofs.Common.{◌≡◌, ◌+◌, ◌-◌, length, arith}
use Rattle.std.proofs.lemmas.Grind.{common_steps}
use Rattle.sat_prop.specs.Watches.{watches_of, nexts_of}
use Rattle.sat_prop.proofs.WatchLists.{lists_wider, walk_wider}
use Rattle.sat_prop.proofs.watch_lists.WatchLists.grow.Goals as goal

pub invariant_of-self-2 : goal.invariant_of-self-2
invariant_of-self-2 c = record {
  lists = rw (c.fill.ensures, c.reserve.ensures.items) (lists_wider c.self.inside.lists.items (c.max-count.result - length c.self.inside.lists.items) (watches_of c.self.inside.nodes.items) (nexts_of c.self.inside.nodes.items) c.self.invariant.lists);
  walk = rw (c.fill.ensures, c.reserve.ensures.items) (walk_wider c.self.inside.lists.items (c.max-count.result - length c.self.inside.lists.items) (nexts_of c.self.inside.nodes.items) c.self.inside.walk c.self.invariant.walk);
  limit =
      let f = c.fill.ensures in
      let r = c.reserve.ensures.items in
      let l = c.self.invariant.limit in
      let m = c.max-count.ensures in
      let v = c.requires in
      let n : length c.fill.new.lists.items ≡ length c.self.inside.lists.items + (c.max-count.result - length c.self.inside.lists.items) = rw (f, r) (grind (arith, common_steps)) in
      grind (arith, common_steps);
  pairs = c.self.invariant.pairs;
  few = c.self.invariant.few;
  room = c.self.invariant.room;
}
