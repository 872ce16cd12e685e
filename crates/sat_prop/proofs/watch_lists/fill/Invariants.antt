use Rattle.std.specs.Prelude.{◌≡◌, ◌≤◌, ◌-◌, ◌++◌, vec_len, vec_capacity}
use Rattle.sat_prop.specs.Watches.{no_lists}
use Rattle.sat_prop.proofs.watch_lists.fill.Given as goal

abbrev pub invariant-more : goal.invariant-more
invariant-more l = record {
  items : l.lists.items ≡ l.fn.lists.items ++ no_lists (vec_len l.lists - vec_len l.fn.lists);
  longer : vec_len l.fn.lists ≤ vec_len l.lists;
  within : vec_len l.lists ≤ l.count;
  room : l.count ≤ vec_capacity l.lists;
}

abbrev pub decreases-more : goal.decreases-more
decreases-more l = l.count - vec_len l.lists
