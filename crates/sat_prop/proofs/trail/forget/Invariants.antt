use Rattle.std.specs.Prelude.{◌≤◌, length, take}
use Rattle.sat_prop.specs.Kept.{AreValues}
use Rattle.sat_prop.proofs.trail.forget.Given as goal

abbrev pub invariant-down : goal.invariant-down
invariant-down l = record {
  least : l.kept ≤ l.place;
  upto : l.place ≤ length l.literals;
  values : AreValues (length l.fn.values.items) (take l.place l.literals) l.values.items;
}

abbrev pub decreases-down : goal.decreases-down
decreases-down l = l.place
