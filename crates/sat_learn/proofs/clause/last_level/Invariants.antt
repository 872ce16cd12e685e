use Rattle.std.specs.Prelude.{◌≡◌, ◌≤◌}
use Rattle.sat_learn.specs.Seen.{level_seen}
use Rattle.sat_learn.proofs.clause.last_level.Given as goal

abbrev pub invariant-down : goal.invariant-down
invariant-down l = record { upto : l.place ≤ l.count; so_far : level_seen l.trail.reasons l.seen l.place ≡ level_seen l.trail.reasons l.seen l.count }

abbrev pub decreases-down : goal.decreases-down
decreases-down l = l.place
