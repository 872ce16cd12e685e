use Rattle.std.specs.Prelude.{◌≡◌, ◌≤◌, ◌++◌}
use Rattle.sat_learn.specs.Seen.{negated_seen}
use Rattle.sat_learn.proofs.clause.add_negated.Given as goal

abbrev pub invariant-down : goal.invariant-down
invariant-down l = record { upto : l.place ≤ l.count; so_far : l.clause ++ negated_seen l.literals l.seen l.place ≡ l.fn.clause ++ negated_seen l.literals l.seen l.count }

abbrev pub decreases-down : goal.decreases-down
decreases-down l = l.place
