use Rattle.std.specs.Prelude.{◌≡◌, ◌≤◌, length}
use Rattle.sat_learn.specs.Seen.{StillRefutes, IsDecidedFrom}
use Rattle.sat_learn.proofs.resolving.resolve_to_decisions.Given as goal

abbrev pub invariant-down : goal.invariant-down
invariant-down l = record {
  size : length l.seen ≡ length l.fn.seen;
  within : l.place ≤ length l.seen;
  decided : IsDecidedFrom l.reasons l.seen l.place;
  refuted : StillRefutes l.on.clauses.now.clauses l.on.trail.now.literals l.fn.seen l.seen l.fn.hints.items l.hints.items;
}

abbrev pub decreases-down : goal.decreases-down
decreases-down l = l.place
