use Rattle.std.specs.Prelude.{◌≡◌, ℕ, ◌<◌, ◌≤◌, length}
use Rattle.sat_learn.specs.Seen.{is_seen, IsDecidedTo, StillRefutes}
use Rattle.sat_learn.proofs.shortening.shorten.Given as goal

abbrev pub invariant-down : goal.invariant-down
invariant-down l = record {
  size : length l.seen ≡ length l.fn.seen;
  within : l.place ≤ l.on.start;
  above : (later : ℕ) → l.on.start ≤ later → later < length l.on.trail.now.literals → is_seen l.seen later ≡ is_seen l.fn.seen later;
  decided : IsDecidedTo l.on.trail.now.reasons l.decisions_to l.seen l.place l.on.start;
  refuted : StillRefutes l.on.clauses.now.clauses l.on.trail.now.literals l.fn.seen l.seen l.fn.hints.items l.hints.items;
}

abbrev pub decreases-down : goal.decreases-down
decreases-down l = l.place
