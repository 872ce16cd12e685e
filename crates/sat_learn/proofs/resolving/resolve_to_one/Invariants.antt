use Rattle.std.specs.Prelude.{◌≡◌, ℕ, ◌<◌, ◌≤◌, false, length}
use Rattle.sat_learn.specs.Seen.{is_seen, count_seen, StillRefutes}
use Rattle.sat_learn.proofs.resolving.resolve_to_one.Given as goal

abbrev pub invariant-down : goal.invariant-down
invariant-down l = record {
  size : length l.seen ≡ length l.fn.seen;
  from : l.start ≤ l.place;
  within : l.place < length l.seen;
  counted : l.count ≡ count_seen l.start l.seen;
  some : 0 < l.count;
  above : (later : ℕ) → l.place < later → later < length l.seen → is_seen l.seen later ≡ false;
  refuted : StillRefutes l.on.clauses.now.clauses l.on.trail.now.literals l.fn.seen l.seen l.fn.hints.items l.hints.items;
}

abbrev pub decreases-down : goal.decreases-down
decreases-down l = l.place
