use Rattle.std.specs.Prelude.{◌≡◌, ◌-◌}
use Rattle.sat_prop.specs.Changes.{Propagates}
use Rattle.sat_prop.specs.Watching.{AreWatched}
use Rattle.sat_prop.proofs.watched.Watched.propagate_watched.Given as goal

abbrev pub invariant-more : goal.invariant-more
invariant-more l = record {
  watched : AreWatched l.trail l.self;
  grown : Propagates l.fn.trail l.trail;
  short : l.self.short ≡ l.fn.self.short;
}

abbrev pub decreases-more : goal.decreases-more
decreases-more l = l.trail.vars - l.self.seen
