use Rattle.std.specs.Prelude.{◌≡◌, length}
use Rattle.sat_prop.specs.Changes.{Propagates}
use Rattle.sat_prop.specs.Quiet.{AreQuietBelow}
use Rattle.sat_prop.specs.Watching.{AreWatched}
use Rattle.sat_prop.proofs.watched.Watched.propagate_each_short.Given as goal

abbrev pub invariant-loop-place : goal.invariant-loop-place
invariant-loop-place l = record {
  watched : AreWatched l.trail l.self;
  grown : Propagates l.fn.trail l.trail;
  quiet : length l.trail.literals ≡ length l.fn.trail.literals → AreQuietBelow l.trail.clauses l.self.short l.trail.literals l.place;
}
