use Rattle.sat_prop.specs.Watching.{AreWatched, OnlyDrops}
use Rattle.sat_prop.proofs.watched.Watched.drop_each_subsumed.Given as goal

abbrev pub invariant-loop-place : goal.invariant-loop-place
invariant-loop-place l = record {
  watched : AreWatched l.trail l.self;
  drops : OnlyDrops l.fn.self l.self;
}
