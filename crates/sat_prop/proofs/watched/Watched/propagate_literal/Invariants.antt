use Rattle.sat_prop.specs.Watching.{AreVisited, Visits}
use Rattle.std.specs.Prelude.{length}
use Rattle.sat_prop.proofs.watched.Watched.propagate_literal.Given as goal

abbrev pub invariant-more : goal.invariant-more
invariant-more l = record {
  visits : Visits l.fn.trail l.fn.self l.trail l.self;
  visited : AreVisited l.trail l.self;
}

abbrev pub decreases-more : goal.decreases-more
decreases-more l = length l.self.lists.waiting
