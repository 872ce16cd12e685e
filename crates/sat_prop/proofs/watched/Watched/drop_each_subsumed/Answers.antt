use Rattle.std.proofs.Common.{sym, subst}
use Rattle.sat_prop.specs.Watching.{WatchedState, AreWatched, OnlyDrops}
use Rattle.sat_prop.proofs.Dropping.{drops_none, drops_more}
use Rattle.sat_prop.proofs.watched.Watched.drop_each_subsumed.Goals as goal
use Rattle.sat_prop.proofs.watched.Watched.drop_each_subsumed.Goals.{then-may_be_part, else-may_be_part}

pub loop-place-init : goal.loop-place-init
loop-place-init c = record { watched = c.requires.watched; drops = drops_none c.args.self.now }

pub loop-place-preserved : goal.loop-place-preserved
loop-place-preserved c = elim c.if-may_be_part.branch [
  | then-may_be_part w ↦ record {
    watched = subst (λ (s : WatchedState). AreWatched c.args.trail.now s) (sym w.self-is) w.drop_subsumed.ensures.watched;
    drops = subst (λ (s : WatchedState). OnlyDrops c.args.self.now s) (sym w.self-is) (drops_more c.args.self.now c.loop-place.self w.drop_subsumed.new.self c.at-older.result.watch c.loop-place.invariant.drops w.drop_subsumed.ensures.kept);
  }
  | else-may_be_part w ↦ record {
    watched = subst (λ (s : WatchedState). AreWatched c.args.trail.now s) (sym w.self-is) c.loop-place.invariant.watched;
    drops = subst (λ (s : WatchedState). OnlyDrops c.args.self.now s) (sym w.self-is) c.loop-place.invariant.drops;
  }
]
