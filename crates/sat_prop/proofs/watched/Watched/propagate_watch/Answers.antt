use Rattle.sat_prop.specs.View.{watched_view}
use Rattle.sat_prop.proofs.Justifying.{propagates_none}
use Rattle.sat_prop.proofs.Visiting.{IsLooked, looked_dropped, looking}
use Rattle.sat_prop.proofs.watched.Watched.propagate_watch.Goals as goal

looked : (c : goal.After-forget) → IsLooked c.args.trail.now c.args.trail.now c.args.self.now (record (watched_view c.self.inside) { lists = c.forget.new.self })
looked c =
    let k = looking c.args.trail.now c.args.trail.now c.args.self.now (watched_view c.self.inside) c.args.number c.self.view_is
    (propagates_none c.args.trail.now) c.requires.visiting.watched c.requires.visited c.requires.next c.requires.visiting.within in
    looked_dropped _ _ _ _ _ k c.forget.new.self c.forget.ensures (c.is_dropped.ensures.0 c.if-is_dropped.true)

pub returns-then-is_dropped-clause-visits : goal.returns-then-is_dropped-clause-visits
returns-then-is_dropped-clause-visits c = (looked c).visits

pub returns-then-is_dropped-clause-visited : goal.returns-then-is_dropped-clause-visited
returns-then-is_dropped-clause-visited c = (looked c).visited
