use Rattle.sat_prop.specs.View.{watched_view}
use Rattle.sat_prop.proofs.Visiting.{IsLooked, IsLooking, literal_known, looked_moves, looked_stays, looking}
use Rattle.sat_prop.proofs.watched.Watched.propagate_clause.Goals as goal
use Rattle.sat_prop.proofs.watched.Watched.propagate_clause.Goals.{in-Stays, in-Moves}

moving : (c : goal.After-put-arg-1) → IsLooking c.args.trail.now c.inspect-inspected.new.trail c.args.self.now (watched_view c.self.inside) c.args.number
moving c = looking _ _ _ _ _ c.self.view_is c.inspect-inspected.ensures.grown c.inspect-inspected.ensures.watched (c.inspect-inspected.ensures.visited c.requires.visited) c.requires.next c.requires.visiting.within

pub put-requires-clause-known : goal.put-requires-clause-known
put-requires-clause-known c = literal_known _ _ _ _ _ (moving c) c.is_sound.ensures.state c.in-Moves.found c.in-Moves.ensures.inspected

looked : (c : goal.Joined-inspected) → IsLooked c.args.trail.now c.inspect-inspected.new.trail c.args.self.now c.match-inspected.self
looked c =
    let k : IsLooking c.args.trail.now c.inspect-inspected.new.trail c.args.self.now (watched_view c.self.inside) c.args.number =
    looking _ _ _ _ _ c.self.view_is c.inspect-inspected.ensures.grown c.inspect-inspected.ensures.watched (c.inspect-inspected.ensures.visited c.requires.visited) c.requires.next c.requires.visiting.within in
    elim c.match-inspected.branch [
      | in-Stays x ↦ rw x.self-is (looked_stays _ _ _ _ _ k x.stay.new.self x.stay.ensures x.in-Stays.ensures.inspected)
      | in-Moves x ↦ rw x.self-is (looked_moves _ _ _ _ _ k c.is_sound.ensures.state x.in-Moves.found x.in-Moves.ensures.inspected x.put.new.self x.put.ensures)
    ]

pub returns-clause-visits : goal.returns-clause-visits
returns-clause-visits c = (looked c).visits

pub returns-clause-visited : goal.returns-clause-visited
returns-clause-visited c = (looked c).visited

pub returns-clause-fewer : goal.returns-clause-fewer
returns-clause-fewer c = (looked c).fewer
