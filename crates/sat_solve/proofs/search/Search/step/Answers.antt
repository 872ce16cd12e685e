use Rattle.sat_solve.proofs.Stepping.{under_way_grown}
use Rattle.sat_solve.proofs.search.Search.step.Goals as goal

pub at_conflict-requires-clause-under_way : goal.at_conflict-requires-clause-under_way
at_conflict-requires-clause-under_way g c =
    let s = c.args.self.now in
    under_way_grown c.args.assumptions.now s.taken s.order.waiting s.vars s.spare s.propagator c.propagate-found.new.self c.args.book.now.entries c.requires.under_way c.propagate-found.ensures.grown c.is_sound.ensures.state c.is_sound-2.ensures.state

pub at_rest-requires-clause-under_way : goal.at_rest-requires-clause-under_way
at_rest-requires-clause-under_way g c =
    let s = c.args.self.now in
    under_way_grown c.args.assumptions.now s.taken s.order.waiting s.vars s.spare s.propagator c.propagate-found.new.self c.args.book.now.entries c.requires.under_way c.propagate-found.ensures.grown c.is_sound.ensures.state c.is_sound-2.ensures.state
