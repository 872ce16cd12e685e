use Rattle.std.proofs.Common.{◌∙◌, ◌<◌, ℕ, ap, sym, subst, Some}
use Rattle.prop_core.specs.Clauses.{AreConsistent}
use Rattle.sat_prop.specs.TrailState.{TrailState}
use Rattle.sat_prop.specs.Quiet.{stands}
use Rattle.sat_prop.specs.Changes.{with_attached_clause, with_true_literal}
use Rattle.sat_prop.specs.Watches.{WatchState, with_watched_clause}
use Rattle.sat_prop.specs.Watching.{WatchedState, AreWatched, IsForcing}
use Rattle.sat_prop.specs.View.{watched_view}
use Rattle.sat_prop.proofs.Justifying.{justified_consistent}
use Rattle.sat_prop.proofs.Attaching.{both_known, contains_new, forces, watch_forced}
use Rattle.sat_prop.proofs.watched.Watched.add_learnt.Goals as goal

known : (c : goal.After-number) → (c.in-Some.first-1-given.0.0.0.var < c.args.self.now.lists.vars) × (c.in-Some.first-1-given.0.0.1.var < c.args.self.now.lists.vars)
known c = both_known c.args.trail.now c.args.self.now c.args.db.now.clauses c.args.id c.clause.result.now c.in-Some.first-1-given.0.0.0 c.in-Some.first-1-given.0.0.1 c.requires.watched c.requires.known c.clause.ensures c.in-Some.ensures.two

pub add-requires-clause-first : goal.add-requires-clause-first
add-requires-clause-first c = subst (λ (s : WatchedState). c.in-Some.first-1-given.0.0.0.var < s.lists.vars) (sym c.self.view_is) (known c).0

pub add-requires-clause-second : goal.add-requires-clause-second
add-requires-clause-second c = subst (λ (s : WatchedState). c.in-Some.first-1-given.0.0.1.var < s.lists.vars) (sym c.self.view_is) (known c).1

pub force-requires-clause-attached : goal.force-requires-clause-attached
force-requires-clause-attached c = rw c.attach.ensures (contains_new c.args.trail.now.attached c.args.id)

pub force-requires-clause-forced : goal.force-requires-clause-forced
force-requires-clause-forced c =
    let forcing = subst (λ (s : WatchedState). IsForcing c.args.trail.now.literals c.clause.result.now s.seen c.in-Some.first-1-given.0.0.0 c.in-Some.first-1-given.0.0.1) c.self.view_is c.in-Some.ensures in
    let consistent = subst (λ (t : TrailState). AreConsistent t.literals) c.attach.ensures (justified_consistent _ _ _ _ _ c.is_sound.ensures.state.justified) in
    rw c.attach.ensures (ap (stands c.args.trail.now.literals) c.clause.ensures ∙ forces c.args.trail.now c.args.self.now c.clause.result.now c.in-Some.first-1-given.0.0.0 c.in-Some.first-1-given.0.0.1 c.requires.watched forcing consistent)

pub returns-in-Some-clause-watched : goal.returns-in-Some-clause-watched
returns-in-Some-clause-watched c =
    let t = c.args.trail.now in
    let w = watched_view c.self.inside in
    let a : AreWatched t w = subst (λ (s : WatchedState). AreWatched t s) (sym c.self.view_is) c.requires.watched in
    rw (c.force.ensures, c.attach.ensures)
    (subst (λ (s : WatchState). AreWatched (with_true_literal (with_attached_clause t c.args.db.now.clauses c.args.id) c.in-Some.first-1-given.0.0.0 (Some c.args.id)) (record w { lists = s })) (sym (c.add.ensures ∙ ap (λ (n : ℕ). with_watched_clause w.lists n c.in-Some.first-1-given.0.0.0 c.in-Some.first-1-given.0.0.1) c.number.ensures))
    (watch_forced t w c.clause.result.now c.in-Some.first-1-given.0.0.0 c.in-Some.first-1-given.0.0.1 a c.in-Some.ensures c.args.db.now.clauses c.args.id c.requires.grown c.requires.room c.clause.ensures))
