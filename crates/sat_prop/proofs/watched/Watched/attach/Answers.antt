use Rattle.std.proofs.Common.{◌≡◌, ◌∙◌, ◌++◌, ◌∷◌, [], ◌<◌, ◌≤◌, ◌-◌, ℕ, List, ap, sym, subst, arith}
use Rattle.std.proofs.lemmas.Grind.{common_steps}
use Rattle.sat_prop.specs.Changes.{with_attached_clause}
use Rattle.sat_prop.specs.Watches.{WatchState, with_watched_clause}
use Rattle.sat_prop.specs.Watching.{WatchedState, AreWatched}
use Rattle.sat_prop.specs.View.{watched_view}
use Rattle.sat_prop.proofs.Attaching.{both_known, short_attached, watch_attached}
use Rattle.sat_prop.proofs.watched.Watched.attach.Goals as goal

known : (c : goal.After-number) → (c.in-Some.first-1-given.0.0.0.var < c.args.self.now.lists.vars) × (c.in-Some.first-1-given.0.0.1.var < c.args.self.now.lists.vars)
known c = both_known c.args.trail.now c.args.self.now c.args.db.now.clauses c.args.id c.clause.result.now c.in-Some.first-1-given.0.0.0 c.in-Some.first-1-given.0.0.1 c.requires.watched c.requires.known c.clause.ensures c.in-Some.ensures.two

pub add-requires-clause-first : goal.add-requires-clause-first
add-requires-clause-first c = subst (λ (s : WatchedState). c.in-Some.first-1-given.0.0.0.var < s.lists.vars) (sym c.self.view_is) (known c).0

pub add-requires-clause-second : goal.add-requires-clause-second
add-requires-clause-second c = subst (λ (s : WatchedState). c.in-Some.first-1-given.0.0.1.var < s.lists.vars) (sym c.self.view_is) (known c).1

pub returns-in-Some : goal.returns-in-Some
returns-in-Some c =
    let w = watched_view c.self.inside in
    let wa : AreWatched c.args.trail.now w = subst (λ (s : WatchedState). AreWatched c.args.trail.now s) (sym c.self.view_is) c.requires.watched in
    let m = c.min-self-inside.ensures in
    let k = c.min-falls.ensures in
    let front = wa.front in
    let fewer : c.min-self-inside.result ≤ c.self.inside.seen = grind (arith, common_steps) in
    let first : c.min-self-inside.result ≤ c.falls.result = grind (arith, common_steps) in
    let second : c.min-self-inside.result ≤ c.falls-in-Some.result = grind (arith, common_steps) in
    subst (λ (s : WatchState). AreWatched (with_attached_clause c.args.trail.now c.args.db.now.clauses c.args.id) (record w { lists = s; seen = c.min-self-inside.result })) (sym (c.add.ensures ∙ ap (λ (n : ℕ). with_watched_clause w.lists n c.in-Some.first-1-given.0.0.0 c.in-Some.first-1-given.0.0.1) c.number.ensures))
    (watch_attached c.args.trail.now w c.args.db.now.clauses c.args.id c.clause.result.now c.in-Some.first-1-given.0.0.0 c.in-Some.first-1-given.0.0.1 c.min-self-inside.result c.requires.grown c.requires.room wa c.clause.ensures c.in-Some.ensures.two fewer
    (λ place h e. c.falls.ensures place (omega arith) (omega arith) e)
    (λ place h e. c.falls-in-Some.ensures place (omega arith) (omega arith) e))

pub returns-in-None : goal.returns-in-None
returns-in-None c =
    let w = watched_view c.self.inside in
    let wa : AreWatched c.args.trail.now w = subst (λ (s : WatchedState). AreWatched c.args.trail.now s) (sym c.self.view_is) c.requires.watched in
    let u = c.unwrap.ensures in
    let e : c.push.new.self.items ≡ c.self.inside.short.items ++ c.args.id ∷ [] = let a = c.push.ensures.items in grind (arith, common_steps) in
    subst (λ (xs : List ℕ). AreWatched (with_attached_clause c.args.trail.now c.args.db.now.clauses c.args.id) (record w { short = xs; spare = c.self.inside.spare - 1 })) (sym e)
    (short_attached c.args.trail.now w c.args.db.now.clauses c.args.id c.requires.grown c.requires.room wa (record { clause = c.clause.result.now; held = c.clause.ensures; narrow = c.in-None.ensures.none }))
