use Rattle.std.proofs.Common.{◌↔◌, ◌≤◌, ℕ, sym, subst, length, IsTrue}
use Rattle.sat_prop.specs.Watches.{watch_at}
use Rattle.sat_prop.specs.Watching.{WatchedState, AreWatched, IsSubsumed}
use Rattle.sat_prop.specs.View.{watched_view}
use Rattle.sat_prop.proofs.Inspecting.{found}
use Rattle.sat_prop.proofs.Subsuming.{subsumed_read}
use Rattle.sat_prop.proofs.watched.Watched.is_subsumed.Goals as goal

pub subsumes_another-requires : goal.subsumes_another-requires
subsumes_another-requires c =
    let w = watched_view c.self.inside in
    let wa : AreWatched c.args.trail.now w = subst (λ (s : WatchedState). AreWatched c.args.trail.now s) (sym c.self.view_is) c.requires.watched in
    let old = c.in-Some.ensures in
    let new = c.in-Some-clause.ensures in
    let one = found c.args.trail.now c.args.db.now.clauses (watch_at w.lists.watches c.args.newer).clause c.is_sound.ensures.state c.requires.grown (wa.each c.args.newer new.within new.live).joined in
    let two = found c.args.trail.now c.args.db.now.clauses (watch_at w.lists.watches c.args.older).clause c.is_sound.ensures.state c.requires.grown (wa.each c.args.older old.within old.live).joined in
    record {
      inner_from_one = subst (λ (n : ℕ). 1 ≤ n) new.clause one.from_one;
      inner_in_range = subst (λ (n : ℕ). n ≤ length c.args.db.now.clauses) new.clause one.in_range;
      outer_from_one = subst (λ (n : ℕ). 1 ≤ n) old.clause two.from_one;
      outer_in_range = subst (λ (n : ℕ). n ≤ length c.args.db.now.clauses) old.clause two.in_range;
    }

pub returns : goal.returns
returns c =
    let w = watched_view c.self.inside in
    let wa : AreWatched c.args.trail.now w = subst (λ (s : WatchedState). AreWatched c.args.trail.now s) (sym c.self.view_is) c.requires.watched in
    let old = c.in-Some.ensures in
    let new = c.in-Some-clause.ensures in
    subst (λ (s : WatchedState). IsTrue c.subsumes_another.result ↔ IsSubsumed c.args.trail.now.clauses s.lists.watches c.args.older c.args.newer) c.self.view_is
    (subsumed_read c.args.trail.now w c.args.db.now.clauses c.args.older c.args.newer c.in-Some-clause.inner c.in-Some.outer c.subsumes_another.result c.requires.grown wa
    old.within old.live old.clause new.within new.live new.clause c.subsumes_another.ensures.another c.subsumes_another.ensures.part)
