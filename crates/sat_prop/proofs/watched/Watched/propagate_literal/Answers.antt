use Rattle.std.proofs.Common.{◌≡◌, ◌∙◌, ◌<◌, List, ap, sym, subst, length, arith}
use Rattle.prop_core.specs.declared.lit.Lit.{Lit}
use Rattle.prop_core.specs.Clauses.{negation}
use Rattle.sat_prop.specs.TrailState.{literal_at}
use Rattle.sat_prop.specs.declared.watch_lists.Watch.{Watch}
use Rattle.sat_prop.specs.Watches.{IsLive, watch_at}
use Rattle.sat_prop.specs.Watching.{WatchedState, AreWatched}
use Rattle.sat_prop.specs.View.{watched_view}
use Rattle.sat_prop.proofs.Justifying.{propagates_none}
use Rattle.sat_prop.proofs.Inspecting.{at_known}
use Rattle.sat_prop.proofs.Waiting.{watched_waits, visited_begins, visited_ends}
use Rattle.sat_prop.proofs.Visiting.{visiting_still}
use Rattle.sat_prop.proofs.watched.Watched.propagate_literal.Goals as goal

pub open-requires : goal.open-requires
open-requires c =
    let wa = subst (λ (s : WatchedState). AreWatched c.args.trail.now s) (sym c.self.view_is) c.requires.visiting.watched in
    let within = subst (λ (s : WatchedState). s.seen < length c.args.trail.now.literals) (sym c.self.view_is) c.requires.visiting.within in
    let falls = subst (λ (s : WatchedState). literal_at c.args.trail.now.literals s.seen ≡ negation c.args.lit) (sym c.self.view_is) c.requires.visiting.falls in
    let k = at_known c.args.trail.now c.self.inside.seen c.is_sound.ensures.state within in
    let e : (literal_at c.args.trail.now.literals c.self.inside.seen).var ≡ c.args.lit.var = ap (λ (l : Lit). l.var) falls in
    let v = wa.vars in
    omega arith

pub more-init : goal.more-init
more-init c =
    let w = watched_view c.self.inside in
    let wa : AreWatched c.args.trail.now w = subst (λ (s : WatchedState). AreWatched c.args.trail.now s) (sym c.self.view_is) c.requires.visiting.watched in
    let falls = subst (λ (s : WatchedState). literal_at c.args.trail.now.literals s.seen ≡ negation c.args.lit) (sym c.self.view_is) c.requires.visiting.falls in
    let o = c.open.ensures in
    let a = watched_waits c.args.trail.now w c.open.new.self wa o.watches o.vars o.spare in
    record {
      visits = record {
        watched = a;
        grown = propagates_none c.args.trail.now;
        short = ap (λ (s : WatchedState). s.short) c.self.view_is;
        seen = ap (λ (s : WatchedState). s.seen) c.self.view_is;
      };
      visited = visited_begins c.args.trail.now (record w { lists = c.open.new.self }) c.args.lit a falls
          (λ n h live e. o.waits n (subst (λ (ws : List Watch). n < length ws) o.watches h) (subst (λ (ws : List Watch). IsLive ws n) o.watches live) (ap (λ (ws : List Watch). (watch_at ws n).lit) (sym o.watches) ∙ e));
    }

pub propagate_watch-requires-clause-visiting : goal.propagate_watch-requires-clause-visiting
propagate_watch-requires-clause-visiting c = visiting_still c.args.trail.now c.more.trail c.args.self.now c.more.self c.args.db.now.clauses c.args.lit c.requires.visiting c.more.invariant.visits

pub returns-clause-visited : goal.returns-clause-visited
returns-clause-visited c =
    let i = c.more.invariant in
    let none = ap (λ (s : WatchedState). s.lists.waiting) (sym c.self-in-more.view_is) ∙ c.in_default.ensures.none in
    let v = visiting_still c.args.trail.now c.more.trail c.args.self.now c.more.self c.args.db.now.clauses c.args.lit c.requires.visiting i.visits in
    visited_ends c.more.trail c.more.self v.watched i.visited none v.within
