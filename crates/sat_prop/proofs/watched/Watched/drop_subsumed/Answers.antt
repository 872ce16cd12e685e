use Rattle.std.proofs.Common.{◌∙◌, inr, ap, sym, subst}
use Rattle.sat_prop.specs.Watches.{WatchState}
use Rattle.sat_prop.specs.Watching.{WatchedState, AreWatched, IsSubsumed, unwatched}
use Rattle.sat_prop.specs.View.{watched_view}
use Rattle.sat_prop.proofs.Subsuming.{watched_without}
use Rattle.sat_prop.proofs.watched.Watched.drop_subsumed.Goals as goal

pub returns : goal.returns
returns c =
    let w = watched_view c.self.inside in
    let wa : AreWatched c.args.trail.now w = subst (λ (s : WatchedState). AreWatched c.args.trail.now s) (sym c.self.view_is) c.requires.watched in
    let is : IsSubsumed c.args.trail.now.clauses w.lists.watches c.args.older c.args.newer = subst (λ (s : WatchedState). IsSubsumed c.args.trail.now.clauses s.lists.watches c.args.older c.args.newer) (sym c.self.view_is) (c.is_subsumed.ensures.0 c.if-not-is_subsumed.false) in
    let new = ap (λ (s : WatchState). record w { lists = s }) c.drop_clause.ensures ∙ ap (λ (s : WatchedState). unwatched s c.args.older) c.self.view_is in
    record {
      watched = subst (λ (s : WatchState). AreWatched c.args.trail.now (record w { lists = s })) (sym c.drop_clause.ensures)
          (watched_without c.args.trail.now w c.args.older c.args.newer wa is.older_within is.older_live is.newer_within is.apart is.subsumes);
      kept = inr new;
      dropped = λ s. new;
    }
