use Rattle.std.proofs.Common.{◌≡◌, ◌∙◌, ◌+◌, ◌<◌, true, false, ap, sym, subst, length, take}
use Rattle.std.specs.Prelude.{Contains, IfSome}
use Rattle.std.proofs.lemmas.Bool.{not-true, not-false}
use Rattle.prop_core.specs.declared.lit.Lit.{Lit}
use Rattle.prop_core.specs.Clauses.{negation, same_literal, is_true}
use Rattle.prop_core.specs.Derivation.{clause_numbered}
use Rattle.prop_core.proofs.Entailed.{same_itself}
use Rattle.prop_core.proofs.Literals.{same_is}
use Rattle.sat_prop.specs.TrailState.{literal_at}
use Rattle.sat_prop.specs.declared.watch_lists.Watch.{Watch}
use Rattle.sat_prop.specs.Watches.{watch_at, other_literal}
use Rattle.sat_prop.specs.Watching.{WatchedState, AreTwo, AreWatched, IsSettled, IsReplaced}
use Rattle.sat_prop.proofs.Links.{not_both}
use Rattle.sat_prop.proofs.Settling.{settled_apart, settled_true}
use Rattle.sat_prop.proofs.Inspecting.{two_watched, falls_by, inspected_read, watched_kept, visited_kept}
use Rattle.sat_prop.proofs.watched.Watched.inspect.Goals as goal
use Rattle.sat_prop.proofs.watched.Watched.inspect.Goals.{then-ne-via-then-ne, then-ne-via-else-ne+then-holds_up_to}

pub returns-then-ne-clause-inspected : goal.returns-then-ne-clause-inspected
returns-then-ne-clause-inspected c =
    let wa = subst (λ (s : WatchedState). AreWatched c.args.trail.now s) (sym c.self.view_is) c.requires.visiting.watched in
    let n = subst (λ (s : WatchedState). c.args.number < length s.lists.watches) (sym c.self.view_is) c.requires.number in
    let falls = subst (λ (s : WatchedState). literal_at c.args.trail.now.literals s.seen ≡ negation c.args.lit) (sym c.self.view_is) c.requires.visiting.falls in
    let within = subst (λ (s : WatchedState). s.seen < length c.args.trail.now.literals) (sym c.self.view_is) c.requires.visiting.within in
    subst (λ (s : WatchedState). IsSettled c.args.trail.now.clauses c.args.trail.now.literals (s.seen + 1) s.lists.watches c.args.number) c.self.view_is (elim c.then-ne.branch [
      | then-ne-via-then-ne w ↦
          let f : same_literal c.watch-watch.result.lit c.args.lit ≡ false = not-true _ (sym c.ne.ensures ∙ w.if-ne.true) in
          settled_apart c.args.trail.now.clauses c.args.trail.now.literals c.self.inside.seen c.self.inside.lists.watches c.args.number c.args.lit (wa.settled c.args.number n) falls
          (λ e. not_both _ (subst (λ (x : Lit). same_literal x c.args.lit ≡ true) (sym (ap (λ (x : Watch). x.lit) c.watch-watch.ensures ∙ e)) (same_itself c.args.lit)) f)
      | then-ne-via-else-ne+then-holds_up_to w ↦
          settled_true c.args.trail.now.clauses c.args.trail.now.literals c.self.inside.seen c.self.inside.lists.watches c.args.number within (wa.settled c.args.number n)
          (ap (is_true (take (c.self.inside.seen + 1) c.args.trail.now.literals)) (sym c.other_literal-other.ensures) ∙ sym w.holds_up_to.ensures ∙ w.if-holds_up_to.true)
    ])

pub replace_or_force-requires : goal.replace_or_force-requires
replace_or_force-requires c =
    let wa = c.requires.visiting.watched in
    let read : c.watch-watch.result ≡ watch_at c.args.self.now.lists.watches c.args.number = c.watch-watch.ensures ∙ ap (λ (s : WatchedState). watch_at s.lists.watches c.args.number) c.self.view_is in
    let other : c.other_literal-other.result ≡ other_literal c.args.self.now.lists.watches c.args.number = c.other_literal-other.ensures ∙ ap (λ (s : WatchedState). other_literal s.lists.watches c.args.number) c.self.view_is in
    let n = c.args.number in
    let watches = c.args.self.now.lists.watches in
    let two = subst (λ (x : Watch). IfSome (clause_numbered c.args.trail.now.clauses x.clause) (λ clause. AreTwo clause x.lit (other_literal watches n))) (sym read) (two_watched c.args.trail.now c.args.self.now n wa c.requires.number c.requires.live) in
    let at_lit : c.watch-watch.result.lit ≡ c.args.lit = same_is c.watch-watch.result.lit c.args.lit (not-false _ (sym c.ne.ensures ∙ c.if-ne.false)) in
    let within = subst (λ (s : WatchedState). s.seen < length c.args.trail.now.literals) (sym c.self.view_is) c.requires.visiting.within in
    record {
      grown = c.requires.visiting.grown;
      attached = subst (λ (x : Watch). Contains c.args.trail.now.attached x.clause) (sym read) (wa.each n c.requires.number c.requires.live).joined;
      two = subst (λ (x : Lit). IfSome (clause_numbered c.args.trail.now.clauses c.watch-watch.result.clause) (λ clause. AreTwo clause c.watch-watch.result.lit x)) (sym other) two;
      falls = falls_by c.args.trail.now.literals c.watch-watch.result.lit c.self.inside.seen within (subst (λ (s : WatchedState). literal_at c.args.trail.now.literals s.seen ≡ negation c.args.lit) (sym c.self.view_is) c.requires.visiting.falls ∙ ap negation (sym at_lit));
      place = within;
    }

pub returns-clause-watched : goal.returns-clause-watched
returns-clause-watched c = watched_kept c.args.trail.now c.replace_or_force.new.trail c.args.self.now c.other_literal-other.result c.watch-watch.result.clause c.replace_or_force.ensures.kept c.requires.visiting.watched

pub returns-clause-visited : goal.returns-clause-visited
returns-clause-visited c v = visited_kept c.args.trail.now c.replace_or_force.new.trail c.args.self.now c.other_literal-other.result c.watch-watch.result.clause c.replace_or_force.ensures.kept c.requires.visiting.within v

pub returns-clause-inspected : goal.returns-clause-inspected
returns-clause-inspected c =
    let read : c.watch-watch.result ≡ watch_at c.args.self.now.lists.watches c.args.number = c.watch-watch.ensures ∙ ap (λ (s : WatchedState). watch_at s.lists.watches c.args.number) c.self.view_is in
    let other : c.other_literal-other.result ≡ other_literal c.args.self.now.lists.watches c.args.number = c.other_literal-other.ensures ∙ ap (λ (s : WatchedState). other_literal s.lists.watches c.args.number) c.self.view_is in
    let at_lit : c.watch-watch.result.lit ≡ c.args.lit = same_is c.watch-watch.result.lit c.args.lit (not-false _ (sym c.ne.ensures ∙ c.if-ne.false)) in
    inspected_read c.args.trail.now c.replace_or_force.new.trail c.args.self.now c.args.number c.watch-watch.result c.other_literal-other.result c.replace_or_force.result read other c.replace_or_force.ensures.kept c.requires.visiting.within c.requires.visiting.watched c.requires.number c.requires.live
    (c.requires.visiting.falls ∙ ap negation (sym at_lit))
    (subst (λ (s : WatchedState). IsReplaced c.args.trail.now c.replace_or_force.new.trail c.watch-watch.result.clause c.other_literal-other.result s.seen c.replace_or_force.result) c.self.view_is c.replace_or_force.ensures.replaced)
