use Rattle.std.proofs.Common.{◌∙◌, ◌+◌, ap, sym, subst, length, arith, Some}
use Rattle.std.proofs.lemmas.Grind.{common_steps}
use Rattle.prop_core.specs.Derivation.{falsified}
use Rattle.sat_prop.specs.TrailState.{TrailState}
use Rattle.sat_prop.specs.Quiet.{AreQuietBelow}
use Rattle.sat_prop.specs.Watching.{WatchedState}
use Rattle.sat_prop.proofs.Justifying.{propagates_more}
use Rattle.sat_prop.proofs.Passing.{IsFoundShort, short_found, read_stands, read_quiet, quiet_next, longer_by_one}
use Rattle.sat_prop.proofs.Settling.{watched_more}
use Rattle.sat_prop.proofs.watched.Watched.propagate_each_short.Goals as goal
use Rattle.sat_prop.proofs.watched.Watched.propagate_each_short.Goals.{in-Unit, in-Quiet}

found : (c : goal.After-id-1) → IsFoundShort c.loop-place.trail c.args.db.now.clauses c.args.self.now.short c.loop-place.place c.index-id.result.now
found c = short_found c.args.trail.now c.loop-place.trail c.args.db.now.clauses c.args.self.now c.self.inside.short.items c.loop-place.place c.index-id.result.now c.is_sound.ensures.state c.loop-place.invariant.grown c.loop-place.invariant.watched
    c.requires.grown (ap (λ (s : WatchedState). s.short) c.self.view_is) (let t = c.loop-place-test.true in let n = c.len-place-end.ensures in grind (arith, common_steps)) c.index-id.ensures

pub clause-requires-clause-from_one : goal.clause-requires-clause-from_one
clause-requires-clause-from_one c = (found c).found.from_one

pub clause-requires-clause-in_range : goal.clause-requires-clause-in_range
clause-requires-clause-in_range c = (found c).found.in_range

pub returns-in-False-clause-conflict : goal.returns-in-False-clause-conflict
returns-in-False-clause-conflict c =
    let s = short_found c.args.trail.now c.loop-place.trail c.args.db.now.clauses c.args.self.now c.self.inside.short.items c.loop-place.place c.index-id.result.now c.is_sound.ensures.state c.loop-place.invariant.grown c.loop-place.invariant.watched
    c.requires.grown (ap (λ (s : WatchedState). s.short) c.self.view_is) (let t = c.loop-place-test.true in let n = c.len-place-end.ensures in grind (arith, common_steps)) c.index-id.ensures in
    record {
      joined = s.joined;
      false_now = read_stands c.loop-place.trail.clauses c.args.db.now.clauses c.loop-place.trail.vars c.index-id.result.now c.loop-place.trail.literals c.clause.result.now falsified s.front s.found.known c.clause.ensures c.in-False.ensures;
    }

pub loop-place-preserved : goal.loop-place-preserved
loop-place-preserved c =
    let i = c.loop-place.invariant in
    let s = short_found c.args.trail.now c.loop-place.trail c.args.db.now.clauses c.args.self.now c.self.inside.short.items c.loop-place.place c.index-id.result.now c.is_sound.ensures.state c.loop-place.invariant.grown c.loop-place.invariant.watched
    c.requires.grown (ap (λ (s : WatchedState). s.short) c.self.view_is) (let t = c.loop-place-test.true in let n = c.len-place-end.ensures in grind (arith, common_steps)) c.index-id.ensures in
    elim c.match-standing.branch [
      | in-Unit w ↦
          let e = w.trail-is ∙ w.force.ensures in
          let more = longer_by_one c.args.trail.now c.loop-place.trail _ w.in-Unit.lit c.index-id.result.now i.grown e in
          record {
            watched = rw e (watched_more c.loop-place.trail c.args.self.now w.in-Unit.lit (Some c.index-id.result.now) i.watched);
            grown = propagates_more c.args.trail.now c.loop-place.trail _ w.in-Unit.lit c.index-id.result.now i.grown e;
            quiet = λ t. absurd (omega arith);
          }
      | in-Quiet w ↦
          let q = read_quiet c.loop-place.trail.clauses c.args.db.now.clauses c.loop-place.trail.vars c.index-id.result.now c.loop-place.trail.literals c.clause.result.now s.front s.found.known c.clause.ensures w.in-Quiet.ensures in
          record {
            watched = rw w.trail-is i.watched;
            grown = rw w.trail-is i.grown;
            quiet = λ t. subst (λ (t : TrailState). AreQuietBelow t.clauses c.args.self.now.short t.literals (c.loop-place.place + 1)) (sym w.trail-is)
                (quiet_next c.loop-place.trail.clauses c.args.self.now.short c.loop-place.trail.literals c.loop-place.place c.index-id.result.now s.number_is (i.quiet (ap (λ (t : TrailState). length t.literals) (sym w.trail-is) ∙ t)) q);
          }
    ]
