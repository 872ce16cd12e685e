use Rattle.std.proofs.Common.{◌∙◌, [], arith}
use Rattle.prop_core.specs.Clauses.{negation}
use Rattle.sat_prop.specs.TrailState.{literal_at}
use Rattle.sat_prop.proofs.Justifying.{justified_once}
use Rattle.sat_learn.proofs.Beginning.{conflict_present}
use Rattle.sat_learn.proofs.Finishing.{learnt_from, learnt_same, found_kept, keeps_decisions, decisions_same}
use Rattle.sat_learn.proofs.learner.learn_with.Goals as goal

pub resolve_to_one-requires-clause-some : goal.resolve_to_one-requires-clause-some
resolve_to_one-requires-clause-some c =
    let p = conflict_present c.args.on.now.trail.now c.args.on.now.clauses.now.clauses c.args.conflict c.begin.new.seen c.args.on.now.start c.requires.analysed.grown c.requires.conflict c.is_sound.ensures.state.quiet c.requires.last
    c.is_sound.ensures.state.justified.same (c.in_ok-first.ensures.size ∙ c.requires.analysed.size) c.in_ok-first.ensures.each in
    let n = c.in_ok-first.ensures.counted in
    omega arith

pub returns : goal.returns
returns c = record {
  learnt =
      let justified = c.is_sound.ensures.state.justified in
      let h = c.in_ok-shorten.ensures.refuted [] (c.in_ok-place.ensures.refuted [] c.in_ok-first.ensures.refuted) in
      let size = c.in_ok-place.ensures.size ∙ c.in_ok-first.ensures.size ∙ c.requires.analysed.size in
      let found = found_kept c.args.on.now.trail.now.literals c.resolve_to_one.new.seen c.shorten.new.seen c.args.on.now.start c.in_ok-place.place size c.in_ok-shorten.ensures.size c.in_ok-shorten.ensures.above c.in_ok-place.ensures.found in
      let r = learnt_from c.args.on.now.trail.now c.args.on.now.clauses.now.clauses c.shorten.new.seen c.shorten.new.hints.items c.args.on.now.start c.in_ok-place.place justified c.requires.last h found in
      learnt_same c.args.on.now.trail.now c.args.on.now.clauses.now.clauses _ _ _ _ _ _ c.in_ok-clause.ensures
      (c.in_ok-from_slice.ensures ∙ c.deref.ensures.value ∙ c.reverse.ensures.items) c.last_level-level.ensures r;
  decided =
      let justified = c.is_sound.ensures.state.justified in
      let t = c.args.on.now.trail.now in
      let b = c.requires.last.within in
      let e = justified.same in
      decisions_same t c.args.decisions_to _ _ c.in_ok-clause.ensures (keeps_decisions t c.shorten.new.seen c.args.decisions_to c.args.on.now.start (negation (literal_at t.literals c.in_ok-place.place)) (justified_once t.clauses t.attached t.literals t.reasons t.vars justified) (omega arith) c.in_ok-shorten.ensures.decided);
}
