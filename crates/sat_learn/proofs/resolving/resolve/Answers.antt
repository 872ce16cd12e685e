use Rattle.std.proofs.Common.{◌≡◌, ◌∙◌, refl, true, false, get_or, arith}
use Rattle.std.proofs.lemmas.Grind.{common_steps}
use Rattle.sat_prop.proofs.Fronts.{front_held, IsNumber, number_of}
use Rattle.sat_prop.proofs.Justifying.{justified_once}
use Rattle.sat_learn.proofs.Seeing.{count_off}
use Rattle.sat_learn.proofs.Reasoning.{read_reason, reason_on_trail, above_step, none_above, refuted_step}
use Rattle.sat_learn.proofs.resolving.resolve.Goals as goal

number : (c : goal.After-see-arg-1) → IsNumber c.args.on.now.clauses.now.clauses c.args.id (c.is_sound.ensures.state.justified.forced c.args.place c.args.id c.requires.resolvable.within c.requires.resolvable.reason).clause
number c = let r = c.is_sound.ensures.state.justified.forced c.args.place c.args.id c.requires.resolvable.within c.requires.resolvable.reason in number_of _ _ _ (front_held _ _ _ _ c.requires.analysed.grown r.held)

pub clause-requires-clause-from_one : goal.clause-requires-clause-from_one
clause-requires-clause-from_one c = (number c).from_one

pub clause-requires-clause-in_range : goal.clause-requires-clause-in_range
clause-requires-clause-in_range c = (number c).in_range

pub see-more-requires-clause-stands : goal.see-more-requires-clause-stands
see-more-requires-clause-stands c =
    let alone = read_reason _ _ _ _ _ c.args.id _ c.requires.analysed.grown (c.is_sound.ensures.state.justified.forced c.args.place c.args.id c.requires.resolvable.within c.requires.resolvable.reason) c.clause.ensures in
    reason_on_trail _ c.args.place _ c.requires.resolvable.within alone

pub returns-clause-refuted : goal.returns-clause-refuted
returns-clause-refuted c =
    let alone = read_reason _ _ _ _ _ c.args.id _ c.requires.analysed.grown (c.is_sound.ensures.state.justified.forced c.args.place c.args.id c.requires.resolvable.within c.requires.resolvable.reason) c.clause.ensures in
    λ also h. refuted_step c.args.on.now.clauses.now.clauses c.args.on.now.trail.now.literals also c.args.seen.now c.see-more.new.seen c.args.hints.now.items _ c.args.place c.args.id c.clause.result.now c.requires.resolvable.within c.clause.ensures alone
    (c.see-more.ensures.size ∙ c.requires.analysed.size) (λ i m. c.see-more.ensures.each i (let s = c.requires.analysed.size in omega arith)) c.in_ok-push.ensures.items h

pub returns-clause-resolved : goal.returns-clause-resolved
returns-clause-resolved c =
    let alone = read_reason _ _ _ _ _ c.args.id _ c.requires.analysed.grown (c.is_sound.ensures.state.justified.forced c.args.place c.args.id c.requires.resolvable.within c.requires.resolvable.reason) c.clause.ensures in
    let size = c.requires.analysed.size in
    let was = c.see-more.ensures.size in
    record {
      above = λ i m k. above_step c.args.seen.now c.see-more.new.seen c.args.place i _ m (c.see-more.ensures.each i (let s = c.requires.analysed.size in omega arith))
          (none_above c.args.on.now.trail.now.literals (justified_once _ _ _ _ _ c.is_sound.ensures.state.justified) c.args.place c.clause.result.now c.requires.resolvable.within alone i m (omega arith));
      cleared = let w = c.requires.resolvable.within in grind (arith, common_steps);
    }

pub returns-clause-counted : goal.returns-clause-counted
returns-clause-counted c = λ m.
    let s = c.requires.analysed.size in
    let z = c.see-more.ensures.size in
    let w = c.requires.resolvable.within in
    let e = c.see-more.ensures.each c.args.place (omega arith) in
    let on : get_or c.see-more.new.seen c.args.place false ≡ true = let q = c.requires.resolvable.is_seen_now in e ∙ (rw q refl) in
    let f = count_off c.args.on.now.start c.see-more.new.seen c.args.place m (omega arith) on in
    f ∙ c.see-more.ensures.counted
