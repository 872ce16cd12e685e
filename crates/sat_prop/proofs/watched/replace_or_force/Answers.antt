use Rattle.std.proofs.Common.{◌≡◌, ◌∙◌, ◌+◌, true, refl, sym, subst, take, arith, Option}
use Rattle.std.specs.Prelude.{IfSome}
use Rattle.std.proofs.lemmas.Bool.{and_from}
use Rattle.prop_core.specs.Clauses.{Clause}
use Rattle.prop_core.specs.Trail.{is_forced_by}
use Rattle.sat_prop.specs.Watching.{AreTwo, IsReplacement}
use Rattle.sat_prop.proofs.Settling.{forced_whole}
use Rattle.sat_prop.proofs.Inspecting.{found}
use Rattle.sat_prop.proofs.watched.replace_or_force.Goals as goal

pub clause-requires-clause-from_one : goal.clause-requires-clause-from_one
clause-requires-clause-from_one c = (found c.args.trail.now c.args.db.now.clauses c.args.watch.clause c.is_sound.ensures.state c.requires.grown c.requires.attached).from_one

pub clause-requires-clause-in_range : goal.clause-requires-clause-in_range
clause-requires-clause-in_range c = (found c.args.trail.now c.args.db.now.clauses c.args.watch.clause c.is_sound.ensures.state c.requires.grown c.requires.attached).in_range

pub further-requires-clause-two : goal.further-requires-clause-two
further-requires-clause-two c =
    let f = found c.args.trail.now c.args.db.now.clauses c.args.watch.clause c.is_sound.ensures.state c.requires.grown c.requires.attached in
    subst (λ (o : Option Clause). IfSome o (λ clause. AreTwo clause c.args.watch.lit c.args.other)) (sym f.same ∙ c.clause.ensures) c.requires.two

pub make_true-requires-clause-forced : goal.make_true-requires-clause-forced
make_true-requires-clause-forced c =
    let f = found c.args.trail.now c.args.db.now.clauses c.args.watch.clause c.is_sound.ensures.state c.requires.grown c.requires.attached in
    let two = subst (λ (o : Option Clause). IfSome o (λ clause. AreTwo clause c.args.watch.lit c.args.other)) (sym f.same ∙ c.clause.ensures) c.requires.two in
    let forced = forced_whole c.args.trail.now.literals c.clause.result.now c.args.other (c.args.place + 1) (omega arith) (and_from _ _ two.second_among c.in-None.ensures.none) in
    subst (λ (o : Option Clause). IfSome o (λ clause. is_forced_by c.args.trail.now.literals c.args.other clause ≡ true)) (sym c.clause.ensures) forced

pub returns-in-Some-clause-replaced : goal.returns-in-Some-clause-replaced
returns-in-Some-clause-replaced c =
    let f = found c.args.trail.now c.args.db.now.clauses c.args.watch.clause c.is_sound.ensures.state c.requires.grown c.requires.attached in
    (refl, subst (λ (o : Option Clause). IfSome o (λ clause. IsReplacement c.args.trail.now.literals clause c.args.other c.args.place c.in-Some.found)) (sym c.clause.ensures ∙ f.same) c.in-Some.ensures.some)

pub returns-then-make_true-clause-replaced : goal.returns-then-make_true-clause-replaced
returns-then-make_true-clause-replaced c =
    let f = found c.args.trail.now c.args.db.now.clauses c.args.watch.clause c.is_sound.ensures.state c.requires.grown c.requires.attached in
    let two = subst (λ (o : Option Clause). IfSome o (λ clause. AreTwo clause c.args.watch.lit c.args.other)) (sym f.same ∙ c.clause.ensures) c.requires.two in (
      subst (λ (o : Option Clause). IfSome o (λ clause. is_forced_by (take (c.args.place + 1) c.args.trail.now.literals) c.args.other clause ≡ true)) (sym c.clause.ensures ∙ f.same) (and_from _ _ two.second_among c.in-None.ensures.none),
      c.make_true.ensures.holds c.if-make_true.true,
    )
