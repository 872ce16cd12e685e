use Rattle.std.proofs.Common.{◌≡◌, ◌∙◌, true, ap, sym, subst, Option}
use Rattle.std.specs.Prelude.{IfSome}
use Rattle.prop_core.specs.Clauses.{Clause}
use Rattle.prop_core.specs.Trail.{is_forced_by}
use Rattle.prop_core.proofs.Forcing.{forced_unit}
use Rattle.sat_prop.specs.Quiet.{stands}
use Rattle.sat_prop.proofs.Justifying.{justified_consistent}
use Rattle.sat_prop.proofs.Seeing.{value_denies, value_lacks}
use Rattle.sat_prop.proofs.Inspecting.{found, forced_false}
use Rattle.sat_prop.proofs.watched.make_true.Goals as goal

pub force-requires-clause-forced : goal.force-requires-clause-forced
force-requires-clause-forced c =
    let f = found c.args.trail.now c.args.db.now.clauses c.args.id c.is_sound.ensures.state c.requires.grown c.requires.attached in
    let forced = subst (λ (o : Option Clause). IfSome o (λ clause. is_forced_by c.args.trail.now.literals c.args.lit clause ≡ true)) f.held c.requires.forced in
    ap (stands c.args.trail.now.literals) f.held ∙ forced_unit c.args.trail.now.literals f.known.clause c.args.lit (justified_consistent _ _ _ _ _ c.is_sound.ensures.state.justified) (value_lacks c.args.trail.now.literals c.args.lit (rw c.var.ensures at (sym c.in-None.ensures))) forced

pub returns-in-Some-clause-conflict : goal.returns-in-Some-clause-conflict
returns-in-Some-clause-conflict c e =
    let f = found c.args.trail.now c.args.db.now.clauses c.args.id c.is_sound.ensures.state c.requires.grown c.requires.attached in
    let forced = subst (λ (o : Option Clause). IfSome o (λ clause. is_forced_by c.args.trail.now.literals c.args.lit clause ≡ true)) f.held c.requires.forced in
    record {
      joined = c.requires.attached;
      false_now = ap (stands c.args.trail.now.literals) f.known.held ∙ forced_false c.args.trail.now.literals f.known.clause c.args.lit (justified_consistent _ _ _ _ _ c.is_sound.ensures.state.justified) forced (value_denies c.args.trail.now.literals c.args.lit c.in-Some.value (rw c.var.ensures at (sym c.in-Some.ensures)) (rw c.is_positive.ensures at e));
    }
