use Rattle.std.proofs.Common.{sym, ap}
use Rattle.prop_core.proofs.Literals.{literal_of, has_among, place_found}
use Rattle.sat_prop.proofs.Placing.{value_some}
use Rattle.prop_core.specs.declared.lit.Lit.{Lit}
use Rattle.sat_prop.specs.TrailState.{StandsAt}
use Rattle.sat_solve.proofs.levels.level_of.Goals as goal

pub level_of-requires : goal.level_of-requires
level_of-requires c = has_among c.args.trail.now.literals (literal_of c.args.var c.in-Some.field-0) (value_some c.args.trail.now.literals c.args.var c.in-Some.field-0 (sym c.in-Some.ensures))

pub returns-in-Some-clause-some : goal.returns-in-Some-clause-some
returns-in-Some-clause-some c =
    let on = value_some c.args.trail.now.literals c.args.var c.in-Some.field-0 (sym c.in-Some.ensures) in
    let p = place_found c.args.trail.now.literals (literal_of c.args.var c.in-Some.field-0) on in
    let s : StandsAt c.args.trail.now.literals c.args.var p.0 = record { within = p.1.within; at = ap (λ (l : Lit). l.var) p.1.at } in
    record { place = p.0; stands = s; at = sym (c.level_of.ensures p.0 s) }
