use Rattle.std.proofs.Common.{sym, arith}
use Rattle.prop_core.proofs.Literals.{literal_of, has_among}
use Rattle.sat_prop.proofs.Falling.{never_false, false_there}
use Rattle.sat_prop.proofs.Justifying.{justified_once}
use Rattle.sat_prop.proofs.Placing.{value_some}
use Rattle.sat_prop.proofs.Seeing.{value_agrees}
use Rattle.sat_prop.proofs.trail.Trail.falls.Goals as goal

pub place_of-requires : goal.place_of-requires
place_of-requires c = rw c.var-else-value-is_positive.ensures (has_among c.args.self.now.literals (literal_of c.args.lit.var c.in-Some.value) (value_some c.args.self.now.literals c.args.lit.var c.in-Some.value (rw c.var.ensures at (sym c.in-Some.ensures))))

pub returns-then-value-is_positive : goal.returns-then-value-is_positive
returns-then-value-is_positive c place h w e = never_false c.args.self.now.literals c.args.lit (justified_once _ _ _ _ _ c.is_sound.ensures.state.justified)
    (value_agrees c.args.self.now.literals c.args.lit c.in-Some.value (rw c.var.ensures at (sym c.in-Some.ensures)) (rw c.is_positive.ensures at c.if-value-is_positive.true)) place w e

pub returns-else-value-is_positive : goal.returns-else-value-is_positive
returns-else-value-is_positive c place h w e =
    let s = false_there c.args.self.now.literals c.args.lit c.place_of.result place (justified_once _ _ _ _ _ c.is_sound.ensures.state.justified) (rw c.var-else-value-is_positive.ensures at c.place_of.ensures) w e in
    absurd (omega arith)
