use Rattle.std.proofs.Common.{sym}
use Rattle.sat_prop.proofs.Justifying.{justified_consistent}
use Rattle.sat_solve.proofs.WaitingVariables.{value_is}
use Rattle.sat_solve.proofs.assumptions.makes_true.Goals as goal

pub returns-in-Some : goal.returns-in-Some
returns-in-Some c = rw c.is_positive.ensures (value_is c.args.trail.now.literals c.args.lit c.in-Some.value (justified_consistent _ _ _ _ _ c.is_sound.ensures.state.justified) (rw c.var.ensures at (sym c.in-Some.ensures)))
