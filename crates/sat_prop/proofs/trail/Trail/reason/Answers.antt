use Rattle.std.proofs.Common.{sym}
use Rattle.prop_core.proofs.Literals.{literal_of, has_among}
use Rattle.sat_prop.proofs.Placing.{value_some}
use Rattle.sat_prop.proofs.trail.Trail.reason.Goals as goal

pub place_of-requires : goal.place_of-requires
place_of-requires c = has_among c.args.self.now.literals (literal_of c.args.var c.in-Some.field-0) (value_some c.args.self.now.literals c.args.var c.in-Some.field-0 (sym c.in-Some.ensures))
