use Rattle.std.proofs.Common.{◌+◌, arith, take}
use Rattle.prop_core.specs.Clauses.{is_false}
use Rattle.sat_prop.proofs.Inspecting.{pair_made}
use Rattle.sat_prop.proofs.watched.further.Goals as goal

pub returns-then-clause-eq2-clause-none : goal.returns-then-clause-eq2-clause-none
returns-then-clause-eq2-clause-none c = pair_made c.args.clause.now c.args.false_one c.args.other (is_false (take (c.args.place + 1) c.args.trail.now.literals)) (omega (arith, c.if-clause-eq2.true)) c.requires.two c.requires.falls
