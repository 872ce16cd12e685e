use Rattle.std.proofs.Common.{None}
use Rattle.sat_prop.proofs.Settling.{watched_more}
use Rattle.sat_prop.proofs.propagator.Propagator.decide.Goals as goal

pub invariant_of-self : goal.invariant_of-self
invariant_of-self c = rw c.decide.ensures (watched_more c.self.inside.trail c.self.inside.watched c.args.lit None c.self.invariant)
