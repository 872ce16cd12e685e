use Rattle.sat_prop.proofs.Growing.{grown_either}
use Rattle.sat_prop.proofs.propagator.Propagator.grow.Goals as goal

pub invariant_of-self-2 : goal.invariant_of-self-2
invariant_of-self-2 c = rw c.in_ok-grow.ensures.ok (grown_either c.grow-2.result c.self.inside.trail c.grow-2.new.self c.self.inside.watched c.args.vars c.grow-2.ensures.ok c.grow-2.ensures.err c.self.invariant)
