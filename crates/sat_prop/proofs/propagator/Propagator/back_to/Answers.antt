use Rattle.sat_prop.proofs.Settling.{watched_back}
use Rattle.sat_prop.proofs.propagator.Propagator.back_to.Goals as goal

pub invariant_of-self : goal.invariant_of-self
invariant_of-self c = rw (c.back_to-2.ensures, c.len.ensures) (watched_back c.self.inside.trail c.back_to.new.self c.self.inside.watched c.args.level c.is_sound.ensures.state c.self.invariant c.back_to.ensures)
