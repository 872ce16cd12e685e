use Rattle.std.proofs.Common.{ℕ, ◌<◌, subst}
use Rattle.sat_prop.proofs.Settling.{short_quiet}
use Rattle.sat_prop.proofs.watched.Watched.propagate_short.Goals as goal

pub returns-then-level-gt0-clause-quiet : goal.returns-then-level-gt0-clause-quiet
returns-then-level-gt0-clause-quiet c = λ same. short_quiet c.args.trail.now c.args.self.now c.is_sound.ensures.state c.requires.watched (subst (λ (n : ℕ). 0 < n) c.level.ensures c.if-level-gt0.true)
