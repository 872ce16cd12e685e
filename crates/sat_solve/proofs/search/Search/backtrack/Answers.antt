use Rattle.sat_solve.proofs.Keeping.{sound_kept}
use Rattle.sat_solve.proofs.search.Search.backtrack.Goals as goal

pub returns-clause-sound : goal.returns-clause-sound
returns-clause-sound g c =
    let s = c.args.self.now in
    sound_kept s.order.waiting c.unassign_above.new.order.waiting s.vars s.spare c.args.level s.propagator c.back_to.new.self c.requires.sound c.is_sound.ensures.state c.unassign_above.ensures.kept.variables c.unassign_above.ensures.waiting (rw c.trail.ensures at c.unassign_above.ensures.back) c.back_to.ensures
