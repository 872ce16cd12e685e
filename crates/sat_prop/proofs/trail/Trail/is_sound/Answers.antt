use Rattle.std.proofs.Common.{◌≤◌, length, subst}
use Rattle.sat_prop.specs.TrailState.{TrailState}
use Rattle.sat_prop.proofs.Justifying.{length_le}
use Rattle.sat_prop.proofs.trail.Trail.is_sound.Goals as goal

pub returns-clause-room : goal.returns-clause-room
returns-clause-room c = subst (λ (s : TrailState). length s.literals ≤ s.vars) c.self.view_is (length_le _ _ _ _ _ c.self.invariant.state.justified)
