use Rattle.std.proofs.Common.{arith}
use Rattle.std.proofs.lemmas.Grind.{common_steps}
use Rattle.sat_prop.proofs.Justifying.{length_le}
use Rattle.sat_prop.proofs.Leveling.{level_le}
use Rattle.sat_prop.proofs.trail.Trail.level.Goals as goal

pub overflow_cast-result : goal.overflow_cast-result
overflow_cast-result c =
    let n = length_le _ _ _ _ _ c.self.invariant.state.justified in
    let s = c.self.invariant.state.justified.same in
    let a = c.self.invariant.starts.count in
    let b = level_le c.self.inside.reasons.items in
    let l = c.self.invariant.limit in grind (arith, common_steps)
