use Rattle.std.proofs.Common.{◌≡◌, ◌<◌, ℕ, sym, subst, length, arith}
use Rattle.std.proofs.lemmas.Grind.{common_steps}
use Rattle.sat_prop.specs.TrailState.{TrailState}
use Rattle.sat_prop.specs.Levels.{level_of, IsLastDecision}
use Rattle.sat_prop.proofs.Leveling.{last_start}
use Rattle.sat_prop.proofs.trail.Trail.last_decision.Goals as goal
use Rattle.std.proofs.Common.{get_or, ◌-◌}

pub returns : goal.returns
returns c =
    let some = subst (λ (s : TrailState). 0 < level_of s.reasons) (sym c.self.view_is) c.requires in
    let n = c.self.invariant.starts.count in
    let l = last_start c.self.inside.reasons.items c.self.inside.starts.items c.self.invariant.starts some in
    let e : get_or c.self.inside.starts.items (length c.self.inside.starts.items - 1) 0 ≡ c.index.result.now = let a = c.index.ensures in let b = c.len.ensures in grind (arith, common_steps) in
    subst (λ (s : TrailState). IsLastDecision s.reasons c.index.result.now) c.self.view_is (subst (λ (n : ℕ). IsLastDecision c.self.inside.reasons.items n) e l)
