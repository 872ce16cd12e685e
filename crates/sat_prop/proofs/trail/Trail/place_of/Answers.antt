use Rattle.std.proofs.Common.{◌≡◌, ℕ, true, sym, subst, get_or, arith}
use Rattle.std.proofs.lemmas.Grind.{common_steps}
use Rattle.prop_core.specs.Trail.{has_var}
use Rattle.prop_core.proofs.Literals.{below_var}
use Rattle.sat_prop.specs.TrailState.{TrailState, StandsAt}
use Rattle.sat_prop.proofs.Placing.{place_kept}
use Rattle.sat_prop.proofs.trail.Trail.place_of.Goals as goal

pub index-requires : goal.index-requires
index-requires c =
    let h = subst (λ (s : TrailState). has_var c.args.var s.literals ≡ true) (sym c.self.view_is) c.requires in
    let b = below_var _ c.self.inside.literals.items c.args.var c.self.invariant.state.justified.known h in
    grind (arith, common_steps)

pub returns : goal.returns
returns c =
    let h = subst (λ (s : TrailState). has_var c.args.var s.literals ≡ true) (sym c.self.view_is) c.requires in
    let b = below_var _ c.self.inside.literals.items c.args.var c.self.invariant.state.justified.known h in
    let p = place_kept _ c.self.inside.literals.items c.self.inside.places.items c.args.var c.self.invariant.places h in
    let e = c.index.ensures in
    let g : get_or c.self.inside.places.items c.args.var 0 ≡ c.index.result.now = grind (arith, common_steps) in
    subst (λ (s : TrailState). StandsAt s.literals c.args.var c.index.result.now) c.self.view_is (subst (λ (n : ℕ). StandsAt c.self.inside.literals.items c.args.var n) g p)
