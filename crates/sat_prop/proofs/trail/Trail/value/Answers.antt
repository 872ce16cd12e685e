use Rattle.std.proofs.Common.{refl, get_or, ◌≡◌, ◌∙◌, sym, subst, arith, None}
use Rattle.std.proofs.lemmas.Grind.{common_steps}
use Rattle.prop_core.specs.Trail.{no_literal}
use Rattle.prop_core.proofs.Literals.{below_at, true_at}
use Rattle.sat_prop.specs.TrailState.{TrailState, trail_value}
use Rattle.sat_prop.proofs.Placing.{value_open}
use Rattle.sat_prop.proofs.trail.Trail.value.Goals as goal

pub returns-then-var-len : goal.returns-then-var-len
returns-then-var-len c = subst (λ (s : TrailState). None ≡ trail_value s.literals c.args.var) c.self.view_is (sym (value_open c.self.inside.literals.items c.args.var (λ place h.
    let x = get_or c.self.inside.literals.items place no_literal in
    let b = below_at _ c.self.inside.literals.items x c.self.invariant.state.justified.known (true_at c.self.inside.literals.items x place h.within refl) in
    let a = c.self.invariant.values.enough in
    let v = h.at in let t = c.if-var-len.true in let n = c.len.ensures in absurd (grind (arith, common_steps)))))

pub returns : goal.returns
returns c =
    let f = c.if-var-len.false in
    let n = c.len.ensures in
    let e : get_or c.self.inside.values.items c.args.var None ≡ c.index.result.now = let a = c.index.ensures in grind (arith, common_steps) in
    subst (λ (s : TrailState). c.index.result.now ≡ trail_value s.literals c.args.var) c.self.view_is (sym e ∙ c.self.invariant.values.each c.args.var (grind (arith, common_steps)))
