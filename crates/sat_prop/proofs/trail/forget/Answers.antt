use Rattle.std.proofs.Common.{◌≡◌, ◌+◌, ◌-◌, ◌<◌, ◌≤◌, length, take, get_or, sym, subst, arith, None, ℕ, refl}
use Rattle.std.specs.Prelude.{slice_set}
use Rattle.std.proofs.lemmas.Grind.{common_steps}
use Rattle.prop_core.specs.Trail.{no_literal}
use Rattle.prop_core.proofs.Literals.{below_at, true_at}
use Rattle.sat_prop.specs.Kept.{AreValues}
use Rattle.sat_prop.proofs.Values.{values_back}
use Rattle.sat_prop.proofs.trail.forget.Goals as goal

pub down-preserved : goal.down-preserved
down-preserved c =
    let b : c.args.kept < c.down.place = c.down-test.true in
    let u : c.down.place ≤ length c.args.literals.now = c.down.invariant.upto in
    let place : ℕ = c.down.place - 1 in
    let h : place < length c.args.literals.now = omega arith in
    let k = below_at _ c.args.literals.now (get_or c.args.literals.now place no_literal) c.requires.known (true_at c.args.literals.now _ place h refl) in
    let e : place + 1 ≡ c.down.place = omega arith in
    let n = c.down.invariant.values.enough in
    let s : c.set.new.items.items ≡ slice_set c.down.values.items (get_or c.args.literals.now place no_literal).var None = let q = c.set.ensures in grind (arith, common_steps) in
    let a = subst (λ (m : ℕ). AreValues (length c.args.values.now.items) (take m c.args.literals.now) c.down.values.items) (sym e) c.down.invariant.values in
    record {
      least = omega arith;
      upto = omega arith;
      values = rw s (values_back _ c.args.literals.now c.down.values.items place h a (c.requires.open_before place h) (omega arith));
    }
