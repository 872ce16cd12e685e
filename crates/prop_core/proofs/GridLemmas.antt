-- The cells of a grid have variables of their own, within the grid.
use Rattle.std.proofs.Common.{◌≡◌, ℕ, suc, ◌+◌, ◌*◌, ◌-◌, ◌<◌, ◌≤◌, ◌⊎◌, inl, inr, refl, subst, arith}
use Rattle.std.proofs.Math.Nat.{suc-mul, mul-le-mul_right}
use Rattle.std.proofs.lemmas.Bool.{cases_order}
use Rattle.prop_core.specs.Grids.{GridsAreInjective}

-- a row ends before the next one begins
rows : (e f s : ℕ) → e < f → e * s + s ≤ f * s
rows e f s h =
    let next : suc e * s ≤ f * s = mul-le-mul_right s (omega arith) in
    omega (arith, suc-mul e s, next)

pub within_grid : (first events steps event step : ℕ) → event < events → 1 ≤ step → step ≤ steps → first + event * steps + (step - 1) < first + events * steps
within_grid first events steps event step known one time = let row = rows event events steps known in omega (arith, row)

pub grids_are_injective : GridsAreInjective
grids_are_injective grid event step other later here there same = by (cases_order event other)
  where
    clash : (e f s t : ℕ) → e < f → s < grid.steps → e * grid.steps + s ≡ f * grid.steps + t → ⊥
    clash e f s t less time alike = let row = rows e f grid.steps less in omega (arith, row, alike)

    by : (event ≡ other) ⊎ ((event < other) ⊎ (other < event)) → (event ≡ other) × (step ≡ later)
    by (inl equal) =
        let rows_alike : event * grid.steps ≡ other * grid.steps = subst (λ k. event * grid.steps ≡ k * grid.steps) equal refl in
        (equal, omega (arith, here.from_one, there.from_one, same, rows_alike))
    by (inr (inl less)) = absurd (clash event other (step - 1) (later - 1) less (omega (arith, here.from_one, here.step)) (omega (arith, same)))
    by (inr (inr more)) = absurd (clash other event (later - 1) (step - 1) more (omega (arith, there.from_one, there.step)) (omega (arith, same)))
