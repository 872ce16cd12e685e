-- Powers.
use Rattle.std.proofs.Common.{◌≡◌, ◌∙◌, ℕ, ◌*◌, ◌^◌, ap}
use Rattle.std.proofs.Math.Nat.{one-mul, pow-suc, pow-zero}

pub square : (m : ℕ) → m ^ 2 ≡ m * m
square m = pow-suc m 1 ∙ ap (λ k. k * m) (pow-suc m 0 ∙ ap (λ k. k * m) (pow-zero m) ∙ one-mul m)
