-- The variables of an alarm stay within theirs.
use Rattle.std.proofs.Common.{ℕ, suc, ◌+◌, ◌*◌, ◌<◌, ◌≤◌, arith}
use Rattle.std.proofs.Math.Nat.{suc-mul, mul-le-mul_right}

-- a link ends before the next one begins
pub link_is_small : (links width link : ℕ) → link < links → link * width + width ≤ links * width
link_is_small links width link h =
    let next : suc link * width ≤ links * width = mul-le-mul_right width (omega arith) in
    omega (arith, suc-mul link width, next)

pub count_is_small : (start links width more limit : ℕ) → start + (links * width + more) ≤ limit → links * width + more ≤ limit
count_is_small start links width more limit h = omega arith
