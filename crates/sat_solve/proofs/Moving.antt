-- A mean that moves towards numbers stays below what bounds them.
use Rattle.std.proofs.Common.{◌≡◌, ℕ, ◌+◌, ◌-◌, ◌*◌, ◌/◌, ◌<◌, ◌≤◌, arith}
use Rattle.std.proofs.lemmas.Grind.{common_steps}
use Rattle.std.proofs.lemmas.Nat.{div_below, le-div, div-add-mod', mod_below, mul-le}
use Rattle.sat_solve.specs.Restarts.{moved_mean}

-- a part of a number grows with it,
part_grows : (n most d : ℕ) → 0 < d → n ≤ most → n / d ≤ most / d
part_grows n most d some b = let e = div-add-mod' n d in le-div (n / d) most d some (omega arith)

-- and by no more than it
part_within : (n more d : ℕ) → 0 < d → (n + more) / d ≤ n / d + more
part_within n more d some =
    let e = div-add-mod' n d in
    let r = mod_below n d some in
    let s : more * 1 ≤ more * d = mul-le more 1 more d (omega arith) (omega arith) in
    let t : (n / d + more + 1) * d ≡ n / d * d + more * d + d = grind (arith, common_steps) in
    let k : n + more < (n / d + more + 1) * d = rw t (omega arith) in
    let z = div_below (n + more) d (n / d + more + 1) some k in
    omega arith

pub moved_bound : (mean number part most : ℕ) → 0 < part → mean ≤ most → number ≤ most → moved_mean mean number part ≤ most
moved_bound mean number part most some a b =
    let p = part_grows number most part some b in
    let e : mean + (most - mean) ≡ most = omega arith in
    let w = part_within mean (most - mean) part some in
    let q : most / part ≤ mean / part + (most - mean) = rw e at w in
    omega arith
