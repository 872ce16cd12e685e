-- Sums over fronts of a list, one element further.
use Rattle.std.proofs.Common.{◌≡◌, ℕ, zero, suc, ◌+◌, ◌<◌, List, [], ◌∷◌, length, take, sum_by, ap, subst, arith, get_or}
use Rattle.std.proofs.lemmas.List.Sums.{sum_by-cons}

sum_front : {X : Type 0} (f : X → ℕ) (xs : List X) (i : ℕ) (x : X) → i < length xs → get_or xs i x ≡ x → sum_by f (take (suc i) xs) ≡ sum_by f (take i xs) + f x
sum_front f [] i x less is = absurd (omega (arith, less))
sum_front f (y ∷ xs) zero x less is =
    let same : f y ≡ f x = ap f is in
    let cons = sum_by-cons f y [] in
    omega (arith, cons, same)
sum_front f (y ∷ xs) (suc i) x less is =
    let rest = sum_front f xs i x (omega (arith, less)) is in
    let one = sum_by-cons f y (take (suc i) xs) in
    let other = sum_by-cons f y (take i xs) in
    omega (arith, rest, one, other)

pub sum_next : {X : Type 0} (f : X → ℕ) (xs : List X) (i : ℕ) (x : X) (so_far more : ℕ) → i < length xs → get_or xs i x ≡ x → so_far ≡ sum_by f (take i xs) → more ≡ f x → so_far + more ≡ sum_by f (take (i + 1) xs)
sum_next f xs i x so_far more less is before here =
    let next : suc i ≡ i + 1 = omega arith in
    subst (λ k. so_far + more ≡ sum_by f (take k xs)) next (let front = sum_front f xs i x less is in omega (arith, front, before, here))
