-- What a counter's rules make of any inputs.
use Rattle.std.proofs.Common.{◌≡◌, ℕ, zero, suc, ◌+◌, ◌<◌, ◌≤◌, Bool, true, false, List, [], ◌∷◌, length, Some, refl, ap, arith, slice_get, cond, inl, inr, ◌⊎◌, take, count_by, nat_le}
use Rattle.std.proofs.lemmas.Bool.{leb-true, le-leb}
use Rattle.std.proofs.lemmas.List.Sums.{sum_by-cons}
use Rattle.des_base.proofs.Elements.{some_at}

pub count_cons : {X : Type 0} (p : X → Bool) (x : X) (xs : List X) → count_by p (x ∷ xs) ≡ cond (p x) 1 0 + count_by p xs
count_cons p x xs = sum_by-cons (λ y. cond (p y) 1 0) x xs

-- one more input
pub count_more : {X : Type 0} (p : X → Bool) (xs : List X) (i : ℕ) (x : X) → slice_get xs i ≡ Some x → count_by p (take (suc i) xs) ≡ count_by p (take i xs) + cond (p x) 1 0
count_more p [] i x h = cc
count_more p (y ∷ xs) zero x h =
    let is : y ≡ x = cc in
    let same : cond (p y) 1 0 ≡ cond (p x) (suc zero) 0 = ap {B = ℕ} (λ z. cond (p z) 1 0) is in
    let cons = count_cons p y [] in
    omega (arith, cons, same)
count_more p (y ∷ xs) (suc i) x h =
    let rest = count_more p xs i x h in
    let cons = count_cons p y (take (suc i) xs) in
    let cons' = count_cons p y (take i xs) in
    omega (arith, rest, cons, cons')

-- What the clauses of the counter say of any inputs, where reach stands for its variables.
pub record Reaches {X : Type 0} (value : X → Bool) (inputs : List X) (columns : ℕ) (reach : ℕ → ℕ → Bool) : Type 0 where
  pub kept : (i j : ℕ) → suc i < length inputs → j < columns → reach (suc i) (suc j) ≡ true → reach (suc (suc i)) (suc j) ≡ true
  pub counted : (i j : ℕ) (x : X) → slice_get inputs i ≡ Some x → j < columns → value x ≡ true → (j ≡ 0) ⊎ ((1 ≤ i) × (reach i j ≡ true)) → reach (suc i) (suc j) ≡ true

positive_at : {X : Type 0} (value : X → Bool) (inputs : List X) (i j : ℕ) → suc j ≤ count_by value (take i inputs) → 1 ≤ i
positive_at value inputs zero j h = absurd (omega arith)
positive_at value inputs (suc i) j h = omega arith

kept_on : {X : Type 0} (value : X → Bool) (inputs : List X) (columns : ℕ) (reach : ℕ → ℕ → Bool) → Reaches value inputs columns reach →
    (i j : ℕ) → i < length inputs → j < columns → 1 ≤ i → reach i (suc j) ≡ true → reach (suc i) (suc j) ≡ true
kept_on value inputs columns reach rules zero j inside high low is = absurd (omega arith)
kept_on value inputs columns reach rules (suc i) j inside high low is = rules.kept i j inside high is

-- as many are reached as inputs are true
pub reached : {X : Type 0} (value : X → Bool) (inputs : List X) (columns : ℕ) (reach : ℕ → ℕ → Bool) → Reaches value inputs columns reach →
    (i j : ℕ) → i ≤ length inputs → j < columns → suc j ≤ count_by value (take i inputs) → reach i (suc j) ≡ true
reached value inputs columns reach rules zero j inside high few = absurd (omega arith)
reached value inputs columns reach rules (suc i) zero inside high few =
    let at = some_at inputs i (omega arith) in
    by at.0 at.1 (value at.0) refl (λ fewer. reached value inputs columns reach rules i zero (omega arith) high fewer)
  where
    by : (x : _) → slice_get inputs i ≡ Some x → (b : Bool) → value x ≡ b → (1 ≤ count_by value (take i inputs) → reach i 1 ≡ true) → reach (suc i) 1 ≡ true
    by x is true e same = rules.counted i 0 x is high e (inl refl)
    by x is false e same =
        let more = rw e at (count_more value inputs i x is) in
        let enough : 1 ≤ count_by value (take i inputs) = omega (arith, more) in
        kept_on value inputs columns reach rules i 0 (omega arith) high (positive_at value inputs i 0 enough) (same enough)
reached value inputs columns reach rules (suc i) (suc j) inside high few =
    let at = some_at inputs i (omega arith) in
    by at.0 at.1 (value at.0) refl (λ fewer. reached value inputs columns reach rules i (suc j) (omega arith) high fewer)
    (λ enough. reached value inputs columns reach rules i j (omega arith) (omega arith) enough)
  where
    by : (x : _) → slice_get inputs i ≡ Some x → (b : Bool) → value x ≡ b → (suc (suc j) ≤ count_by value (take i inputs) → reach i (suc (suc j)) ≡ true) →
        (suc j ≤ count_by value (take i inputs) → reach i (suc j) ≡ true) → reach (suc i) (suc (suc j)) ≡ true
    by x is true e same less =
        let more = rw e at (count_more value inputs i x is) in
        let enough : suc j ≤ count_by value (take i inputs) = omega (arith, more) in
        rules.counted i (suc j) x is high e (inr (positive_at value inputs i j enough, less enough))
    by x is false e same less =
        let more = rw e at (count_more value inputs i x is) in
        let enough : suc (suc j) ≤ count_by value (take i inputs) = omega (arith, more) in
        kept_on value inputs columns reach rules i (suc j) (omega arith) high (positive_at value inputs i (suc j) enough) (same enough)

-- and to reach as many as are true keeps the rules
pub counting : {X : Type 0} (value : X → Bool) (inputs : List X) (columns : ℕ) → Reaches value inputs columns (λ i j. nat_le j (count_by value (take i inputs)))
counting value inputs columns = record {
  kept = λ i j inside few h.
      let at = some_at inputs (suc i) inside in
      let more = count_more value inputs (suc i) at.0 at.1 in
      let below = leb-true (suc j) (count_by value (take (suc i) inputs)) h in
      le-leb (suc j) (count_by value (take (suc (suc i)) inputs)) (omega (arith, more, below));
  counted = λ i j x is few e premise.
      let more = rw e at (count_more value inputs i x is) in
      le-leb (suc j) (count_by value (take (suc i) inputs)) (omega (arith, more, below i j premise));
}
  where
    below : (i j : ℕ) → (j ≡ 0) ⊎ ((1 ≤ i) × (nat_le j (count_by value (take i inputs)) ≡ true)) → j ≤ count_by value (take i inputs)
    below i j (inl none) = omega arith
    below i j (inr some) = leb-true j (count_by value (take i inputs)) some.1
