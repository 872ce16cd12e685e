-- What tests that are joined by `&&`, `||` and `not` say of their parts, and tests on numbers.
use Rattle.std.proofs.Common.{◌≡◌, ℕ, ◌<◌, ◌≤◌, Bool, true, false, ◌&&◌, ◌||◌, refl, arith, ap, sym}
use Rattle.std.specs.Bool.{beq}
use Rattle.std.specs.Prelude.{◌==◌, nat_lt, nat_le, not}
use Rattle.std.proofs.lemmas.Bool.Decides.{nat_tests, Decides-eqb}
pub use Rattle.std.proofs.lemmas.Bool.{and_parts as both, and_from as join, or_cases as either, or_left, or_right, or_parts as neither, not_from_false as not_false, not-true as not_true, not-false as not_is_false, false_from_ne_true as otherwise}

pub or_assoc : (a b c : Bool) → (a || (b || c)) ≡ ((a || b) || c)
or_assoc true b c = refl
or_assoc false b c = refl

pub and_assoc : (a b c : Bool) → ((a && b) && c) ≡ (a && (b && c))
and_assoc true b c = refl
and_assoc false b c = refl

-- no test both passes and fails
pub clash : {A : Type 0} (b : Bool) → b ≡ true → b ≡ false → A
clash true h k = cc
clash false h k = cc

-- a test that is compared with an answer
pub beq_true : (b : Bool) → beq b true ≡ b
beq_true true = refl
beq_true false = refl

pub beq_false : (b : Bool) → beq b false ≡ not b
beq_false true = refl
beq_false false = refl

-- two tests that pass alike are one
pub alike : (a b : Bool) → (a ≡ true → b ≡ true) → (b ≡ true → a ≡ true) → a ≡ b
alike true b f g = sym (f refl)
alike false true f g = g refl
alike false false f g = refl

pub same : (x y : ℕ) → (x == y) ≡ true → x ≡ y
same x y h = (Decides-eqb x y).0 h

pub itself : (x : ℕ) → (x == x) ≡ true
itself x = (Decides-eqb x x).1 refl

pub is_less : (x y : ℕ) → x < y → nat_lt x y ≡ true
is_less x y h = grind (arith, nat_tests)

pub less_is : (x y : ℕ) → nat_lt x y ≡ true → x < y
less_is x y h = grind (arith, nat_tests)

pub is_most : (x y : ℕ) → x ≤ y → nat_le x y ≡ true
is_most x y h = grind (arith, nat_tests)

pub most_is : (x y : ℕ) → nat_le x y ≡ true → x ≤ y
most_is x y h = grind (arith, nat_tests)

pub not_less : (x y : ℕ) → y ≤ x → nat_lt x y ≡ false
not_less x y h = grind (arith, nat_tests)

pub less_not : (x y : ℕ) → nat_lt x y ≡ false → y ≤ x
less_not x y h = grind (arith, nat_tests)

pub not_most : (x y : ℕ) → y < x → nat_le x y ≡ false
not_most x y h = grind (arith, nat_tests)

pub most_not : (x y : ℕ) → nat_le x y ≡ false → y < x
most_not x y h = grind (arith, nat_tests)

pub differ : (x y : ℕ) → (x ≡ y → ⊥) → (x == y) ≡ false
differ x y h = otherwise (x == y) (λ e. h (same x y e))

-- a test distinguishes two numbers
pub apart : (p : ℕ → Bool) (x y : ℕ) → p x ≡ false → p y ≡ true → (x == y) ≡ false
apart p x y a b = otherwise (x == y) (λ e. let k : p x ≡ p y = ap p (same x y e) in cc)
