-- Literals as numbers, so that what is kept of each can stand in a list (Eén and Sörensson, "An extensible SAT-solver", 2003).
use Rattle.std.specs.Prelude.{ℕ, ◌+◌, ◌*◌, ◌/◌, ◌%◌, ◌==◌, if◌then◌else◌}
use Rattle.std.proofs.Common.{◌≡◌, Bool, true, false, refl, arith}
use Rattle.std.proofs.lemmas.Bool.Decides.{nat_tests}
use Rattle.prop_core.specs.declared.lit.Lit.{Lit}

-- the number of a literal: twice its variable, and one more where it is the variable itself
abbrev pub literal_number : Lit → ℕ
literal_number l = 2 * l.var + (if l.positive then 1 else 0)

-- the literal of such a number
abbrev pub numbered_literal : ℕ → Lit
numbered_literal number = record { var = number / 2; positive = number % 2 == 1 }

-- a number is that of its literal
pub number_back : (n : ℕ) → literal_number (numbered_literal n) ≡ n
number_back n = by (n % 2 == 1) refl
  where
    by : (b : Bool) → (n % 2 == 1) ≡ b → 2 * (n / 2) + (if b then 1 else 0) ≡ n
    by true e = let r : n % 2 ≡ 1 = grind (arith, nat_tests) in omega arith
    by false e = let r : n % 2 ≡ 0 = grind (arith, nat_tests) in omega arith
