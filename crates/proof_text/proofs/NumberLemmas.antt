-- Numbers with and without a sign.
use Rattle.std.proofs.Common.{◌≡◌, ◌+◌, ◌-◌, ◌*◌, ℕ, Bool, true, false, List, [], ◌∷◌, Option, None, cond, refl}
use Rattle.std.specs.Prelude.{◌&&◌, is_some}
use Rattle.std.specs.Char.{is_ascii_digit}
use Rattle.std.specs.List.{list_all}
use Rattle.des_base.specs.Numbers.{digits_value}

all_step : (b : Bool) (o : Option ℕ) (rest : Bool) → is_some o ≡ rest → is_some (cond b o None) ≡ (b && rest)
all_step true o rest h = h
all_step false o rest h = refl

pub digits_value-digits : (n : ℕ) (cs : List ℕ) → is_some (digits_value n cs) ≡ list_all is_ascii_digit cs
digits_value-digits n [] = refl
digits_value-digits n (c ∷ cs) = all_step (is_ascii_digit c) (digits_value (10 * n + (c - 48)) cs) _ (digits_value-digits (10 * n + (c - 48)) cs)

pub spelled_by_digits : (cs : List ℕ) → is_some (digits_value 0 cs) ≡ list_all is_ascii_digit cs
spelled_by_digits cs = digits_value-digits 0 cs
