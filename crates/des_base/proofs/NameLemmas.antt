-- A name is text.
use Rattle.std.proofs.Common.{◌≡◌, ◌<◌, ℕ, zero, Bool, true, false, List, [], ◌∷◌, suc, refl, arith}
use Rattle.std.specs.Prelude.{◌&&◌}
use Rattle.std.specs.List.{list_all}
use Rattle.std.specs.Str.{IsAscii, IsUtf8}
use Rattle.std.proofs.lemmas.Str.{IsUtf8-from_ascii}
use Rattle.std.proofs.lemmas.Bool.Decides.{nat_tests}
use Rattle.des_base.specs.Names.{is_name_byte, is_name_text, IsName}

small_byte : (c : ℕ) → is_name_byte c ≡ true → c < 128
unfolding is_name_byte
small_byte c h = grind (arith, nat_tests)

pub and_left : (a b : Bool) → (a && b) ≡ true → a ≡ true
and_left true b h = refl
and_left false b h = cc

pub and_right : (a b : Bool) → (a && b) ≡ true → b ≡ true
and_right true b h = h
and_right false b h = cc

ascii_name : (bs : List ℕ) → list_all is_name_byte bs ≡ true → IsAscii bs
ascii_name [] h i = omega arith
ascii_name (b ∷ bs) h zero = small_byte b (and_left _ _ h)
ascii_name (b ∷ bs) h (suc i) = ascii_name bs (and_right (is_name_byte b) _ h) i

pub name_is_utf8 : (bs : List ℕ) → IsName bs → IsUtf8 bs
unfolding is_name_text
name_is_utf8 bs h = IsUtf8-from_ascii bs (ascii_name bs (and_right _ _ h))
