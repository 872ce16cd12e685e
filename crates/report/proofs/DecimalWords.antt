-- The digits of any number are a word.
use Rattle.std.proofs.Common.{◌≡◌, ◌<◌, ◌/◌, ◌%◌, ◌^◌, ℕ, zero, suc, Bool, true, false, List, [], ◌∷◌, cond, refl, arith}
use Rattle.std.proofs.lemmas.Bool.Decides.{nat_tests}
use Rattle.std.proofs.lemmas.Fmt.{decimal_nonempty}
use Rattle.std.specs.Prelude.{◌==◌}
use Rattle.std.specs.Fmt.{decimal, digits, digits_onto, digit_glyph}
use Rattle.std.specs.List.{list_all}
use Rattle.des_base.proofs.BoolLemmas.{join}
use Rattle.des_base.proofs.PrintedLines.{word_byte, IsWord}

glyph_byte : (d : ℕ) → d < 10 → word_byte (digit_glyph false d) ≡ true
glyph_byte d h = grind (arith, nat_tests)

last_digit : (n : ℕ) → word_byte (digit_glyph false (n % 10)) ≡ true
last_digit n = glyph_byte (n % 10) (omega arith)

onto_step : (b : Bool) (xs ys : List ℕ) → list_all word_byte xs ≡ true → list_all word_byte ys ≡ true → list_all word_byte (cond b xs ys) ≡ true
onto_step true xs ys h k = h
onto_step false xs ys h k = k

digits_onto-bytes : (k n : ℕ) (behind : List ℕ) → list_all word_byte behind ≡ true → list_all word_byte (digits_onto k 10 false n behind) ≡ true
digits_onto-bytes zero n behind h = h
digits_onto-bytes (suc k) n behind h =
    let more = join (word_byte (digit_glyph false (n % 10))) (list_all word_byte behind) (last_digit n) h in
    onto_step (n / 10 == 0) (digit_glyph false (n % 10) ∷ behind) (digits_onto k 10 false (n / 10) (digit_glyph false (n % 10) ∷ behind)) more
    (digits_onto-bytes k (n / 10) (digit_glyph false (n % 10) ∷ behind) more)

-- the digits of any number are bytes of a word
pub decimal_bytes : (n : ℕ) → list_all word_byte (decimal n) ≡ true
unfolding digits
decimal_bytes n = digits_onto-bytes 64 n [] refl

pub decimal_word : (n : ℕ) → n < 2 ^ 64 → IsWord (decimal n)
decimal_word n small = record { some = decimal_nonempty n small; bytes = decimal_bytes n }
