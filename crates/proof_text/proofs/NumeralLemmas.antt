-- Numbers and literals as they are printed, and what they are read as.
use Rattle.std.proofs.Common.{◌≡◌, ◌<◌, ◌+◌, ◌-◌, ◌^◌, ℕ, Bool, true, false, List, [], ◌∷◌, Option, None, Some, cond, refl, arith, ap, sym, ◌∙◌}
use Rattle.std.proofs.lemmas.Bool.Decides.{nat_tests}
use Rattle.std.specs.Prelude.{◌&&◌, ◌==◌, not, nat_lt, is_some, option_map, option_and_then, unwrap_or}
use Rattle.std.specs.Char.{is_ascii_digit}
use Rattle.std.specs.Fmt.{decimal}
use Rattle.std.specs.List.{list_all}
use Rattle.des_base.proofs.BoolLemmas.{both, join}
use Rattle.des_base.proofs.LawLemmas.{numbers_are_decimal}
use Rattle.des_base.specs.Numbers.{digits_value, number_of}
use Rattle.prop_core.proofs.Literals.{not_not}
use Rattle.prop_core.specs.declared.lit.Lit.{Lit}
use Rattle.proof_text.specs.SignedNumbers.{Signed, signed_of, plain, behind_minus, is_number, number_in, size_of, is_negative, is_zero, literal, literal_of}
use Rattle.proof_text.specs.LratText.{is_deletion_mark}
use Rattle.proof_text.specs.PrintedText.{literal_word}
use Rattle.proof_text.proofs.NumberLemmas.{spelled_by_digits}
use Rattle.proof_text.proofs.CodeLemmas.{minus_spells_none}
use Rattle.proof_text.proofs.WordLemmas.{numeral_byte, IsNumeral}

-- ---- the digits of a number

pub number_of-decimal : (n : ℕ) → n < 2 ^ 64 → number_of (decimal n) ≡ Some n
number_of-decimal n small = (numbers_are_decimal n (decimal n) small).1 refl

digit_byte : (byte : ℕ) → is_ascii_digit byte ≡ true → numeral_byte byte ≡ true
digit_byte byte h = grind (arith, nat_tests)

digit_bytes : (text : List ℕ) → list_all is_ascii_digit text ≡ true → list_all numeral_byte text ≡ true
digit_bytes [] h = refl
digit_bytes (c ∷ cs) h = let parts = both (is_ascii_digit c) (list_all is_ascii_digit cs) h in join (numeral_byte c) (list_all numeral_byte cs) (digit_byte c parts.0) (digit_bytes cs parts.1)

digits_of_value : (text : List ℕ) (n : ℕ) → digits_value 0 text ≡ Some n → list_all is_ascii_digit text ≡ true
digits_of_value text n h = sym (spelled_by_digits text) ∙ ap is_some h

lead_step : (b : Bool) (o : Option ℕ) (n : ℕ) → cond b None o ≡ Some n → o ≡ Some n
lead_step true o n h = cc
lead_step false o n h = h

spelled_numeral : (text : List ℕ) (n : ℕ) → number_of text ≡ Some n → IsNumeral text
spelled_numeral [] n h = cc
spelled_numeral (c ∷ []) n h = record { some = omega arith; bytes = digit_bytes (c ∷ []) (digits_of_value (c ∷ []) n h) }
spelled_numeral (c ∷ d ∷ cs) n h = record { some = omega arith; bytes = digit_bytes (c ∷ d ∷ cs) (digits_of_value (c ∷ d ∷ cs) n (lead_step (c == 48) (digits_value 0 (c ∷ d ∷ cs)) n h)) }

sign_step : (minus : Bool) (c : ℕ) (cs : List ℕ) (n : ℕ) → (c == 45) ≡ minus → number_of (c ∷ cs) ≡ Some n → cond minus (option_and_then behind_minus (number_of cs)) (option_map plain (number_of (c ∷ cs))) ≡ Some (plain n)
sign_step true c cs n h is =
    let e : c ≡ 45 = grind (arith, nat_tests) in
    let none : number_of (c ∷ cs) ≡ None = ap (λ d. number_of (d ∷ cs)) e ∙ minus_spells_none cs in
    cc
sign_step false c cs n h is = ap (option_map plain) is

signed_of-plain : (text : List ℕ) (n : ℕ) → number_of text ≡ Some n → signed_of text ≡ Some (plain n)
signed_of-plain [] n h = cc
signed_of-plain (c ∷ cs) n h = sign_step (c == 45) c cs n refl h

pub decimal_numeral : (n : ℕ) → n < 2 ^ 64 → IsNumeral (decimal n)
decimal_numeral n small = spelled_numeral (decimal n) n (number_of-decimal n small)

pub signed_of-decimal : (n : ℕ) → n < 2 ^ 64 → signed_of (decimal n) ≡ Some (plain n)
signed_of-decimal n small = signed_of-plain (decimal n) n (number_of-decimal n small)

-- ---- literals

abbrev pub signed : Lit → Signed
signed l = record { negative = not l.positive; size = l.var + 1 }

minus_numeral : (n : ℕ) → n < 2 ^ 64 → IsNumeral (45 ∷ decimal n)
minus_numeral n small = record { some = omega arith; bytes = (decimal_numeral n small).bytes }

pub above_zero : (n : ℕ) → (n + 1 == 0) ≡ false
above_zero n = grind (arith, nat_tests)

minus_step : (b : Bool) (s : Signed) → b ≡ false → cond b None (Some s) ≡ Some s
minus_step true s h = cc
minus_step false s h = refl

literal_numeral : (positive : Bool) (n : ℕ) → n < 2 ^ 64 → IsNumeral (cond positive (decimal n) (45 ∷ decimal n))
literal_numeral true n small = decimal_numeral n small
literal_numeral false n small = minus_numeral n small

pub literal_word_numeral : (l : Lit) → l.var + 1 < 2 ^ 64 → IsNumeral (literal_word l)
literal_word_numeral l small = literal_numeral l.positive (l.var + 1) small

literal_signed : (positive : Bool) (var : ℕ) → var + 1 < 2 ^ 64 → signed_of (cond positive (decimal (var + 1)) (45 ∷ decimal (var + 1))) ≡ Some (record { negative = not positive; size = var + 1 })
literal_signed true var small = signed_of-decimal (var + 1) small
literal_signed false var small = ap (option_and_then behind_minus) (number_of-decimal (var + 1) small) ∙ minus_step (var + 1 == 0) (record { negative = true; size = var + 1 }) (above_zero var)

pub signed_of-literal : (l : Lit) → l.var + 1 < 2 ^ 64 → signed_of (literal_word l) ≡ Some (signed l)
signed_of-literal l small = literal_signed l.positive l.var small

-- what a word that is this number is read as
pub record ReadsAs (word : List ℕ) (n : Signed) : Type 0 where
  pub number : is_number word ≡ true
  pub size : size_of word ≡ n.size
  pub negative : is_negative word ≡ n.negative
  pub zero : is_zero word ≡ (n.size == 0)
  pub literal : literal_of word ≡ literal n

pub reads_as : (word : List ℕ) (n : Signed) → signed_of word ≡ Some n → ReadsAs word n
reads_as word n h =
    let is : number_in word ≡ n = ap (λ o. unwrap_or o (plain 0)) h in
    record {
      number = ap is_some h;
      size = ap (λ (s : Signed). s.size) is;
      negative = ap (λ (s : Signed). s.negative) is;
      zero = ap (λ o. is_some o && (unwrap_or o (plain 0)).size == 0) h;
      literal = ap literal is;
    }

same_lit : (a b : ℕ) (p q : Bool) → a ≡ b → p ≡ q → ◌≡◌ {A = Lit} (record { var = a; positive = p }) (record { var = b; positive = q })
same_lit a b p q h k = (λ i. record { var = h i; positive = k i })

pub literal-signed : (l : Lit) → literal (signed l) ≡ l
literal-signed l = same_lit (l.var + 1 - 1) l.var (not (not l.positive)) l.positive (omega arith) (not_not l.positive)

-- no number is the mark of a deletion
other_first : (c : ℕ) (cs : List ℕ) → numeral_byte c ≡ true → is_deletion_mark (c ∷ cs) ≡ false
other_first c cs h =
    let parts = both (nat_lt 32 c) (nat_lt c 99) h in
    let other : (c == 100) ≡ false = grind (arith, nat_tests) in
    rw other refl

pub no_deletion_mark : (word : List ℕ) → IsNumeral word → is_deletion_mark word ≡ false
no_deletion_mark [] h = refl
no_deletion_mark (c ∷ cs) h = other_first c cs (both (numeral_byte c) (list_all numeral_byte cs) h.bytes).0
