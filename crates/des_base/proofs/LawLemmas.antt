-- Numbers and tokens of a text in the library's words.
use Rattle.std.proofs.Common.{◌≡◌, ◌<◌, ◌+◌, ◌-◌, ◌*◌, ◌^◌, ℕ, Bool, true, false, List, [], ◌∷◌, length, get_or, Option, None, Some, cond, refl, arith, rules, ap, sym, ◌∙◌, subst, zero, suc}
use Rattle.std.proofs.lemmas.Bool.Decides.{nat_tests}
use Rattle.std.proofs.lemmas.Str.Parse.{IsNumeralModel, numerals_by_fold}
use Rattle.std.proofs.lemmas.Fmt.{decimal_nonempty, first_decimal, digits_decimal, digits_value-decimal, decimal-digits_value, decimal_digit}
use Rattle.std.specs.Prelude.{◌&&◌, ◌==◌, filter, nat_lt}
use Rattle.std.specs.Char.{is_ascii_digit}
use Rattle.std.specs.Fmt.{decimal}
use Rattle.std.specs.List.{slice_split, onto_first}
use Rattle.std.specs.Str.{all_ascii_digits}
use Rattle.des_base.specs.Numbers.{digits_value, number_of}
use Rattle.des_base.specs.CountedLines.{is_blank, PlacedToken, placed, with_byte, pieces_from, texts_of}
use Rattle.des_base.specs.Laws.{NumbersAreDecimal, TokensArePieces}

abbrev read_on : ℕ → List ℕ → ℕ
read_on n [] = n
read_on n (c ∷ cs) = read_on (10 * n + (c - 48)) cs

abbrev Digits : List ℕ → Type 0
Digits ds = all_ascii_digits ds ≡ true

numerals : IsNumeralModel Digits (read_on 0)
numerals = numerals_by_fold _ (search rules) read_on (search rules)

-- the number where all are digits
spelled_step : (b c : Bool) (n : ℕ) (o : Option ℕ) → o ≡ cond c (Some n) None → cond b o None ≡ cond (b && c) (Some n) None
spelled_step true c n o h = h
spelled_step false c n o h = refl

digits_value-spelled : (n : ℕ) (ds : List ℕ) → digits_value n ds ≡ cond (all_ascii_digits ds) (Some (read_on n ds)) None
digits_value-spelled n [] = refl
digits_value-spelled n (c ∷ cs) = spelled_step (is_ascii_digit c) (all_ascii_digits cs) (read_on n (c ∷ cs)) (digits_value (10 * n + (c - 48)) cs) (digits_value-spelled (10 * n + (c - 48)) cs)

-- a text that spells a number
record Spells (ds : List ℕ) (n : ℕ) : Type 0 where
  some : 0 < length ds
  lead : get_or ds 0 0 ≡ 48 → length ds ≡ 1
  digits : Digits ds
  value : read_on 0 ds ≡ n

digits_step : (b : Bool) (m n : ℕ) → cond b (Some m) None ≡ Some n → (b ≡ true) × (m ≡ n)
digits_step true m n h = (refl, cc)
digits_step false m n h = cc

lead_step : (b : Bool) (o : Option ℕ) (n : ℕ) → cond b None o ≡ Some n → (b ≡ false) × (o ≡ Some n)
lead_step true o n h = cc
lead_step false o n h = (refl, h)

spells : (ds : List ℕ) (n : ℕ) → number_of ds ≡ Some n → Spells ds n
spells [] n h = cc
spells (c ∷ []) n h =
    let both : (all_ascii_digits (c ∷ []) ≡ true) × (read_on 0 (c ∷ []) ≡ n) = digits_step _ _ n (sym (digits_value-spelled 0 (c ∷ [])) ∙ h) in
    record { some = omega arith; lead = λ _. refl; digits = both.0; value = both.1 }
spells (c ∷ d ∷ cs) n h =
    let long : ((c == 48) ≡ false) × (digits_value 0 (c ∷ d ∷ cs) ≡ Some n) = lead_step (c == 48) _ n h in
    let both : (all_ascii_digits (c ∷ d ∷ cs) ≡ true) × (read_on 0 (c ∷ d ∷ cs) ≡ n) = digits_step _ _ n (sym (digits_value-spelled 0 (c ∷ d ∷ cs)) ∙ long.1) in
    record { some = omega arith; lead = λ zero. absurd (grind (arith, nat_tests)); digits = both.0; value = both.1 }

long_step : (b : Bool) (o : Option ℕ) → b ≡ false → cond b None o ≡ o
long_step true o h = cc
long_step false o h = refl

not_zero : (c n : ℕ) → (c ≡ 48 → n + 2 ≡ 1) → (c == 48) ≡ false
not_zero c n h = grind (arith, nat_tests)

number_of-spelled : (ds : List ℕ) → 0 < length ds → (get_or ds 0 0 ≡ 48 → length ds ≡ 1) → Digits ds → number_of ds ≡ Some (read_on 0 ds)
number_of-spelled [] some lead digits = absurd (omega arith)
number_of-spelled (c ∷ []) some lead digits = digits_value-spelled 0 (c ∷ []) ∙ ap (λ b. cond b (Some (read_on 0 (c ∷ []))) None) digits
number_of-spelled (c ∷ d ∷ cs) some lead digits =
    long_step (c == 48) (digits_value 0 (c ∷ d ∷ cs)) (not_zero c (length cs) (λ zero. let one : length (c ∷ d ∷ cs) ≡ 1 = lead zero in omega arith))
    ∙ digits_value-spelled 0 (c ∷ d ∷ cs) ∙ ap (λ b. cond b (Some (read_on 0 (c ∷ d ∷ cs))) None) digits

decimal_lead : (n : ℕ) → n < 2 ^ 64 → get_or (decimal n) 0 0 ≡ 48 → length (decimal n) ≡ 1
decimal_lead zero small lead = ap length (decimal_digit 0 (omega arith))
decimal_lead (suc n) small lead = let above : 48 < get_or (decimal (suc n)) 0 0 = first_decimal (suc n) (omega arith) small in absurd (omega arith)

pub numbers_are_decimal : NumbersAreDecimal
numbers_are_decimal n text small = (
  λ (h : number_of text ≡ Some n).
      let s : Spells text n = spells text n h in
      sym (decimal-digits_value numerals text s.digits s.some s.lead (subst (λ m. m < 2 ^ 64) (sym s.value) small)) ∙ ap decimal s.value,
  λ (e : text ≡ decimal n).
      ap number_of e
      ∙ number_of-spelled (decimal n) (decimal_nonempty n small) (decimal_lead n small) (digits_decimal numerals n small)
      ∙ ap Some (digits_value-decimal numerals n small),
)

texts_of-with_byte : (start byte : ℕ) (pieces : List PlacedToken) → texts_of (with_byte start byte pieces) ≡ onto_first byte (texts_of pieces)
texts_of-with_byte start byte [] = refl
texts_of-with_byte start byte (piece ∷ pieces) = refl

texts_step : (b : Bool) (start byte : ℕ) (pieces : List PlacedToken) (split : List (List ℕ)) → texts_of pieces ≡ split
    → texts_of (cond b (placed start [] ∷ pieces) (with_byte start byte pieces)) ≡ cond b ([] ∷ split) (onto_first byte split)
texts_step true start byte pieces split h = ap (λ l. [] ∷ l) h
texts_step false start byte pieces split h = texts_of-with_byte start byte pieces ∙ ap (onto_first byte) h

texts_of-pieces : (start : ℕ) (xs : List ℕ) → texts_of (pieces_from start xs) ≡ slice_split is_blank xs
texts_of-pieces start [] = refl
texts_of-pieces start (x ∷ xs) = texts_step (is_blank x) start x (pieces_from (start + 1) xs) (slice_split is_blank xs) (texts_of-pieces (start + 1) xs)

filter_step : (b : Bool) (piece : PlacedToken) (pieces : List PlacedToken) (kept : List (List ℕ)) → texts_of pieces ≡ kept
    → texts_of (cond b (piece ∷ pieces) pieces) ≡ cond b (piece.text ∷ kept) kept
filter_step true piece pieces kept h = ap (λ l. piece.text ∷ l) h
filter_step false piece pieces kept h = h

texts_of-filter : (pieces : List PlacedToken) → texts_of (filter (λ piece. nat_lt 0 (length piece.text)) pieces) ≡ filter (λ text. nat_lt 0 (length text)) (texts_of pieces)
texts_of-filter [] = refl
texts_of-filter (piece ∷ pieces) = filter_step (nat_lt 0 (length piece.text)) piece _ _ (texts_of-filter pieces)

pub tokens_are_pieces : TokensArePieces
tokens_are_pieces line = texts_of-filter (pieces_from 0 line) ∙ ap (filter (λ text. nat_lt 0 (length text))) (texts_of-pieces 0 line)
