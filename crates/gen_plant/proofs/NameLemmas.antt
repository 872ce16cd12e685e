-- Names of a word and a number: they are names, and those of different numbers differ.
use Rattle.std.proofs.Common.{◌≡◌, inl, inr, ◌<◌, ◌≤◌, ◌+◌, ◌/◌, ◌%◌, ◌^◌, ℕ, true, false, List, [], ◌∷◌, ◌++◌, length, refl, arith, ◌∙◌, length-append}
use Rattle.std.specs.Prelude.{◌&&◌, nat_le, IsTrue, decimal, bytes_eq}
use Rattle.std.specs.List.{list_all}
use Rattle.std.proofs.lemmas.Bool.Decides.{nat_tests, leb_tells}
use Rattle.std.proofs.lemmas.Fmt.{decimal_digit, decimal_step, decimal_injective, decimal_nonempty}
use Rattle.std.proofs.lemmas.List.Folds.{list_all-append}
use Rattle.std.proofs.lemmas.Slice.Eq.{bytes_eq-Decides}
use Rattle.des_base.proofs.BoolLemmas.{both, join, is_most, most_is, otherwise}
use Rattle.des_base.specs.Names.{IsName, is_name_byte, is_name_text}
use Rattle.gen_plant.specs.Stages.{is_front}

-- ---- digits are letters of names

record IsNumeral (most : ℕ) (text : List ℕ) : Type 0 where
  short : length text ≤ most
  bytes : list_all is_name_byte text ≡ true

digit_byte : (d : ℕ) → d < 10 → is_name_byte (48 + d) ≡ true
unfolding is_name_byte
digit_byte d h = grind (arith, nat_tests)

one_digit : (n : ℕ) → n < 10 → IsNumeral 1 (decimal n)
one_digit n h = rw (decimal_digit n h) (record { short = omega arith; bytes = join (is_name_byte (48 + n)) true (digit_byte n h) refl })

-- one more digit
longer : (most n : ℕ) → 10 ≤ n → n < 2 ^ 64 → IsNumeral most (decimal (n / 10)) → IsNumeral (most + 1) (decimal n)
longer most n low high h =
    rw (decimal_step n low high) (record {
      short = omega (arith, h.short, length-append (decimal (n / 10)) ((48 + n % 10) ∷ []));
      bytes = list_all-append is_name_byte (decimal (n / 10)) ((48 + n % 10) ∷ [])
          ∙ join (list_all is_name_byte (decimal (n / 10))) _ h.bytes (join (is_name_byte (48 + n % 10)) true (digit_byte (n % 10) (omega arith)) refl);
    })

two_digits : (n : ℕ) → 10 ≤ n → n < 100 → IsNumeral 2 (decimal n)
two_digits n low high = longer 1 n low (omega arith) (one_digit (n / 10) (omega arith))

three_digits : (n : ℕ) → 100 ≤ n → n < 1000 → IsNumeral 3 (decimal n)
three_digits n low high = longer 2 n (omega arith) (omega arith) (two_digits (n / 10) (omega arith) (omega arith))

numeral : (n : ℕ) → n < 1000 → IsNumeral 3 (decimal n)
numeral n h = elim (leb_tells 10 n) [
  | inl small ↦ elim (leb_tells 100 n) [
    | inl large ↦ three_digits n large.1 h
    | inr less ↦ let two = two_digits n small.1 less.1 in record { short = omega (arith, two.short); bytes = two.bytes }
  ]
  | inr less ↦ let one = one_digit n less.1 in record { short = omega (arith, one.short); bytes = one.bytes }
]

text_is_name : (text : List ℕ) → 0 < length text → length text ≤ 64 → list_all is_name_byte text ≡ true → IsName text
unfolding is_name_text
text_is_name text some few bytes =
    join (nat_le 1 (length text) && nat_le (length text) 64) _ (join (nat_le 1 (length text)) _ (is_most 1 (length text) (omega arith)) (is_most (length text) 64 few)) bytes

pub numbered_is_name : (word : List ℕ) (n : ℕ) → IsTrue (is_front word) → n < 1000 → IsName (word ++ decimal n)
numbered_is_name word n front h =
    let tail = numeral n h in
    let parts = both (nat_le (length word) 60) (list_all is_name_byte word) front in
    let few = most_is (length word) 60 parts.0 in
    let some = decimal_nonempty n (omega arith) in
    let sum = length-append word (decimal n) in
    text_is_name (word ++ decimal n) (omega arith) (omega (arith, tail.short))
    (list_all-append is_name_byte word (decimal n) ∙ join (list_all is_name_byte word) (list_all is_name_byte (decimal n)) parts.1 tail.bytes)

-- ---- those of different numbers differ

pub other_numeral : (m n : ℕ) → m < n → n < 1000 → bytes_eq (decimal n) (decimal m) ≡ false
other_numeral m n less high =
    otherwise (bytes_eq (decimal n) (decimal m)) (λ same. let alike = decimal_injective n m (omega arith) (omega arith) ((bytes_eq-Decides (decimal n) (decimal m)).0 same) in omega arith)
