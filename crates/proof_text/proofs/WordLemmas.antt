-- Lines that are words with single spaces between them, as they are cut again.
use Rattle.std.proofs.Common.{◌≡◌, ◌<◌, ℕ, Bool, true, false, List, [], ◌∷◌, ◌++◌, length, refl, arith, ap, ◌∙◌, append_assoc}
use Rattle.std.proofs.lemmas.Bool.Decides.{nat_tests}
use Rattle.std.specs.Prelude.{◌&&◌, ◌==◌, nat_lt, flat_map, ⊤}
use Rattle.std.specs.List.{list_all}
use Rattle.des_base.proofs.BoolLemmas.{both, join}
use Rattle.des_base.proofs.PrintedLines.{word_byte, line_byte, IsWord, AreWords, not_blank, tokens_of-word, word_before}
use Rattle.des_base.specs.CountedLines.{is_blank, is_counted, tokens_of}

-- each word has a space behind it
abbrev pub spaced : List (List ℕ) → List ℕ
spaced words = flat_map (λ word. word ++ 32 ∷ []) words

-- the last word is 0
abbrev pub line_of : List (List ℕ) → List ℕ
line_of words = spaced words ++ 48 ∷ []

-- ---- tokens

-- the word in front, and then the others
pub line_of-cons : (word : List ℕ) (words : List (List ℕ)) → line_of (word ∷ words) ≡ word ++ 32 ∷ line_of words
line_of-cons word words = append_assoc (word ++ 32 ∷ []) (spaced words) (48 ∷ []) ∙ append_assoc word (32 ∷ []) (line_of words)

pub tokens_of-line : (words : List (List ℕ)) → AreWords words → tokens_of (line_of words) ≡ words ++ (48 ∷ []) ∷ []
tokens_of-line [] h = refl
tokens_of-line (word ∷ words) h = ap tokens_of (line_of-cons word words) ∙ tokens_of-word word (line_of words) h.0 ∙ ap (λ ts. word ∷ ts) (tokens_of-line words h.1)

-- ---- lines

pub line_of-bytes : (words : List (List ℕ)) → AreWords words → list_all line_byte (line_of words) ≡ true
line_of-bytes [] h = refl
line_of-bytes (word ∷ words) h = ap (list_all line_byte) (line_of-cons word words) ∙ word_before word (line_of words) h.0.bytes (line_of-bytes words h.1)

-- ---- words of numbers

-- a byte of a word that is a number; none is a comment's, and none is the mark of a deletion
abbrev pub numeral_byte : ℕ → Bool
numeral_byte byte = nat_lt 32 byte && nat_lt byte 99

pub record IsNumeral (word : List ℕ) : Type 0 where
  pub some : 0 < length word
  pub bytes : list_all numeral_byte word ≡ true

of_a_word : (byte : ℕ) → numeral_byte byte ≡ true → word_byte byte ≡ true
of_a_word byte h = (both (nat_lt 32 byte) (nat_lt byte 99) h).0

numeral_bytes : (word : List ℕ) → list_all numeral_byte word ≡ true → list_all word_byte word ≡ true
numeral_bytes [] h = refl
numeral_bytes (c ∷ cs) h = let parts = both (numeral_byte c) (list_all numeral_byte cs) h in join (word_byte c) (list_all word_byte cs) (of_a_word c parts.0) (numeral_bytes cs parts.1)

pub numeral_word : (word : List ℕ) → IsNumeral word → IsWord word
numeral_word word h = record { some = h.some; bytes = numeral_bytes word h.bytes }

abbrev pub AreNumerals : List (List ℕ) → Type 0
AreNumerals [] = ⊤
AreNumerals (word ∷ words) = IsNumeral word × AreNumerals words

pub numeral_words : (words : List (List ℕ)) → AreNumerals words → AreWords words
numeral_words [] h = tt
numeral_words (word ∷ words) h = (numeral_word word h.0, numeral_words words h.1)

first_counts : (byte : ℕ) (rest : List ℕ) → numeral_byte byte ≡ true → is_counted 99 (byte ∷ rest) ≡ true
first_counts byte rest h =
    let parts = both (nat_lt 32 byte) (nat_lt byte 99) h in
    let blank : is_blank byte ≡ false = not_blank byte parts.0 in
    let comment : (byte == 99) ≡ false = grind (arith, nat_tests) in
    rw (blank, comment) refl

pub numeral_counts : (word rest : List ℕ) → IsNumeral word → is_counted 99 (word ++ rest) ≡ true
numeral_counts [] rest h = let some : 0 < length {A = ℕ} [] = h.some in absurd (omega arith)
numeral_counts (c ∷ cs) rest h = first_counts c (cs ++ rest) (both (numeral_byte c) (list_all numeral_byte cs) h.bytes).0

-- a line of numbers counts
pub line_of-counts : (words : List (List ℕ)) → AreNumerals words → is_counted 99 (line_of words) ≡ true
line_of-counts [] h = refl
line_of-counts (word ∷ words) h = ap (is_counted 99) (line_of-cons word words) ∙ numeral_counts word (32 ∷ line_of words) h.0
