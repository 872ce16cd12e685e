-- Printed lines, which are words with single bytes between them, are cut into their lines and words again.
use Rattle.std.proofs.Common.{◌≡◌, ◌<◌, ◌≤◌, ◌+◌, ◌-◌, ℕ, zero, suc, Bool, true, false, List, [], ◌∷◌, ◌++◌, length, map, get_or, take, cond, refl, arith, ap, sym, ◌∙◌}
use Rattle.std.proofs.lemmas.Bool.Decides.{nat_tests}
use Rattle.std.proofs.lemmas.List.Elements.{All-nil, All-cons}
use Rattle.std.proofs.lemmas.List.Splits.{slice_split_at, slice_split_none, length-slice_split}
use Rattle.std.specs.Prelude.{◌&&◌, ◌==◌, nat_lt, nat_le, All, filter, ⊤}
use Rattle.std.specs.List.{list_all, slice_split}
use Rattle.std.specs.Str.Lines.{strip_carriage_return}
use Rattle.des_base.proofs.BoolLemmas.{both, join, most_is}
use Rattle.des_base.proofs.Elements.{list_all-put}
use Rattle.des_base.proofs.LawLemmas.{tokens_are_pieces}
use Rattle.des_base.proofs.LineLemmas.{without_empty_last-cons}
use Rattle.des_base.specs.CountedLines.{is_blank, text_lines, without_empty_last, NumberedLine, numbered, numbered_from, counted_from, is_counted, tokens_of}
use Rattle.des_base.specs.Names.{is_name_byte, is_name_text}

-- a byte of a word, and one of a line of words
abbrev pub word_byte : ℕ → Bool
word_byte byte = nat_lt 32 byte

abbrev pub line_byte : ℕ → Bool
line_byte byte = nat_le 32 byte

pub record IsWord (word : List ℕ) : Type 0 where
  pub some : 0 < length word
  pub bytes : list_all word_byte word ≡ true

abbrev pub AreWords : List (List ℕ) → Type 0
AreWords [] = ⊤
AreWords (word ∷ words) = IsWord word × AreWords words

pub AreWords-append : (xs ys : List (List ℕ)) → AreWords xs → AreWords ys → AreWords (xs ++ ys)
AreWords-append [] ys h k = k
AreWords-append (x ∷ xs) ys h k = (h.0, AreWords-append xs ys h.1 k)

-- ---- tokens

pub not_blank : (byte : ℕ) → word_byte byte ≡ true → is_blank byte ≡ false
not_blank byte h = grind (arith, nat_tests)

pub none_blank : (word : List ℕ) → list_all word_byte word ≡ true → All (λ byte. is_blank byte ≡ false) word
none_blank [] h = All-nil (λ byte. is_blank byte ≡ false)
none_blank (c ∷ cs) h = let parts = both (word_byte c) (list_all word_byte cs) h in All-cons (λ byte. is_blank byte ≡ false) c cs (not_blank c parts.0) (none_blank cs parts.1)

kept_step : (n : ℕ) (word : List ℕ) (words : List (List ℕ)) → 0 < n → cond (nat_lt 0 n) (word ∷ words) words ≡ word ∷ words
kept_step n word words h = grind (arith, nat_tests)

pub tokens_of-word : (word rest : List ℕ) → IsWord word → tokens_of (word ++ 32 ∷ rest) ≡ word ∷ tokens_of rest
tokens_of-word word rest h =
    tokens_are_pieces (word ++ 32 ∷ rest)
    ∙ ap (filter (λ piece. nat_lt 0 (length piece))) (slice_split_at is_blank word 32 rest (none_blank word h.bytes) refl)
    ∙ kept_step (length word) word (filter (λ piece. nat_lt 0 (length piece)) (slice_split is_blank rest)) h.some
    ∙ ap (λ words. word ∷ words) (sym (tokens_are_pieces rest))

pub tokens_of-last : (word : List ℕ) → IsWord word → tokens_of word ≡ word ∷ []
tokens_of-last word h =
    tokens_are_pieces word
    ∙ ap (filter (λ piece. nat_lt 0 (length piece))) (slice_split_none is_blank word (none_blank word h.bytes))
    ∙ kept_step (length word) word [] h.some

-- ---- lines

of_a_line : (byte : ℕ) → word_byte byte ≡ true → line_byte byte ≡ true
of_a_line byte h = grind (arith, nat_tests)

pub word_in_line : (word : List ℕ) → list_all word_byte word ≡ true → list_all line_byte word ≡ true
word_in_line [] h = refl
word_in_line (c ∷ cs) h = let parts = both (word_byte c) (list_all word_byte cs) h in join (line_byte c) (list_all line_byte cs) (of_a_line c parts.0) (word_in_line cs parts.1)

pub word_before : (word rest : List ℕ) → list_all word_byte word ≡ true → list_all line_byte rest ≡ true → list_all line_byte (word ++ 32 ∷ rest) ≡ true
word_before word rest h k = list_all-put line_byte word (32 ∷ rest) (word_in_line word h) k

not_feed : (byte : ℕ) → line_byte byte ≡ true → (byte == 10) ≡ false
not_feed byte h = grind (arith, nat_tests)

no_feed : (line : List ℕ) → list_all line_byte line ≡ true → All (λ byte. (byte == 10) ≡ false) line
no_feed [] h = All-nil (λ byte. (byte == 10) ≡ false)
no_feed (c ∷ cs) h = let parts = both (line_byte c) (list_all line_byte cs) h in All-cons (λ byte. (byte == 10) ≡ false) c cs (not_feed c parts.0) (no_feed cs parts.1)

not_return : (byte : ℕ) → line_byte byte ≡ true → (byte == 13) ≡ false
not_return byte h = grind (arith, nat_tests)

no_return_at : (line : List ℕ) (k : ℕ) → list_all line_byte line ≡ true → (get_or line k 0 == 13) ≡ false
no_return_at [] k h = refl
no_return_at (c ∷ cs) zero h = not_return c (both (line_byte c) (list_all line_byte cs) h).0
no_return_at (c ∷ cs) (suc k) h = no_return_at cs k (both (line_byte c) (list_all line_byte cs) h).1

strip_step : (b : Bool) (shorter line : List ℕ) → b ≡ false → cond b shorter line ≡ line
strip_step true shorter line h = cc
strip_step false shorter line h = refl

strip_none : (line : List ℕ) → list_all line_byte line ≡ true → strip_carriage_return line ≡ line
strip_none line h = strip_step (get_or line (length line - 1) 0 == 13) (take (length line - 1) line) line (no_return_at line (length line - 1) h)

pub text_lines-line : (line rest : List ℕ) → list_all line_byte line ≡ true → text_lines (line ++ 10 ∷ rest) ≡ line ∷ text_lines rest
text_lines-line line rest h =
    ap (λ pieces. map strip_carriage_return (without_empty_last pieces)) (slice_split_at (λ byte. byte == 10) line 10 rest (no_feed line h) refl)
    ∙ ap (map strip_carriage_return) (without_empty_last-cons line (slice_split (λ byte. byte == 10) rest) (omega (arith, length-slice_split (λ byte. byte == 10) rest)))
    ∙ ap (λ first. first ∷ text_lines rest) (strip_none line h)

counted_step : (b : Bool) (n : ℕ) (line : List ℕ) (lines : List NumberedLine) → b ≡ true → cond b (numbered n line ∷ lines) lines ≡ numbered n line ∷ lines
counted_step true n line lines h = refl
counted_step false n line lines h = cc

-- a line of printed bytes that counts is the first line
pub counted_from-line : (comment n : ℕ) (line rest : List ℕ) → list_all line_byte line ≡ true → is_counted comment line ≡ true
    → counted_from comment n (line ++ 10 ∷ rest) ≡ numbered n line ∷ counted_from comment (n + 1) rest
counted_from-line comment n line rest h counts =
    ap (λ lines. filter (λ line. is_counted comment line.text) (numbered_from n lines)) (text_lines-line line rest h)
    ∙ counted_step (is_counted comment line) n line (counted_from comment (n + 1) rest) counts

-- ---- names

pub record IsNameText (text : List ℕ) : Type 0 where
  pub some : 0 < length text
  pub few : length text ≤ 64
  pub bytes : list_all is_name_byte text ≡ true

pub name_text : (text : List ℕ) → is_name_text text ≡ true → IsNameText text
unfolding is_name_text
name_text text h =
    let outer = both (nat_le 1 (length text) && nat_le (length text) 64) (list_all is_name_byte text) h in
    let inner = both (nat_le 1 (length text)) (nat_le (length text) 64) outer.0 in
    record { some = let some = most_is 1 (length text) inner.0 in omega arith; few = most_is (length text) 64 inner.1; bytes = outer.1 }

pub word_of_name : (c : ℕ) → is_name_byte c ≡ true → word_byte c ≡ true
unfolding is_name_byte
word_of_name c h = grind (arith, nat_tests)

pub words_of_name : (text : List ℕ) → list_all is_name_byte text ≡ true → list_all word_byte text ≡ true
words_of_name [] h = refl
words_of_name (c ∷ cs) h = let parts = both (is_name_byte c) (list_all is_name_byte cs) h in join (word_byte c) (list_all word_byte cs) (word_of_name c parts.0) (words_of_name cs parts.1)

pub name_word : (text : List ℕ) → IsNameText text → IsWord text
name_word text h = record { some = h.some; bytes = words_of_name text h.bytes }
