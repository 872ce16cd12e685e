-- Names as words of a line, and the places of distinct names.
use Rattle.std.proofs.Common.{◌≡◌, ◌<◌, ℕ, zero, suc, true, false, List, [], ◌∷◌, ◌++◌, length, Some, None, cond, refl, arith, ap}
use Rattle.std.proofs.lemmas.Bool.Decides.{nat_tests}
use Rattle.std.proofs.lemmas.Slice.Eq.{bytes_eq-Decides}
use Rattle.std.specs.Prelude.{◌==◌, bytes_eq, codes, option_map, slice_index_or}
use Rattle.std.specs.List.{list_all, AllByRecursion}
use Rattle.des_base.proofs.BoolLemmas.{both, otherwise}
use Rattle.des_base.proofs.PlaceLemmas.{text_turned, text_itself, place_next, none_parts}
use Rattle.des_base.proofs.PrintedLines.{IsNameText}
use Rattle.des_base.specs.CountedLines.{is_blank, is_counted}
use Rattle.des_base.specs.Names.{AreDistinct, IsName, is_name_byte, is_name_text, place_of}
use Rattle.replay.specs.RunText.{is_false_alarm_mark}

-- ---- words

not_blank : (c : ℕ) → is_name_byte c ≡ true → is_blank c ≡ false
unfolding is_name_byte
not_blank c h = grind (arith, nat_tests)

no_comment : (c : ℕ) → is_name_byte c ≡ true → (c == 35) ≡ false
unfolding is_name_byte
no_comment c h = grind (arith, nat_tests)

first_counts : (c : ℕ) (rest : List ℕ) → is_name_byte c ≡ true → is_counted 35 (c ∷ rest) ≡ true
first_counts c rest h = rw (not_blank c h, no_comment c h) refl

-- a line that begins with a name counts, where `#` begins comments
pub name_counts : (text rest : List ℕ) → IsNameText text → is_counted 35 (text ++ rest) ≡ true
name_counts [] rest h = let some : 0 < length {A = ℕ} [] = h.some in absurd (omega arith)
name_counts (c ∷ cs) rest h = first_counts c (cs ++ rest) (both (is_name_byte c) (list_all is_name_byte cs) h.bytes).0

-- ---- places

-- a text that has no place is not at any
other_text : (text : List ℕ) (names : List (List ℕ)) (k : ℕ) → k < length names → place_of text names ≡ None → bytes_eq (slice_index_or names k []) text ≡ false
other_text text [] k l h = absurd (omega arith)
other_text text (name ∷ names) zero l h = text_turned text name (none_parts (bytes_eq text name) (place_of text names) h).0
other_text text (name ∷ names) (suc k) l h = other_text text names k (omega arith) (none_parts (bytes_eq text name) (place_of text names) h).1

-- each of distinct names has its own place
pub own_place : (names : List (List ℕ)) (k : ℕ) → AreDistinct names → k < length names → place_of (slice_index_or names k []) names ≡ Some k
own_place [] k distinct l = absurd (omega arith)
own_place (name ∷ names) zero distinct l = ap (λ b. cond b (Some 0) (option_map suc (place_of name names))) (text_itself name)
own_place (name ∷ names) (suc k) distinct l =
    place_next (bytes_eq (slice_index_or names k []) name) (place_of (slice_index_or names k []) names) k
    (other_text name names k (omega arith) distinct.0) (own_place names k distinct.1 (omega arith))

-- a name isn't the mark of a false alarm
pub no_mark : (text : List ℕ) → is_name_text text ≡ true → is_false_alarm_mark text ≡ false
unfolding is_name_text is_name_byte
no_mark text h = otherwise (is_false_alarm_mark text) (λ marked.
    let same : text ≡ codes "!" = (bytes_eq-Decides text (codes "!")).0 marked in
    let no_name : is_name_text text ≡ false = ap is_name_text same in
    cc)

-- what is true of each name is true at each place
pub name_at : (names : List (List ℕ)) (k : ℕ) → AllByRecursion IsName names → k < length names → is_name_text (slice_index_or names k []) ≡ true
name_at [] k h l = absurd (omega arith)
name_at (name ∷ names) zero h l = h.0
name_at (name ∷ names) (suc k) h l = name_at names k h.1 (omega arith)
