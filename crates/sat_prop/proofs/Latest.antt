-- A list that is kept in a ring: where the oldest element stands the newest is put, and then the one after it is the oldest.
use Rattle.std.proofs.Common.{◌≡◌, ◌∙◌, ◌⊎◌, inl, inr, ℕ, suc, ◌+◌, ◌%◌, ◌<◌, List, [], ◌∷◌, ◌++◌, ap, sym, length, take, drop, get_or, arith}
use Rattle.std.specs.Prelude.{slice_set}
use Rattle.std.proofs.Math.Seq.{drop-cons}
use Rattle.std.proofs.lemmas.Bool.{cases_eq}
use Rattle.std.proofs.lemmas.List.{append_assoc, drop-set-lt, length-set, take_more_set}
use Rattle.std.proofs.lemmas.Grind.{common_steps}

-- the list, from the place of its oldest element on
abbrev from_place : {X : Type 0} → ℕ → List X → List X
from_place place xs = drop place xs ++ take place xs

put_next : {X : Type 0} (xs : List X) (place : ℕ) (x : X) → place < length xs → from_place (place + 1) (slice_set xs place x) ≡ drop 1 (from_place place xs) ++ x ∷ []
put_next {X} xs place x within =
    let after : suc place ≡ place + 1 = omega arith in
    let late : drop (place + 1) (slice_set xs place x) ≡ drop (place + 1) xs = drop-set-lt (place + 1) xs place x (omega arith) in
    let early : take (place + 1) (slice_set xs place x) ≡ take place xs ++ x ∷ [] = take_more_set xs place x within in
    let oldest : drop place xs ≡ get_or xs place x ∷ drop (place + 1) xs = drop-cons xs place x within ∙ ap (λ (k : ℕ). get_or xs place x ∷ drop k xs) after in
    ap (λ (zs : List X). zs ++ take (place + 1) (slice_set xs place x)) late
    ∙ ap (λ (zs : List X). drop (place + 1) xs ++ zs) early
    ∙ sym (append_assoc (drop (place + 1) xs) (take place xs) (x ∷ []))
    ∙ ap (λ (zs : List X). drop 1 (zs ++ take place xs) ++ x ∷ []) (sym oldest)

from_end : {X : Type 0} (xs : List X) (place : ℕ) → place ≡ length xs → from_place place xs ≡ from_place 0 xs
from_end xs place e = grind (arith, common_steps)

pub put_newest : {X : Type 0} (xs old : List X) (place : ℕ) (x : X) → length xs ≡ 100 → place < 100 → drop place xs ++ take place xs ≡ old →
    drop ((place + 1) % 100) (slice_set xs place x) ++ take ((place + 1) % 100) (slice_set xs place x) ≡ drop 1 old ++ x ∷ []
put_newest {X} xs old place x count within view = by (cases_eq (place + 1) 100) ∙ ap (λ (zs : List X). drop 1 zs ++ x ∷ []) view
  where
    by : (place + 1 ≡ 100) ⊎ ((place + 1 ≡ 100) → ⊥) → from_place ((place + 1) % 100) (slice_set xs place x) ≡ drop 1 (from_place place xs) ++ x ∷ []
    by (inl last) =
        let first : (place + 1) % 100 ≡ 0 = omega arith in
        ap (λ (k : ℕ). from_place k (slice_set xs place x)) first ∙ sym (from_end (slice_set xs place x) (place + 1) (last ∙ sym (length-set xs place x ∙ count))) ∙ put_next xs place x (omega arith)
    by (inr less) =
        let next : (place + 1) % 100 ≡ place + 1 = omega arith in
        ap (λ (k : ℕ). from_place k (slice_set xs place x)) next ∙ put_next xs place x (omega arith)
