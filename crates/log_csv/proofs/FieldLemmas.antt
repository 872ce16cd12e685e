-- The fields of a record, by their places.
use Rattle.std.proofs.Common.{◌≡◌, ◌+◌, ℕ, zero, suc, true, cond, ◌&&◌, List, [], ◌∷◌, drop, Some, None, refl, arith, ap, sym, ◌∙◌}
use Rattle.csv.specs.Records.{field_at}
use Rattle.log_csv.specs.Records.{are_empty, is_empty_field, record_keyword, record_by_word, record_with, two_fields}

more : (i : ℕ) → suc (i + 1) ≡ suc i + 1
more i = omega arith

pub field_at-drop : (fields : List (List ℕ)) (i : ℕ) (field : List ℕ) → field_at fields i ≡ Some field → drop i fields ≡ field ∷ drop (i + 1) fields
unfolding field_at
field_at-drop [] i field h = cc
field_at-drop (f ∷ fs) zero field h = let e : f ≡ field = cc in ap (λ x. x ∷ fs) e
field_at-drop (f ∷ fs) (suc i) field h = field_at-drop fs i field h ∙ ap (λ n. field ∷ drop n (f ∷ fs)) (more i)

pub field_at-none : (fields : List (List ℕ)) (i : ℕ) → field_at fields i ≡ None → drop i fields ≡ []
unfolding field_at
field_at-none [] zero h = refl
field_at-none [] (suc i) h = refl
field_at-none (f ∷ fs) zero h = cc
field_at-none (f ∷ fs) (suc i) h = field_at-none fs i h

-- ---- the fields from a place on

pub are_empty-at : (fields : List (List ℕ)) (i : ℕ) (field : List ℕ) → Some field ≡ field_at fields i → are_empty (drop i fields) ≡ (is_empty_field field && are_empty (drop (i + 1) fields))
are_empty-at fields i field h = ap are_empty (field_at-drop fields i field (sym h))

later_none : (fields : List (List ℕ)) (i : ℕ) → field_at fields i ≡ None → field_at fields (i + 1) ≡ None
unfolding field_at
later_none [] i h = refl
later_none (f ∷ fs) zero h = cc
later_none (f ∷ fs) (suc i) h = ap (field_at (f ∷ fs)) (sym (more i)) ∙ later_none fs i h

pub are_empty-none : (fields : List (List ℕ)) (i : ℕ) → None ≡ field_at fields i → are_empty (drop i fields) ≡ are_empty (drop (i + 1) fields)
are_empty-none fields i h = ap are_empty (field_at-none fields i (sym h)) ∙ ap are_empty (sym (field_at-none fields (i + 1) (later_none fields i (sym h))))

-- ---- the keyword

pub keyword-none : (fields : List (List ℕ)) → None ≡ field_at fields 0 → record_by_word fields ≡ record_with None (drop 1 fields)
unfolding field_at
keyword-none [] h = refl
keyword-none (f ∷ fs) h = cc

pub keyword-some : (fields : List (List ℕ)) (text : List ℕ) → Some text ≡ field_at fields 0 → record_by_word fields ≡ record_with (record_keyword text) (drop 1 fields)
unfolding field_at
keyword-some [] text h = cc
keyword-some (f ∷ fs) text h = let e : f ≡ text = cc in ap (λ x. record_with (record_keyword x) fs) e

-- ---- two fields

pub two-none : (fields : List (List ℕ)) → None ≡ field_at fields 1 → two_fields (drop 1 fields) ≡ None
two-none fields h = ap two_fields (field_at-none fields 1 (sym h))

one_left : (fields : List (List ℕ)) → drop 2 fields ≡ [] → two_fields (drop 1 fields) ≡ None
one_left [] h = refl
one_left (a ∷ []) h = refl
one_left (a ∷ b ∷ []) h = refl
one_left (a ∷ b ∷ c ∷ fs) h = cc

pub two-one : (fields : List (List ℕ)) → None ≡ field_at fields 2 → two_fields (drop 1 fields) ≡ None
two-one fields h = one_left fields (field_at-none fields 2 (sym h))

pub two-some : (fields : List (List ℕ)) (a b : List ℕ) → Some a ≡ field_at fields 1 → Some b ≡ field_at fields 2 → two_fields (drop 1 fields) ≡ cond (are_empty (drop 3 fields)) (Some (a, b)) None
two-some fields a b h k =
    ap two_fields (field_at-drop fields 1 a (sym h) ∙ ap (λ rest. a ∷ rest) (field_at-drop fields 2 b (sym k)))

pub two-all : (fields : List (List ℕ)) (a b : List ℕ) → Some a ≡ field_at fields 1 → Some b ≡ field_at fields 2 → are_empty (drop 3 fields) ≡ true → two_fields (drop 1 fields) ≡ Some (a, b)
two-all fields a b h k e = two-some fields a b h k ∙ ap (λ t. cond t (Some (a, b)) None) e
