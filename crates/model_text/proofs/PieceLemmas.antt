-- A part of an event, by the dots of its token.
use Rattle.std.proofs.Common.{◌≡◌, ◌<◌, ◌≤◌, ℕ, Bool, List, [], ◌∷◌, ◌++◌, length, take, drop, Option, None, Some, refl, arith, ap, sym, ◌∙◌, subst, append_assoc}
use Rattle.std.specs.Prelude.{◌==◌, map, option_map, option_and_then}
use Rattle.std.specs.List.{position_or_len}
use Rattle.std.proofs.lemmas.List.{take_all}
use Rattle.std.proofs.lemmas.Grind.{common_steps}
use Rattle.des_base.proofs.PieceLemmas.{after_cut, slice_split-piece}
use Rattle.std.proofs.lemmas.List.{map-append}
use Rattle.model_text.specs.declared.part_name.PartName.{PartName}
use Rattle.model_text.specs.ModelLines.{NamedPart, part_of_token, part_of_pieces, parts_of_tokens}
use Rattle.model_text.specs.Shapes.{part_said}

abbrev is_dot : ℕ → Bool
is_dot byte = byte == 46

abbrev dot_place : List ℕ → ℕ
dot_place text = position_or_len is_dot text

three : (c a rest : List ℕ) → 0 < length rest → part_of_pieces (c ∷ a ∷ after_cut is_dot rest) ≡ None
three c a [] h = absurd (omega arith)
three c a (x ∷ xs) h = ap (λ ps. part_of_pieces (c ∷ a ∷ ps)) (slice_split-piece is_dot xs)

left_over : (n : ℕ) (xs : List ℕ) → n < length xs → 0 < length (drop n xs)
left_over n xs h = grind (arith, common_steps)

nothing_left : (n : ℕ) (xs : List ℕ) → length xs ≤ n → drop n xs ≡ []
nothing_left n xs h = grind (arith, common_steps)

-- without a dot it is no part
no_dot : (c rest : List ℕ) → length rest < 1 → part_of_pieces (c ∷ after_cut is_dot rest) ≡ None
no_dot c [] h = refl
no_dot c (x ∷ xs) h = absurd (omega arith)

-- with a second dot it is none either
two_dots : (c rest : List ℕ) → 1 ≤ length rest → dot_place (drop 1 rest) < length (drop 1 rest) → part_of_pieces (c ∷ after_cut is_dot rest) ≡ None
two_dots c [] some h = absurd (omega arith)
two_dots c (x ∷ action) some h =
    ap (λ ps. part_of_pieces (c ∷ ps)) (slice_split-piece is_dot action) ∙ three c (take (dot_place action) action) (drop (dot_place action) action) (left_over (dot_place action) action h)

-- with exactly one it is what stands on its two sides
one_dot : (c rest : List ℕ) → 1 ≤ length rest → length (drop 1 rest) ≤ dot_place (drop 1 rest) → part_of_pieces (c ∷ after_cut is_dot rest) ≡ Some (record { component = c; action = drop 1 rest })
one_dot c [] some h = absurd (omega arith)
one_dot c (x ∷ action) some h =
    ap (λ ps. part_of_pieces (c ∷ ps)) (slice_split-piece is_dot action
    ∙ ap (λ r. take (dot_place action) action ∷ after_cut is_dot r) (nothing_left (dot_place action) action h)
    ∙ ap (λ a. a ∷ []) (take_all (dot_place action) action h))

cut : (token c rest : List ℕ) (n : ℕ) → n ≡ dot_place token → c ≡ take n token → rest ≡ drop n token → part_of_token token ≡ part_of_pieces (c ∷ after_cut is_dot rest)
cut token c rest n is front back =
    ap part_of_pieces (slice_split-piece is_dot token ∙ ap (λ k. take k token ∷ after_cut is_dot (drop k token)) (sym is) ∙ ap (λ r. take n token ∷ after_cut is_dot r) (sym back) ∙ ap (λ x. x ∷ after_cut is_dot rest) (sym front))

pub part_of_token-no_dot : (token c rest : List ℕ) (n : ℕ) → n ≡ dot_place token → c ≡ take n token → rest ≡ drop n token → length rest < 1 → part_of_token token ≡ None
part_of_token-no_dot token c rest n is front back h = cut token c rest n is front back ∙ no_dot c rest h

pub part_of_token-two_dots : (token c rest action : List ℕ) (n m : ℕ) → n ≡ dot_place token → c ≡ take n token → rest ≡ drop n token → 1 ≤ length rest → action ≡ drop 1 rest → m ≡ dot_place action → m < length action → part_of_token token ≡ None
part_of_token-two_dots token c rest action n m is front back some behind at h =
    cut token c rest n is front back ∙ two_dots c rest some (subst (λ a. dot_place a < length a) behind (subst (λ k. k < length action) at h))

pub part_of_token-one_dot : (token c rest action : List ℕ) (n m : ℕ) → n ≡ dot_place token → c ≡ take n token → rest ≡ drop n token → 1 ≤ length rest → action ≡ drop 1 rest → m ≡ dot_place action → length action ≤ m
    → part_of_token token ≡ Some (record { component = c; action = action })
part_of_token-one_dot token c rest action n m is front back some behind at h =
    cut token c rest n is front back ∙ one_dot c rest some (subst (λ a. length a ≤ dot_place a) behind (subst (λ k. length action ≤ k) at h))
    ∙ ap (λ a. Some (record { component = c; action = a })) (sym behind)

-- the parts that tokens name, after these
abbrev pub more_parts : List NamedPart → List (List ℕ) → Option (List NamedPart)
more_parts read tokens = option_map (λ parts. read ++ parts) (parts_of_tokens tokens)

moved : (read : List NamedPart) (part : NamedPart) (rest : Option (List NamedPart)) → option_map (λ parts. read ++ parts) (option_map (λ parts. part ∷ parts) rest) ≡ option_map (λ parts. (read ++ part ∷ []) ++ parts) rest
moved read part None = refl
moved read part (Some parts) = ap Some (sym (append_assoc read (part ∷ []) parts))

-- one more token names a part
pub more_parts-next : (read : List PartName) (part : PartName) (token : List ℕ) (tokens : List (List ℕ)) → part_of_token token ≡ Some (part_said part)
    → more_parts (map part_said read) (token ∷ tokens) ≡ more_parts (map part_said (read ++ part ∷ [])) tokens
more_parts-next read part token tokens is =
    ap (λ o. option_map (λ parts. map part_said read ++ parts) (option_and_then (λ y. option_map (λ ys. y ∷ ys) (parts_of_tokens tokens)) o)) is
    ∙ moved (map part_said read) (part_said part) (parts_of_tokens tokens)
    ∙ ap (λ ps. more_parts ps tokens) (sym (map-append part_said read (part ∷ [])))

-- a token names no part
pub more_parts-none : (read : List NamedPart) (token : List ℕ) (tokens : List (List ℕ)) → part_of_token token ≡ None → more_parts read (token ∷ tokens) ≡ None
more_parts-none read token tokens is = ap (λ o. option_map (λ parts. read ++ parts) (option_and_then (λ y. option_map (λ ys. y ∷ ys) (parts_of_tokens tokens)) o)) is

pub ruleset part_pieces = (part_of_token-no_dot, part_of_token-two_dots, part_of_token-one_dot)

pub ruleset part_tokens = (more_parts-next, more_parts-none)
