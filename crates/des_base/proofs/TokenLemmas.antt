-- The tokens of a line, one after another.
use Rattle.std.proofs.Common.{◌≡◌, ◌<◌, ◌+◌, ℕ, suc, Bool, true, false, List, [], ◌∷◌, length, take, drop, cond, refl, arith, ap, sym, ◌∙◌, subst}
use Rattle.std.proofs.lemmas.Bool.Decides.{nat_tests}
use Rattle.std.specs.Prelude.{not, filter, nat_lt}
use Rattle.std.specs.List.{prefix_len}
use Rattle.des_base.specs.CountedLines.{is_blank, PlacedToken, placed, pieces_from, tokens_from}

abbrev pub blank_len : List ℕ → ℕ
blank_len xs = prefix_len is_blank xs

abbrev pub word_len : List ℕ → ℕ
word_len xs = prefix_len (λ byte. not (is_blank byte)) xs

abbrev is_token : PlacedToken → Bool
is_token piece = nat_lt 0 (length piece.text)

one_more : (n : ℕ) → suc n ≡ 1 + n
one_more n = omega arith

blanks_step : (b : Bool) (start x : ℕ) (xs : List ℕ) (n : ℕ) → is_blank x ≡ b → tokens_from (start + 1) xs ≡ tokens_from (start + 1 + n) (drop n xs) → tokens_from start (x ∷ xs) ≡ tokens_from (start + cond b (1 + n) 0) (drop (cond b (1 + n) 0) (x ∷ xs))
blanks_step true start x xs n e h =
    subst (λ m. tokens_from start (x ∷ xs) ≡ tokens_from (start + m) (drop m (x ∷ xs))) (one_more n)
    (rw e (h ∙ ap (λ s. tokens_from s (drop n xs)) (omega arith)))
blanks_step false start x xs n e h = ap (λ s. tokens_from s (x ∷ xs)) (omega arith)

-- no token begins before the first byte that isn't blank
pub tokens_from-blanks : (start : ℕ) (xs : List ℕ) → tokens_from start xs ≡ tokens_from (start + blank_len xs) (drop (blank_len xs) xs)
tokens_from-blanks start [] = refl
tokens_from-blanks start (x ∷ xs) = blanks_step (is_blank x) start x xs (blank_len xs) refl (tokens_from-blanks (start + 1) xs)

-- the pieces after the blank that ends a word, where there is one
abbrev after_blank : ℕ → List ℕ → List PlacedToken
after_blank start [] = []
after_blank start (x ∷ xs) = pieces_from (start + 1) xs

word_step : (b : Bool) (start x : ℕ) (xs : List ℕ) (n : ℕ) → is_blank x ≡ b → pieces_from (start + 1) xs ≡ placed (start + 1) (take n xs) ∷ after_blank (start + 1 + n) (drop n xs)
    → pieces_from start (x ∷ xs) ≡ placed start (take (cond (not b) (1 + n) 0) (x ∷ xs)) ∷ after_blank (start + cond (not b) (1 + n) 0) (drop (cond (not b) (1 + n) 0) (x ∷ xs))
word_step true start x xs n e h = rw e (ap (λ s. placed start [] ∷ pieces_from (s + 1) xs) (omega arith))
word_step false start x xs n e h =
    subst (λ m. pieces_from start (x ∷ xs) ≡ placed start (take m (x ∷ xs)) ∷ after_blank (start + m) (drop m (x ∷ xs))) (one_more n)
    (rw (e, h) (ap (λ s. placed start (x ∷ take n xs) ∷ after_blank s (drop n xs)) (omega arith)))

pieces_from-word : (start : ℕ) (xs : List ℕ) → pieces_from start xs ≡ placed start (take (word_len xs) xs) ∷ after_blank (start + word_len xs) (drop (word_len xs) xs)
pieces_from-word start [] = refl
pieces_from-word start (x ∷ xs) = word_step (is_blank x) start x xs (word_len xs) refl (pieces_from-word (start + 1) xs)

ended_step : (b : Bool) (start x : ℕ) (xs : List ℕ) (n : ℕ) → is_blank x ≡ b → tokens_from start (drop n xs) ≡ filter is_token (after_blank start (drop n xs))
    → tokens_from start (drop (cond (not b) (1 + n) 0) (x ∷ xs)) ≡ filter is_token (after_blank start (drop (cond (not b) (1 + n) 0) (x ∷ xs)))
ended_step true start x xs n e h = rw e refl
ended_step false start x xs n e h =
    subst (λ m. tokens_from start (drop m (x ∷ xs)) ≡ filter is_token (after_blank start (drop m (x ∷ xs)))) (one_more n) h

-- what ends a word gives no token
tokens_from-ended : (start : ℕ) (xs : List ℕ) → tokens_from start (drop (word_len xs) xs) ≡ filter is_token (after_blank start (drop (word_len xs) xs))
tokens_from-ended start [] = refl
tokens_from-ended start (x ∷ xs) = ended_step (is_blank x) start x xs (word_len xs) refl (tokens_from-ended start xs)

first_step : (n : ℕ) (token : PlacedToken) (tokens : List PlacedToken) → 0 < n → cond (nat_lt 0 n) (token ∷ tokens) tokens ≡ token ∷ tokens
first_step n token tokens h = grind (arith, nat_tests)

-- a word in front is the first token
pub tokens_from-word : (start : ℕ) (xs : List ℕ) → 0 < length (take (word_len xs) xs)
    → tokens_from start xs ≡ placed start (take (word_len xs) xs) ∷ tokens_from (start + word_len xs) (drop (word_len xs) xs)
tokens_from-word start xs h =
    ap (filter is_token) (pieces_from-word start xs)
    ∙ first_step _ _ _ h
    ∙ ap (λ tokens. placed start (take (word_len xs) xs) ∷ tokens) (sym (tokens_from-ended (start + word_len xs) xs))

-- there is no word in front
abbrev NoWord : List ℕ → Type 0
NoWord xs = length (take (word_len xs) xs) ≡ 0

word_first : (n x : ℕ) (xs : List ℕ) → length (take (1 + n) (x ∷ xs)) ≡ 0 → ⊥
word_first n x xs h = let k : suc (length (take n xs)) ≡ 0 = subst (λ m. length (take m (x ∷ xs)) ≡ 0) (sym (one_more n)) h in omega arith

nothing_step : (b : Bool) (x : ℕ) (xs : List ℕ) → is_blank x ≡ b → (NoWord (drop (blank_len xs) xs) → drop (blank_len xs) xs ≡ [])
    → NoWord (drop (cond b (1 + blank_len xs) 0) (x ∷ xs)) → drop (cond b (1 + blank_len xs) 0) (x ∷ xs) ≡ []
nothing_step true x xs e h none = subst (λ m. NoWord (drop m (x ∷ xs)) → drop m (x ∷ xs) ≡ []) (one_more (blank_len xs)) h none
nothing_step false x xs e h none = absurd (word_first (word_len xs) x xs (rw e at none))

-- behind the blanks there is a word or nothing
drop_blanks-none : (xs : List ℕ) → NoWord (drop (blank_len xs) xs) → drop (blank_len xs) xs ≡ []
drop_blanks-none [] h = refl
drop_blanks-none (x ∷ xs) h = nothing_step (is_blank x) x xs refl (drop_blanks-none xs) h

-- a line's rest is cut into blanks, the bytes from there on, a word, and what follows it
pub record IsCut (xs blanks behind text rest : List ℕ) : Type 0 where
  pub front : length blanks ≡ blank_len xs
  pub behind_is : behind ≡ drop (blank_len xs) xs
  pub long : length text ≡ word_len behind
  pub text_is : text ≡ take (word_len behind) behind
  pub rest_is : rest ≡ drop (word_len behind) behind

pub cut_at : (xs blanks behind text rest : List ℕ) (b w : ℕ) → b ≡ blank_len xs → length blanks ≡ b → behind ≡ drop b xs
    → w ≡ word_len behind → length text ≡ w → text ≡ take w behind → rest ≡ drop w behind → IsCut xs blanks behind text rest
cut_at xs blanks behind text rest b w b_is front behind_is w_is long text_is rest_is =
    record {
      front = front ∙ b_is;
      behind_is = behind_is ∙ ap (λ n. drop n xs) b_is;
      long = long ∙ w_is;
      text_is = text_is ∙ ap (λ n. take n behind) w_is;
      rest_is = rest_is ∙ ap (λ n. drop n behind) w_is;
    }

pub tokens_from-some : (start : ℕ) (xs blanks behind text rest : List ℕ) → IsCut xs blanks behind text rest → 0 < length text
    → tokens_from start xs ≡ placed (start + length blanks) text ∷ tokens_from (start + length blanks + length text) rest
tokens_from-some start xs blanks behind text rest cut h =
    tokens_from-blanks start xs
    ∙ (λ i. tokens_from (start + sym cut.front i) (sym cut.behind_is i))
    ∙ tokens_from-word (start + length blanks) behind (subst (λ t. 0 < length t) cut.text_is h)
    ∙ (λ i. placed (start + length blanks) (sym cut.text_is i) ∷ tokens_from (start + length blanks + sym cut.long i) (sym cut.rest_is i))

nothing_behind : (xs blanks behind text rest : List ℕ) → IsCut xs blanks behind text rest → length text ≡ 0 → drop (blank_len xs) xs ≡ []
nothing_behind xs blanks behind text rest cut h = drop_blanks-none xs (subst NoWord cut.behind_is (subst (λ t. length t ≡ 0) cut.text_is h))

pub tokens_from-none : (start : ℕ) (xs blanks behind text rest : List ℕ) → IsCut xs blanks behind text rest → length text ≡ 0 → tokens_from start xs ≡ []
tokens_from-none start xs blanks behind text rest cut h =
    tokens_from-blanks start xs ∙ ap (tokens_from (start + blank_len xs)) (nothing_behind xs blanks behind text rest cut h)

pub tokens_from-none_left : (start : ℕ) (xs blanks behind text rest : List ℕ) → IsCut xs blanks behind text rest → length text ≡ 0 → tokens_from start rest ≡ []
tokens_from-none_left start xs blanks behind text rest cut h =
    ap (tokens_from start) (cut.rest_is ∙ ap (λ l. drop (word_len l) l) (cut.behind_is ∙ nothing_behind xs blanks behind text rest cut h))
