-- A line of a proof has no code exactly if its step is read.
use Rattle.std.proofs.Common.{◌≡◌, ℕ, Bool, true, false, List, [], ◌∷◌, Option, None, Some, cond, refl, arith, ap, ◌∙◌}
use Rattle.std.proofs.lemmas.Bool.Decides.{nat_tests}
use Rattle.std.specs.Prelude.{◌&&◌, ◌==◌, not, nat_lt, nat_le, is_some, option_map, option_and_then, unwrap_or}
use Rattle.std.specs.List.{list_all, list_any}
use Rattle.des_base.proofs.BoolLemmas.{both, join, neither, not_false, not_true}
use Rattle.des_base.specs.Numbers.{number_of, number_up_to, up_to}
use Rattle.proof_text.specs.SignedNumbers.{Signed, plain, behind_minus, is_number, size_of, is_negative, is_zero}
use Rattle.proof_text.specs.LratText.{cut, with_token, cut_at_zero, greatest, is_too_large, is_unsigned, some_rest, first_lrat_code}
use Rattle.proof_text.specs.LineReading.{is_id, is_known_literal}
use Rattle.std.proofs.lemmas.Bool.{or_from}

-- ---- the number of a line

abbrev id_in : Option Signed → Bool
id_in o = (is_some o && not (unwrap_or o (plain 0)).negative) && not (nat_lt greatest (unwrap_or o (plain 0)).size)

abbrev id_of : Option Signed → Option ℕ
id_of o = cond (id_in o) (Some (unwrap_or o (plain 0)).size) None

minus_step : (zero : Bool) (n : ℕ) → None ≡ id_of (cond zero None (Some (record { negative = true; size = n })))
minus_step true n = refl
minus_step false n = refl

minus_is_none : (o : Option ℕ) → None ≡ id_of (option_and_then behind_minus o)
minus_is_none None = refl
minus_is_none (Some n) = minus_step (n == 0) n

at_most : (n : ℕ) → nat_le n greatest ≡ not (nat_lt greatest n)
at_most n = grind (arith, nat_tests)

plain_is_up_to : (o : Option ℕ) → up_to greatest o ≡ id_of (option_map plain o)
plain_is_up_to None = refl
plain_is_up_to (Some n) = ap (λ b. cond b (Some n) None) (at_most n)

pub minus_spells_none : (cs : List ℕ) → number_of (45 ∷ cs) ≡ None
minus_spells_none [] = refl
minus_spells_none (c ∷ cs) = refl

sign_step : (minus : Bool) (c : ℕ) (cs : List ℕ) → (c == 45) ≡ minus → number_up_to greatest (c ∷ cs) ≡ id_of (cond minus (option_and_then behind_minus (number_of cs)) (option_map plain (number_of (c ∷ cs))))
sign_step true c cs h = let e : c ≡ 45 = grind (arith, nat_tests) in ap (λ d. up_to greatest (number_of (d ∷ cs))) e ∙ ap (up_to greatest) (minus_spells_none cs) ∙ minus_is_none (number_of cs)
sign_step false c cs h = plain_is_up_to (number_of (c ∷ cs))

pub id_is_read : (text : List ℕ) → number_up_to greatest text ≡ cond (is_id text) (Some (size_of text)) None
id_is_read [] = refl
id_is_read (c ∷ cs) = sign_step (c == 45) c cs refl

-- ---- tests of all tokens

-- a number, not negative and not too large
pub id_passes : (token : List ℕ) → is_number token ≡ true → is_negative token ≡ false → is_too_large token ≡ false → is_id token ≡ true
id_passes token number negative large = join (is_unsigned token) (not (is_too_large token)) (join (is_number token) (not (is_negative token)) number (not_false (is_negative token) negative)) (not_false (is_too_large token) large)

pub record IsIdToken (token : List ℕ) : Type 0 where
  pub number : is_number token ≡ true
  pub negative : is_negative token ≡ false
  pub large : is_too_large token ≡ false

pub id_token : (token : List ℕ) → is_id token ≡ true → IsIdToken token
id_token token h =
    let parts = both (is_unsigned token) (not (is_too_large token)) h in
    let signs = both (is_number token) (not (is_negative token)) parts.0 in
    record { number = signs.0; negative = not_true (is_negative token) signs.1; large = not_true (is_too_large token) parts.1 }

pub ids_pass : (tokens : List (List ℕ)) → list_any is_too_large tokens ≡ false → list_all is_number tokens ≡ true → list_any is_negative tokens ≡ false → list_all is_id tokens ≡ true
ids_pass [] large number negative = refl
ids_pass (token ∷ tokens) large number negative =
    let l = neither (is_too_large token) (list_any is_too_large tokens) large in
    let n = both (is_number token) (list_all is_number tokens) number in
    let s = neither (is_negative token) (list_any is_negative tokens) negative in
    join (is_id token) (list_all is_id tokens) (id_passes token n.0 s.0 l.0) (ids_pass tokens l.1 n.1 s.1)

pub record AreIds (tokens : List (List ℕ)) : Type 0 where
  pub large : list_any is_too_large tokens ≡ false
  pub number : list_all is_number tokens ≡ true
  pub negative : list_any is_negative tokens ≡ false

pub are_ids : (tokens : List (List ℕ)) → list_all is_id tokens ≡ true → AreIds tokens
are_ids [] h = record { large = refl; number = refl; negative = refl }
are_ids (token ∷ tokens) h =
    let parts = both (is_id token) (list_all is_id tokens) h in
    let here = id_token token parts.0 in
    let rest = are_ids tokens parts.1 in
    record {
      large = or_from (is_too_large token) (list_any is_too_large tokens) here.large rest.large;
      number = join (is_number token) (list_all is_number tokens) here.number rest.number;
      negative = or_from (is_negative token) (list_any is_negative tokens) here.negative rest.negative;
    }

pub known_pass : (vars : ℕ) (tokens : List (List ℕ)) → list_all is_number tokens ≡ true → list_any (λ token. nat_lt vars (size_of token)) tokens ≡ false → list_all (is_known_literal vars) tokens ≡ true
known_pass vars [] number unknown = refl
known_pass vars (token ∷ tokens) number unknown =
    let n = both (is_number token) (list_all is_number tokens) number in
    let u = neither (nat_lt vars (size_of token)) (list_any (λ token. nat_lt vars (size_of token)) tokens) unknown in
    join (is_known_literal vars token) (list_all (is_known_literal vars) tokens) (join (is_number token) (not (nat_lt vars (size_of token))) n.0 (not_false (nat_lt vars (size_of token)) u.0)) (known_pass vars tokens n.1 u.1)

pub record AreKnown (vars : ℕ) (tokens : List (List ℕ)) : Type 0 where
  pub number : list_all is_number tokens ≡ true
  pub unknown : list_any (λ token. nat_lt vars (size_of token)) tokens ≡ false

pub are_known : (vars : ℕ) (tokens : List (List ℕ)) → list_all (is_known_literal vars) tokens ≡ true → AreKnown vars tokens
are_known vars [] h = record { number = refl; unknown = refl }
are_known vars (token ∷ tokens) h =
    let parts = both (is_known_literal vars token) (list_all (is_known_literal vars) tokens) h in
    let here = both (is_number token) (not (nat_lt vars (size_of token))) parts.0 in
    let rest = are_known vars tokens parts.1 in
    record {
      number = join (is_number token) (list_all is_number tokens) here.0 rest.number;
      unknown = or_from (nat_lt vars (size_of token)) (list_any (λ token. nat_lt vars (size_of token)) tokens) (not_true (nat_lt vars (size_of token)) here.1) rest.unknown;
    }

pub nothing_numbers : (rest : List (List ℕ)) → some_rest rest ≡ false → list_all is_number rest ≡ true
nothing_numbers [] h = refl
nothing_numbers (token ∷ tokens) h = cc

unended_step : (b : Bool) (token : List ℕ) (rest : List (List ℕ)) → ((cut_at_zero rest).ended ≡ false → (cut_at_zero rest).behind ≡ [])
    → (cond b (cut [] true rest) (with_token token (cut_at_zero rest))).ended ≡ false → (cond b (cut [] true rest) (with_token token (cut_at_zero rest))).behind ≡ []
unended_step true token rest h e = cc
unended_step false token rest h e = h e

unended_behind : (tokens : List (List ℕ)) → (cut_at_zero tokens).ended ≡ false → (cut_at_zero tokens).behind ≡ []
unended_behind [] h = refl
unended_behind (token ∷ tokens) h = unended_step (is_zero token) token tokens (unended_behind tokens) h

-- the first 0 is there where the second is
pub first_ended : (b : Bool) (tokens : List (List ℕ)) → (cut_at_zero tokens).ended ≡ b → (cut_at_zero (cut_at_zero tokens).behind).ended ≡ true → b ≡ true
first_ended true tokens e h = refl
first_ended false tokens e h = let k : (cut_at_zero (cut_at_zero tokens).behind).ended ≡ false = ap (λ ts. (cut_at_zero ts).ended) (unended_behind tokens e) in cc

-- ---- codes

pub record NoneOf (large strange unended low unknown negative : Bool) : Type 0 where
  pub not_large : large ≡ false
  pub not_strange : strange ≡ false
  pub not_unended : unended ≡ false
  pub not_low : low ≡ false
  pub not_unknown : unknown ≡ false
  pub not_negative : negative ≡ false

pub none_of : (a b c d e f : Bool) → first_lrat_code a b c d e f ≡ None → NoneOf a b c d e f
none_of true b c d e f h = cc
none_of false true c d e f h = cc
none_of false false true d e f h = cc
none_of false false false true e f h = cc
none_of false false false false true f h = cc
none_of false false false false false true h = cc
none_of false false false false false false h = record { not_large = refl; not_strange = refl; not_unended = refl; not_low = refl; not_unknown = refl; not_negative = refl }

pub no_code : (a b c d e f : Bool) → NoneOf a b c d e f → first_lrat_code a b c d e f ≡ None
no_code a b c d e f h = (λ i. first_lrat_code (h.not_large i) (h.not_strange i) (h.not_unended i) (h.not_low i) (h.not_unknown i) (h.not_negative i))
