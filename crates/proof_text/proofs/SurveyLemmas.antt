-- Tests of the tokens up to a `0`, one token after the other.
use Rattle.std.proofs.Common.{◌≡◌, ℕ, Bool, true, false, List, ◌∷◌, [], cond, refl, ap, sym, ◌∙◌}
use Rattle.std.specs.Prelude.{◌&&◌, ◌||◌}
use Rattle.std.specs.List.{list_all, list_any}
use Rattle.des_base.proofs.BoolLemmas.{and_assoc, or_assoc}
use Rattle.proof_text.specs.SignedNumbers.{is_zero}
use Rattle.proof_text.specs.LratText.{Cut, cut, with_token, cut_at_zero}

pub cut_step : (b : Bool) (token : List ℕ) (rest : List (List ℕ)) → b ≡ false → cond b (cut [] true rest) (with_token token (cut_at_zero rest)) ≡ with_token token (cut_at_zero rest)
cut_step true token rest h = cc
cut_step false token rest h = refl

-- another token in front doesn't end the section
pub cut_at_zero-more : (token : List ℕ) (rest now : List (List ℕ)) → now ≡ token ∷ rest → is_zero token ≡ false → cut_at_zero now ≡ with_token token (cut_at_zero rest)
cut_at_zero-more token rest now h zero = ap cut_at_zero h ∙ cut_step (is_zero token) token rest zero

pub any_more : (test : List ℕ → Bool) (seen with_it : Bool) (token : List ℕ) (here rest : Cut) (all : Bool) → here ≡ with_token token rest → with_it ≡ (seen || test token)
    → (seen || list_any test here.front) ≡ all → (with_it || list_any test rest.front) ≡ all
any_more test seen with_it token here rest all h w a =
    ap (λ b. b || list_any test rest.front) w
    ∙ sym (or_assoc seen (test token) (list_any test rest.front))
    ∙ sym (ap (λ (c : Cut). seen || list_any test c.front) h)
    ∙ a

pub all_more : (test : List ℕ → Bool) (seen with_it : Bool) (token : List ℕ) (here rest : Cut) (all : Bool) → here ≡ with_token token rest → with_it ≡ (seen && test token)
    → (seen && list_all test here.front) ≡ all → (with_it && list_all test rest.front) ≡ all
all_more test seen with_it token here rest all h w a =
    ap (λ b. b && list_all test rest.front) w
    ∙ and_assoc seen (test token) (list_all test rest.front)
    ∙ sym (ap (λ (c : Cut). seen && list_all test c.front) h)
    ∙ a
