-- Text that is appended piece by piece.
use Rattle.std.proofs.Common.{◌≡◌, ◌<◌, ◌≤◌, ◌+◌, ◌/◌, ◌%◌, ◌^◌, ℕ, List, [], ◌∷◌, ◌++◌, length, get_or, take, ap, sym, ◌∙◌, append_assoc}
use Rattle.std.proofs.lemmas.Fmt.{decimal_step}
use Rattle.std.proofs.lemmas.List.{flat_map_more, take_more}
use Rattle.std.specs.Prelude.{flat_map}
use Rattle.std.specs.Fmt.{decimal}

-- the last digit stands behind the digits of the tenth
pub digit_behind : (old out new : List ℕ) (n : ℕ) → 10 ≤ n → n < 2 ^ 64 → out ≡ old ++ decimal (n / 10) → new ≡ out ++ (48 + n % 10) ∷ [] → new ≡ old ++ decimal n
digit_behind old out new n large small o h =
    h ∙ ap (λ l. l ++ (48 + n % 10) ∷ []) o ∙ append_assoc old (decimal (n / 10)) ((48 + n % 10) ∷ []) ∙ ap (λ l. old ++ l) (sym (decimal_step n large small))

-- one more element is printed
pub one_more : {X : Type 0} (f : X → List ℕ) (xs : List X) (k : ℕ) (x : X) (old out new : List ℕ) → k < length xs → x ≡ get_or xs k x → out ≡ old ++ flat_map f (take k xs) → new ≡ out ++ f x
    → new ≡ old ++ flat_map f (take (k + 1) xs)
one_more f xs k x old out new within is o h =
    h ∙ ap (λ l. l ++ f x) o ∙ flat_map_more f old (take k xs) x ∙ ap (λ l. old ++ flat_map f l) (ap (λ y. take k xs ++ y ∷ []) is ∙ sym (take_more xs k x within))
