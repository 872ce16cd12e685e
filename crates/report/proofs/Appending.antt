-- Texts that are appended one after the other.
use Rattle.std.proofs.Common.{◌≡◌, ◌∙◌, ℕ, List, ◌++◌, Result, Ok, Err, OnOk, ap, sym, append_assoc}

-- two parts are one
pub second_part : {A B : Type 0} (r : Result A B) (out mid new a b whole : List ℕ) → mid ≡ out ++ a → whole ≡ a ++ b → OnOk r (new ≡ mid ++ b) → OnOk r (new ≡ out ++ whole)
second_part (Ok x) out mid new a b whole one is h = h ∙ ap (λ xs. xs ++ b) one ∙ append_assoc out a b ∙ ap (λ xs. out ++ xs) (sym is)
second_part (Err e) out mid new a b whole one is h = tt
