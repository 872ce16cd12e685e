-- Numbers that are taken out of what is held, one after another.
use Rattle.std.proofs.Common.{◌≡◌, ◌∙◌, ℕ, ◌+◌, ◌<◌, ◌==◌, ◌++◌, ◌||◌, Bool, true, false, ◌∷◌, [], List, refl, ap, sym, length, get_or, take, None, Option, nat_eq}
use Rattle.std.specs.List.{list_any}
use Rattle.std.proofs.lemmas.List.{take_more}
use Rattle.std.proofs.lemmas.List.Folds.{list_any-append}
use Rattle.prop_core.specs.Clauses.{Clause}
use Rattle.proof_ledger.specs.Checking.{without}

-- one more number is taken out
pub without_more : (held now next : ℕ → Option Clause) (numbers : List ℕ) (i number d : ℕ) → i < length numbers → number ≡ get_or numbers i d → ((k : ℕ) → now k ≡ without held (take i numbers) k) → ((k : ℕ) → next k ≡ without now (number ∷ []) k)
    → (k : ℕ) → next k ≡ without held (take (i + 1) numbers) k
without_more held now next numbers i number d h e before after k = after k ∙ by (k == number) refl (list_any (nat_eq k) (take i numbers)) refl
  where
    more : list_any (nat_eq k) (take (i + 1) numbers) ≡ (list_any (nat_eq k) (take i numbers) || list_any (nat_eq k) (number ∷ []))
    more = ap (list_any (nat_eq k)) (take_more numbers i d h ∙ ap (λ n. take i numbers ++ n ∷ []) (sym e)) ∙ list_any-append (nat_eq k) (take i numbers) (number ∷ [])

    by : (s : Bool) → (k == number) ≡ s → (t : Bool) → list_any (nat_eq k) (take i numbers) ≡ t → without now (number ∷ []) k ≡ without held (take (i + 1) numbers) k
    by true a true b = rw (more, b, a) refl
    by true a false b = rw (more, b, a) refl
    by false a true b = let kept : now k ≡ None = before k ∙ rw b refl in rw (more, b, a) kept
    by false a false b = let kept : now k ≡ held k = before k ∙ rw b refl in rw (more, b, a) kept
