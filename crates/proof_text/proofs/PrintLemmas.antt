-- Text that is appended.
use Rattle.std.proofs.Common.{◌≡◌, ◌+◌, ◌-◌, ℕ, zero, suc, Result, Ok, Err, drop, Bool, true, false, cond, Option, None, List, [], ◌∷◌, ◌++◌, length, get_or, take, Some, refl, arith, ap, sym, ◌∙◌, append_assoc}
use Rattle.std.proofs.lemmas.Option.{slice_get_within}
use Rattle.std.proofs.lemmas.Bool.Decides.{nat_tests}
use Rattle.des_base.proofs.Appended.{one_more}
use Rattle.prop_core.specs.Clauses.{Clause}
use Rattle.prop_core.specs.Derivation.{clause_numbered}
use Rattle.std.specs.Prelude.{flat_map, slice_get, ◌==◌, OnOk}

pub pieces_4 : (old o1 o2 o3 new a b c d : List ℕ) → o1 ≡ old ++ a → o2 ≡ o1 ++ b → o3 ≡ o2 ++ c → new ≡ o3 ++ d → new ≡ old ++ (((a ++ b) ++ c) ++ d)
pieces_4 old o1 o2 o3 new a b c d h1 h2 h3 h4 =
    h4
    ∙ ap (λ l. l ++ d) (h3 ∙ ap (λ l. l ++ c) (h2 ∙ ap (λ l. l ++ b) h1))
    ∙ simp append_assoc

slice_item : {X : Type 0} (xs : List X) (k : ℕ) (x : X) → slice_get xs k ≡ Some x → x ≡ get_or xs k x
slice_item [] k x h = cc
slice_item (y ∷ xs) zero x h = cc
slice_item (y ∷ xs) (suc k) x h = slice_item xs k x h

-- the same behind a head
pub one_more_behind : {X : Type 0} (f : X → List ℕ) (xs : List X) (k : ℕ) (x : X) (old head out new : List ℕ) → slice_get xs k ≡ Some x → out ≡ old ++ (head ++ flat_map f (take k xs)) → new ≡ out ++ f x
    → new ≡ old ++ (head ++ flat_map f (take (k + 1) xs))
one_more_behind f xs k x old head out new is o h =
    one_more f xs k x (old ++ head) out new (slice_get_within xs k x is) (slice_item xs k x is) (o ∙ sym (append_assoc old head (flat_map f (take k xs)))) h
    ∙ append_assoc old head (flat_map f (take (k + 1) xs))

numbered_step : (b : Bool) (o : Option Clause) (clause : Clause) → b ≡ false → cond b None o ≡ Some clause → o ≡ Some clause
numbered_step true o clause h is = cc
numbered_step false o clause h is = is

pub numbered_at : (clauses : List Clause) (k : ℕ) (clause : Clause) → clause_numbered clauses (k + 1) ≡ Some clause → slice_get clauses k ≡ Some clause
numbered_at clauses k clause h =
    let before : k ≡ k + 1 - 1 = omega arith in
    ap (slice_get clauses) before ∙ numbered_step (k + 1 == 0) (slice_get clauses (k + 1 - 1)) clause (grind (arith, nat_tests)) h

behind_all : (old text : List ℕ) → drop (length old) (old ++ text) ≡ text
behind_all [] text = refl
behind_all (x ∷ old) text = behind_all old text

-- what was appended
pub appended : (old text new : List ℕ) → new ≡ old ++ text → text ≡ drop (length old) new
appended old text new h = sym (ap (drop (length old)) h ∙ behind_all old text)

pub both_ok : {T E P Q R : Type 0} (r : Result T E) → OnOk r P → OnOk r Q → (P → Q → R) → OnOk r R
both_ok (Ok x) p q f = f p q
both_ok (Err e) p q f = tt
