-- How a clause stands whose open literals are looked for one by one.
use Rattle.std.proofs.Common.{◌≡◌, ◌∙◌, Bool, true, false, not, ◌||◌, ◌&&◌, List, [], ◌∷◌, refl, ap, subst, filter, find, cond, Some, None}
use Rattle.std.specs.List.{list_all}
use Rattle.prop_core.specs.declared.lit.Lit.{Lit}
use Rattle.prop_core.specs.Clauses.{same_literal}
use Rattle.prop_core.specs.Derivation.{open_standing, unit, wide}
use Rattle.prop_core.proofs.Entailed.{same_itself}

pub list_all-filter : (p q : Lit → Bool) (xs : List Lit) → list_all q (filter p xs) ≡ list_all (λ l. not (p l) || q l) xs
list_all-filter p q [] = refl
list_all-filter p q (x ∷ xs) = by (p x) refl (list_all-filter p q xs)
  where
    by : (b : Bool) → p x ≡ b → list_all q (filter p xs) ≡ list_all (λ l. not (p l) || q l) xs → list_all q (filter p (x ∷ xs)) ≡ list_all (λ l. not (p l) || q l) (x ∷ xs)
    by true e h = rw e (ap (λ b. q x && b) h)
    by false e h = rw e h

-- none is open
pub open_standing-none : (p : Lit → Bool) (xs : List Lit) → find p xs ≡ None → open_standing (filter p xs) ≡ wide
open_standing-none p [] h = refl
open_standing-none p (x ∷ xs) h = by (p x) refl (open_standing-none p xs)
  where
    by : (b : Bool) → p x ≡ b → (find p xs ≡ None → open_standing (filter p xs) ≡ wide) → open_standing (filter p (x ∷ xs)) ≡ wide
    by true e later = let g = rw e at h in cc
    by false e later = rw e (later (rw e at h))

open_standing-first : (p : Lit → Bool) (xs : List Lit) (first : Lit) → find p xs ≡ Some first → open_standing (filter p xs) ≡ cond (list_all (λ l. not (p l) || same_literal first l) xs) (unit first) wide
open_standing-first p [] first h = cc
open_standing-first p (x ∷ xs) first h = by (p x) refl (open_standing-first p xs first)
  where
    by : (b : Bool) → p x ≡ b → (find p xs ≡ Some first → open_standing (filter p xs) ≡ cond (list_all (λ l. not (p l) || same_literal first l) xs) (unit first) wide) →
        open_standing (filter p (x ∷ xs)) ≡ cond (list_all (λ l. not (p l) || same_literal first l) (x ∷ xs)) (unit first) wide
    by true e later =
        let g = rw e at h in
        let same : x ≡ first = cc in
        subst (λ (y : Lit). open_standing (filter p (x ∷ xs)) ≡ cond (list_all (λ l. not (p l) || same_literal y l) (x ∷ xs)) (unit y) wide) same
        (rw (e, same_itself x) (ap (λ b. cond b (unit x) wide) (list_all-filter p (same_literal x) xs)))
    by false e later = rw e (later (rw e at h))

-- one alone is
pub open_standing-one : (p : Lit → Bool) (xs : List Lit) (first : Lit) → find p xs ≡ Some first → list_all (λ l. not (p l) || same_literal first l) xs ≡ true → open_standing (filter p xs) ≡ unit first
open_standing-one p xs first h e = open_standing-first p xs first h ∙ ap (λ b. cond b (unit first) wide) e

-- more are
pub open_standing-more : (p : Lit → Bool) (xs : List Lit) (first : Lit) → find p xs ≡ Some first → list_all (λ l. not (p l) || same_literal first l) xs ≡ false → open_standing (filter p xs) ≡ wide
open_standing-more p xs first h e = open_standing-first p xs first h ∙ ap (λ b. cond b (unit first) wide) e

pub ruleset open_standings = (open_standing-none, open_standing-one, open_standing-more)
