-- A clause whose literals are looked at once, from the first on.
use Rattle.std.proofs.Common.{◌≡◌, ◌∙◌, ℕ, ◌+◌, ◌<◌, ◌≤◌, Bool, true, false, not, ◌||◌, ◌&&◌, List, [], ◌∷◌, Option, Some, None, refl, ap, sym, filter, cond, drop, length, get_or, arith, add-one}
use Rattle.std.proofs.Math.Seq.{drop-cons}
use Rattle.std.proofs.lemmas.Grind.{common_steps}
use Rattle.std.specs.List.{list_all, list_any}
use Rattle.prop_core.specs.declared.lit.Lit.{Lit}
use Rattle.prop_core.specs.Clauses.{same_literal, is_true, is_false, is_open}
use Rattle.prop_core.specs.Derivation.{Standing, falsified, satisfied, unit, wide, standing, open_standing}
use Rattle.proof_ledger.specs.declared.truths.Front.{Front}
use Rattle.proof_ledger.specs.Fronts.{with_open, front_with, one_open, front_standing}

-- how a clause stands by its open literals, where this is known of the first ones and these are the others
pub open_behind : Option Lit → Bool → List Lit → Standing
open_behind None more xs = open_standing xs
open_behind (Some l) more xs = one_open (Some l) (more || not (list_all (same_literal l) xs))

-- how a clause stands, where this is known of its first literals and these are the others
abbrev pub standing_behind : List Lit → Front → List Lit → Standing
standing_behind taken front rest =
    cond (front.all_false && list_all (is_false taken) rest) falsified
    (cond (front.any_true || list_any (is_true taken) rest) satisfied (open_behind front.first front.wide (filter (is_open taken) rest)))

open_more : (o : Option Lit) (more : Bool) (l : Lit) (xs : List Lit) → open_behind o more (l ∷ xs) ≡ open_behind (with_open o more l).0 (with_open o more l).1 xs
unfolding open_behind
open_more None more l xs = by (list_all (same_literal l) xs)
  where
    by : (b : Bool) → cond b (unit l) wide ≡ cond (not b) wide (unit l)
    by true = refl
    by false = refl
open_more (Some first) more l xs = by more (same_literal first l) (list_all (same_literal first) xs)
  where
    by : (a b c : Bool) → one_open (Some first) (a || not (b && c)) ≡ one_open (Some first) ((a || not b) || not c)
    by true b c = refl
    by false true c = refl
    by false false c = refl

with_one : (a b f t r s : Bool) (o : Option Lit) (more : Bool) (l : Lit) (xs : List Lit) →
    cond (a && (f && r)) falsified (cond (b || (t || s)) satisfied (open_behind o more (cond (not t && not f) (l ∷ xs) xs)))
    ≡ cond ((a && f) && r) falsified (cond ((b || t) || s) satisfied (open_behind (cond (not f && not t) (with_open o more l).0 o) (cond (not f && not t) (with_open o more l).1 more) xs))
with_one true true true true r s o more l xs = refl
with_one true true true false r s o more l xs = refl
with_one true true false true r s o more l xs = refl
with_one true true false false r s o more l xs = refl
with_one true false true true r s o more l xs = refl
with_one true false true false r s o more l xs = refl
with_one true false false true r s o more l xs = refl
with_one true false false false r s o more l xs = ap (λ x. cond s satisfied x) (open_more o more l xs)
with_one false true f true r s o more l xs = refl
with_one false true f false r s o more l xs = refl
with_one false false true true r s o more l xs = refl
with_one false false true false r s o more l xs = refl
with_one false false false true r s o more l xs = refl
with_one false false false false r s o more l xs = ap (λ x. cond s satisfied x) (open_more o more l xs)

front_more : (taken : List Lit) (front : Front) (l : Lit) (rest : List Lit) → standing_behind taken front (l ∷ rest) ≡ standing_behind taken (front_with front l (is_false taken l) (is_true taken l)) rest
front_more taken front l rest =
    with_one front.all_false front.any_true (is_false taken l) (is_true taken l) (list_all (is_false taken) rest) (list_any (is_true taken) rest) front.first front.wide l (filter (is_open taken) rest)

rest_more : (clause : List Lit) (i : ℕ) (d : Lit) → i < length clause → drop i clause ≡ get_or clause i d ∷ drop (i + 1) clause
rest_more clause i d h = rw (add-one, drop-cons clause i d h) refl

-- none is looked at yet
pub front-begin : (taken : List Lit) (clause : List Lit) → standing_behind taken (record { all_false = true; any_true = false; first = None; wide = false }) (drop 0 clause) ≡ standing taken clause
unfolding open_behind
front-begin taken clause = refl

-- one more is looked at
pub front-more : (taken : List Lit) (front after : Front) (clause : List Lit) (i : ℕ) (d : Lit) (f t : Bool) → i < length clause → f ≡ is_false taken (get_or clause i d) → t ≡ is_true taken (get_or clause i d) → after ≡ front_with front (get_or clause i d) f t →
    standing_behind taken after (drop (i + 1) clause) ≡ standing_behind taken front (drop i clause)
front-more taken front after clause i d f t h is_f is_t is =
    ap (λ x. standing_behind taken x (drop (i + 1) clause)) (is ∙ ap (λ b. front_with front (get_or clause i d) b t) is_f ∙ ap (λ b. front_with front (get_or clause i d) (is_false taken (get_or clause i d)) b) is_t)
    ∙ sym (ap (standing_behind taken front) (rest_more clause i d h) ∙ front_more taken front (get_or clause i d) (drop (i + 1) clause))

-- none is left
front_end : (taken : List Lit) (front : Front) (a b : Bool) (o : Option Lit) → standing_behind taken front [] ≡ front_standing front
unfolding open_behind
front_end taken front a b o = by front.all_false front.any_true front.first front.wide
  where
    by : (a b : Bool) (o : Option Lit) (more : Bool) → cond (a && true) falsified (cond (b || false) satisfied (open_behind o more [])) ≡ cond a falsified (cond b satisfied (one_open o more))
    by true b o more = refl
    by false true o more = refl
    by false false None more = refl
    by false false (Some l) true = refl
    by false false (Some l) false = refl

pub front-end : (taken : List Lit) (front : Front) (clause : List Lit) (i : ℕ) → length clause ≤ i → front_standing front ≡ standing_behind taken front (drop i clause)
front-end taken front clause i h = let e : drop i clause ≡ [] = grind (arith, common_steps) in sym (ap (standing_behind taken front) e ∙ front_end taken front true true None)
