-- A look at a clause, literal by literal.
use Rattle.std.proofs.Common.{◌≡◌, ◌∙◌, ℕ, ◌+◌, ◌<◌, ◌≤◌, Bool, true, false, not, ◌||◌, ◌++◌, ◌∷◌, [], List, refl, ap, sym, length, take, drop, get_or, arith, subst, Option, Some, None}
use Rattle.std.specs.List.{list_any, list_all}
use Rattle.std.specs.Bool.{beq}
use Rattle.std.proofs.lemmas.Grind.{common_steps}
use Rattle.std.proofs.lemmas.Bool.{and_parts, and_from, or_left, or_right}
use Rattle.std.proofs.lemmas.List.Folds.{list_all-append, list_any-append}
use Rattle.prop_core.specs.declared.lit.Lit.{Lit}
use Rattle.prop_core.specs.Clauses.{negation, same_literal, is_true, is_false, is_open, AreConsistent}
use Rattle.prop_core.specs.Derivation.{standing, unit}
use Rattle.prop_core.specs.Trail.{is_quiet, no_literal}
use Rattle.prop_core.proofs.Entailed.{same_itself, beq_is}
use Rattle.prop_core.proofs.Literals.{literal_of, literal_is, true_at, all_from, all_at, open_from}
use Rattle.prop_core.proofs.Forcing.{forced_unit, quiet_true, quiet_two}
use Rattle.sat_prop.specs.TrailState.{trail_value}
use Rattle.sat_prop.specs.Kept.{IsSeenUpTo}
use Rattle.sat_prop.proofs.Placing.{value_some, value_none}

-- what a value says of a literal
pub value_agrees : (literals : List Lit) (l : Lit) (b : Bool) → trail_value literals l.var ≡ Some b → beq b l.positive ≡ true → is_true literals l ≡ true
value_agrees literals l b e f = subst (λ (x : Lit). is_true literals x ≡ true) (literal_is (literal_of l.var b) l refl (beq_is b l.positive f)) (value_some literals l.var b e)

other : (a b : Bool) → beq a b ≡ false → a ≡ not b
other true true e = cc
other true false e = refl
other false true e = refl
other false false e = cc

pub value_denies : (literals : List Lit) (l : Lit) (b : Bool) → trail_value literals l.var ≡ Some b → beq b l.positive ≡ false → is_false literals l ≡ true
value_denies literals l b e f = subst (λ (x : Lit). is_true literals x ≡ true) (literal_is (literal_of l.var b) (negation l) refl (other b l.positive f)) (value_some literals l.var b e)

pub value_lacks : (literals : List Lit) (l : Lit) → trail_value literals l.var ≡ None → is_open literals l ≡ true
value_lacks literals l e = let n = value_none literals l.var e in by l.positive refl n
  where
    by : (p : Bool) → l.positive ≡ p → (is_true literals (literal_of l.var true) ≡ false) × (is_true literals (literal_of l.var false) ≡ false) → is_open literals l ≡ true
    by true q n =
        let a = ap (is_true literals) (literal_is l (literal_of l.var true) refl q) ∙ n.0 in
        let b = ap (is_true literals) (literal_is (negation l) (literal_of l.var false) refl (ap not q)) ∙ n.1 in
        open_from literals l a b
    by false q n =
        let a = ap (is_true literals) (literal_is l (literal_of l.var false) refl q) ∙ n.1 in
        let b = ap (is_true literals) (literal_is (negation l) (literal_of l.var true) refl (ap not q)) ∙ n.0 in
        open_from literals l a b

-- one more literal is false
seen_false : (taken front : List Lit) (candidate : Option Lit) (l : Lit) → IsSeenUpTo taken front candidate → is_false taken l ≡ true → IsSeenUpTo taken (front ++ l ∷ []) candidate
seen_false taken front None l h e = list_all-append (is_false taken) front (l ∷ []) ∙ and_from _ _ h (rw e refl)
seen_false taken front (Some k) l h e =
    let f = and_parts (list_any (same_literal k) front) (list_all (λ x. same_literal k x || is_false taken x) front) h.1 in
    let a : list_any (same_literal k) (front ++ l ∷ []) ≡ true = list_any-append (same_literal k) front (l ∷ []) ∙ or_left _ _ f.0 in
    let b : list_all (λ x. same_literal k x || is_false taken x) (front ++ l ∷ []) ≡ true = list_all-append (λ x. same_literal k x || is_false taken x) front (l ∷ []) ∙ and_from _ _ f.1 (and_from _ _ (or_right (same_literal k l) _ e) refl) in
    (h.0, and_from _ _ a b)

-- the first open literal
seen_first : (taken front : List Lit) (l : Lit) → IsSeenUpTo taken front None → is_open taken l ≡ true → IsSeenUpTo taken (front ++ l ∷ []) (Some l)
seen_first taken front l h o =
    let s = same_itself l in
    let a : list_any (same_literal l) (front ++ l ∷ []) ≡ true = list_any-append (same_literal l) front (l ∷ []) ∙ or_right _ _ (or_left _ _ s) in
    let c : list_all (λ x. same_literal l x || is_false taken x) front ≡ true = all_from (λ x. same_literal l x || is_false taken x) front (λ x e. or_right (same_literal l x) _ (all_at (is_false taken) front x h e)) in
    let b : list_all (λ x. same_literal l x || is_false taken x) (front ++ l ∷ []) ≡ true = list_all-append (λ x. same_literal l x || is_false taken x) front (l ∷ []) ∙ and_from _ _ c (and_from _ _ (or_left _ _ s) refl) in
    (o, and_from _ _ a b)

-- the same again
seen_again : (taken front : List Lit) (l : Lit) → IsSeenUpTo taken front (Some l) → IsSeenUpTo taken (front ++ l ∷ []) (Some l)
seen_again taken front l h =
    let s = same_itself l in
    let f = and_parts (list_any (same_literal l) front) (list_all (λ x. same_literal l x || is_false taken x) front) h.1 in
    let a : list_any (same_literal l) (front ++ l ∷ []) ≡ true = list_any-append (same_literal l) front (l ∷ []) ∙ or_left _ _ f.0 in
    let b : list_all (λ x. same_literal l x || is_false taken x) (front ++ l ∷ []) ≡ true = list_all-append (λ x. same_literal l x || is_false taken x) front (l ∷ []) ∙ and_from _ _ f.1 (and_from _ _ (or_left _ _ s) refl) in
    (h.0, and_from _ _ a b)

longer : (clause : List Lit) (i : ℕ) → i < length clause → take (i + 1) clause ≡ take i clause ++ get_or clause i no_literal ∷ []
longer clause i h = grind (arith, common_steps)

pub seen_false_at : (taken clause : List Lit) (i : ℕ) (candidate new : Option Lit) → i < length clause → IsSeenUpTo taken (take i clause) candidate → is_false taken (get_or clause i no_literal) ≡ true → new ≡ candidate → IsSeenUpTo taken (take (i + 1) clause) new
seen_false_at taken clause i candidate new b h e q = subst (λ (o : Option Lit). IsSeenUpTo taken (take (i + 1) clause) o) (sym q) (subst (λ (c : List Lit). IsSeenUpTo taken c candidate) (sym (longer clause i b)) (seen_false taken (take i clause) candidate (get_or clause i no_literal) h e))

pub seen_first_at : (taken clause : List Lit) (i : ℕ) (candidate new : Option Lit) → i < length clause → IsSeenUpTo taken (take i clause) candidate → candidate ≡ None → is_open taken (get_or clause i no_literal) ≡ true → new ≡ Some (get_or clause i no_literal) → IsSeenUpTo taken (take (i + 1) clause) new
seen_first_at taken clause i candidate new b h n o q = subst (λ (o : Option Lit). IsSeenUpTo taken (take (i + 1) clause) o) (sym q) (subst (λ (c : List Lit). IsSeenUpTo taken c (Some (get_or clause i no_literal))) (sym (longer clause i b))
    (seen_first taken (take i clause) (get_or clause i no_literal) (subst (λ (o : Option Lit). IsSeenUpTo taken (take i clause) o) n h) o))

pub seen_again_at : (taken clause : List Lit) (i : ℕ) (candidate new : Option Lit) (first : Lit) → i < length clause → IsSeenUpTo taken (take i clause) candidate → candidate ≡ Some first → first ≡ get_or clause i no_literal → new ≡ Some (get_or clause i no_literal) → IsSeenUpTo taken (take (i + 1) clause) new
seen_again_at taken clause i candidate new first b h n s q = subst (λ (o : Option Lit). IsSeenUpTo taken (take (i + 1) clause) o) (sym q) (subst (λ (c : List Lit). IsSeenUpTo taken c (Some (get_or clause i no_literal))) (sym (longer clause i b))
    (seen_again taken (take i clause) (get_or clause i no_literal) (subst (λ (o : Option Lit). IsSeenUpTo taken (take i clause) o) (n ∙ ap (λ (l : Lit). Some l) s) h)))

whole : (clause : List Lit) (i : ℕ) → length clause ≤ i → take i clause ≡ clause
whole clause i h = grind (arith, common_steps)

-- at the end
pub seen_unit : (taken clause : List Lit) (i : ℕ) (candidate : Option Lit) (l : Lit) → AreConsistent taken → length clause ≤ i → IsSeenUpTo taken (take i clause) candidate → candidate ≡ Some l → standing taken clause ≡ unit l
seen_unit taken clause i candidate l c b h n =
    let g = subst (λ (o : Option Lit). IsSeenUpTo taken clause o) n (subst (λ (x : List Lit). IsSeenUpTo taken x candidate) (whole clause i b) h) in
    forced_unit taken clause l c g.0 g.1

-- a true literal
pub seen_true : (taken clause : List Lit) (i : ℕ) → AreConsistent taken → i < length clause → is_true taken (get_or clause i no_literal) ≡ true → is_quiet (standing taken clause) ≡ true
seen_true taken clause i c b t = quiet_true taken clause (get_or clause i no_literal) c (true_at clause (get_or clause i no_literal) i b refl) t

-- another open one
in_front : (clause : List Lit) (i : ℕ) (l : Lit) → list_any (same_literal l) (take i clause) ≡ true → list_any (same_literal l) clause ≡ true
in_front clause i l h = ap (list_any (same_literal l)) (sym parts) ∙ list_any-append (same_literal l) (take i clause) (drop i clause) ∙ or_left _ _ h
  where
    parts : take i clause ++ drop i clause ≡ clause
    parts = grind (arith, common_steps)

pub seen_two : (taken clause : List Lit) (i : ℕ) (candidate : Option Lit) (first : Lit) → i < length clause → IsSeenUpTo taken (take i clause) candidate → candidate ≡ Some first → is_open taken (get_or clause i no_literal) ≡ true →
    same_literal first (get_or clause i no_literal) ≡ false → is_quiet (standing taken clause) ≡ true
seen_two taken clause i candidate first b h n o s =
    let g = subst (λ (o : Option Lit). IsSeenUpTo taken (take i clause) o) n h in
    let among = (and_parts (list_any (same_literal first) (take i clause)) _ g.1).0 in
    quiet_two taken clause first (get_or clause i no_literal) (in_front clause i first among) (true_at clause (get_or clause i no_literal) i b refl) g.0 o s
