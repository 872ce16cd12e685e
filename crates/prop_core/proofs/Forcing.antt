-- What it means for a clause that it is false, forces a literal, or is quiet.
use Rattle.std.proofs.Common.{◌≡◌, ◌∙◌, Bool, true, false, not, ◌&&◌, ◌||◌, ◌++◌, ◌∷◌, [], List, refl, ap, sym, subst, inl, inr, ⊎_elim, filter, find, cond, Some, Option}
use Rattle.std.specs.Prelude.{◌⊎◌}
use Rattle.std.specs.List.{list_any, list_all}
use Rattle.std.proofs.lemmas.Bool.{and_parts, and_from, or_cases, or_right, or_from, cases_Bool}
use Rattle.prop_core.specs.declared.lit.Lit.{Lit}
use Rattle.prop_core.specs.Clauses.{negation, same_literal, is_true, is_false, is_open, AreConsistent}
use Rattle.prop_core.specs.Derivation.{Standing, falsified, satisfied, unit, wide, standing, open_standing}
use Rattle.prop_core.specs.Trail.{is_quiet, is_forced_by}
use Rattle.prop_core.proofs.Entailed.{same_itself, unit_same, not_falsified}
use Rattle.prop_core.proofs.Standings.{open_standing-one, list_all-filter}
use Rattle.prop_core.proofs.Literals.{same_is, negation_twice, not_self, open_parts, open_from, true_more, all_from, all_at, any_from}

-- a clause is false
pub falsified_from : (taken c : List Lit) → list_all (is_false taken) c ≡ true → standing taken c ≡ falsified
falsified_from taken c e = rw e

pub falsified_parts : (taken c : List Lit) → standing taken c ≡ falsified → list_all (is_false taken) c ≡ true
falsified_parts taken c h = by (list_all (is_false taken) c) (list_any (is_true taken) c) h
  where
    by : (a b : Bool) → cond a falsified (cond b satisfied (open_standing (filter (is_open taken) c))) ≡ falsified → a ≡ true
    by true b e = refl
    by false true e = cc
    by false false e = absurd (not_falsified (filter (is_open taken) c) e)

-- the one literal that is open
unit_first : (p : Lit → Bool) (c : List Lit) (l : Lit) → open_standing (filter p c) ≡ unit l → (p l ≡ true) × (list_any (same_literal l) c ≡ true)
unit_first p [] l h = cc
unit_first p (x ∷ c) l h = by (p x) refl (unit_first p c l)
  where
    here : (b : Bool) → cond b (unit x) wide ≡ unit l → x ≡ l
    here true e = cc
    here false e = cc

    by : (b : Bool) → p x ≡ b → (open_standing (filter p c) ≡ unit l → (p l ≡ true) × (list_any (same_literal l) c ≡ true)) → (p l ≡ true) × (list_any (same_literal l) (x ∷ c) ≡ true)
    by true e later =
        let q : x ≡ l = here (list_all (same_literal x) (filter p c)) (rw e at h) in
        (subst (λ (y : Lit). p y ≡ true) q e, subst (λ (y : Lit). list_any (same_literal y) (x ∷ c) ≡ true) q (let s = same_itself x in rw s refl))
    by false e later = let r = later (rw e at h) in (r.0, or_right (same_literal l x) _ r.1)

one_other : (t f s : Bool) → t ≡ false → (not (not t && not f) || s) ≡ true → (s || f) ≡ true
one_other true f s n o = cc
one_other false true true n o = refl
one_other false true false n o = refl
one_other false false true n o = refl
one_other false false false n o = cc

others_false : (taken c : List Lit) (x : Lit) → list_any (is_true taken) c ≡ false → list_all (λ l. not (is_open taken l) || same_literal x l) c ≡ true → list_all (λ k. same_literal x k || is_false taken k) c ≡ true
others_false taken c x n o = all_from (λ k. same_literal x k || is_false taken k) c (λ k e.
    let b = all_at (λ l. not (is_open taken l) || same_literal x l) c k o e in
    let a : is_true taken k ≡ false = ⊎_elim (λ t. let g = any_from (is_true taken) c k e t in let z : true ≡ false = sym g ∙ n in cc) (λ t. t) (cases_Bool (is_true taken k)) in
    one_other (is_true taken k) (is_false taken k) (same_literal x k) a b)

-- what is known of a literal that a clause forces
pub record Forces (taken c : List Lit) (l : Lit) : Type 0 where
  pub alone : is_forced_by taken l c ≡ true
  pub open_now : is_open taken l ≡ true

pub unit_forces : (taken c : List Lit) (l : Lit) → standing taken c ≡ unit l → Forces taken c l
unit_forces taken c l h = by (list_all (is_false taken) c) (list_any (is_true taken) c) refl h
  where
    by : (a b : Bool) → list_any (is_true taken) c ≡ b → cond a falsified (cond b satisfied (open_standing (filter (is_open taken) c))) ≡ unit l → Forces taken c l
    by true b f e = cc
    by false true f e = cc
    by false false f e =
        let first = unit_first (is_open taken) c l e in
        let alone = sym (list_all-filter (is_open taken) (same_literal l) c) ∙ unit_same l (filter (is_open taken) c) e in
        record { alone = and_from _ _ first.1 (others_false taken c l f alone); open_now = first.0 }

-- Where one literal is forced, the clause is false, or the literal is true, or the clause is unit.
any_true : (taken c : List Lit) (l : Lit) → is_true taken l ≡ true → list_any (same_literal l) c ≡ true → list_any (is_true taken) c ≡ true
any_true taken c l t a = any_from (is_true taken) c l a t

none_true : (taken c : List Lit) (l : Lit) → AreConsistent taken → is_open taken l ≡ true → list_all (λ k. same_literal l k || is_false taken k) c ≡ true → list_any (is_true taken) c ≡ false
none_true taken [] l n o h = refl
none_true taken (x ∷ c) l n o h =
    let f = and_parts (same_literal l x || is_false taken x) (list_all (λ k. same_literal l k || is_false taken k) c) h in
    let a : is_true taken x ≡ false =
    ⊎_elim (λ s. subst (λ (z : Lit). is_true taken z ≡ false) (same_is l x s) (open_parts taken l o).0)
    (λ s. ⊎_elim (λ t. let g = n x t in cc) (λ t. t) (cases_Bool (is_true taken x)))
    (or_cases (same_literal l x) (is_false taken x) f.0) in
    rw a (none_true taken c l n o f.1)

all_false : (taken c : List Lit) (l : Lit) → is_false taken l ≡ true → list_all (λ k. same_literal l k || is_false taken k) c ≡ true → list_all (is_false taken) c ≡ true
all_false taken c l n h = all_from (is_false taken) c (λ x e.
    ⊎_elim (λ s. subst (λ (z : Lit). is_true taken (negation z) ≡ true) (same_is l x s) n) (λ s. s) (or_cases (same_literal l x) (is_false taken x) (all_at (λ k. same_literal l k || is_false taken k) c x h e)))

found_at : (l : Lit) (b : Bool) (r : Option Lit) → b ≡ true → cond b (Some l) r ≡ Some l
found_at l true r e = refl
found_at l false r e = cc

passed : (x : Lit) (t f : Bool) (r : Option Lit) (l : Lit) → f ≡ true → r ≡ Some l → cond (not t && not f) (Some x) r ≡ Some l
passed x true f r l e g = g
passed x false true r l e g = g
passed x false false r l e g = cc

shut : (t f s : Bool) → f ≡ true → (not (not t && not f) || s) ≡ true
shut true f s e = refl
shut false true s e = refl
shut false false s e = cc

finds : (taken c : List Lit) (l : Lit) → is_open taken l ≡ true → list_any (same_literal l) c ≡ true → list_all (λ k. same_literal l k || is_false taken k) c ≡ true → find (is_open taken) c ≡ Some l
finds taken [] l o a h = cc
finds taken (x ∷ c) l o a h =
    let f = and_parts (same_literal l x || is_false taken x) (list_all (λ k. same_literal l k || is_false taken k) c) h in
    ⊎_elim
    (λ s. let e : x ≡ l = sym (same_is l x s) in rw e (found_at l (is_open taken l) (find (is_open taken) c) o))
    (λ s. let g : is_false taken x ≡ true = ⊎_elim (λ t. let q = s in cc) (λ t. t) (or_cases (same_literal l x) (is_false taken x) f.0) in
    let r : list_any (same_literal l) c ≡ true = ⊎_elim (λ t. let q = s in cc) (λ t. t) (or_cases (same_literal l x) (list_any (same_literal l) c) a) in
    passed x (is_true taken x) (is_false taken x) (find (is_open taken) c) l g (finds taken c l o r f.1))
    (cases_Bool (same_literal l x))

only_open : (taken c : List Lit) (l : Lit) → list_all (λ k. same_literal l k || is_false taken k) c ≡ true → list_all (λ k. not (is_open taken k) || same_literal l k) c ≡ true
only_open taken c l h = all_from (λ k. not (is_open taken k) || same_literal l k) c (λ x e.
    ⊎_elim (λ s. or_right (not (is_open taken x)) (same_literal l x) s) (λ s. shut (is_true taken x) (is_false taken x) (same_literal l x) s)
    (or_cases (same_literal l x) (is_false taken x) (all_at (λ k. same_literal l k || is_false taken k) c x h e)))

pub satisfied_from : (taken c : List Lit) → list_all (is_false taken) c ≡ false → list_any (is_true taken) c ≡ true → standing taken c ≡ satisfied
satisfied_from taken c e f = rw (e, f)

unit_from : (taken c : List Lit) (l : Lit) → list_all (is_false taken) c ≡ false → list_any (is_true taken) c ≡ false → open_standing (filter (is_open taken) c) ≡ unit l → standing taken c ≡ unit l
unit_from taken c l e f g = rw (e, f) g

pub forced_stands : (taken c : List Lit) (l : Lit) → AreConsistent taken → is_forced_by taken l c ≡ true
    → (standing taken c ≡ falsified) ⊎ (((standing taken c ≡ satisfied) × (is_true taken l ≡ true)) ⊎ ((standing taken c ≡ unit l) × (is_open taken l ≡ true)))
forced_stands taken c l n h =
    let f = and_parts (list_any (same_literal l) c) (list_all (λ k. same_literal l k || is_false taken k) c) h in
    ⊎_elim (λ a. inl (falsified_from taken c a))
    (λ a. inr (⊎_elim (λ t. inl (satisfied_from taken c a (any_true taken c l t f.0), t))
    (λ t. ⊎_elim (λ u. let q = all_false taken c l u f.1 in let r = a in absurd (let z : true ≡ false = sym q ∙ r in cc))
    (λ u. let o = open_from taken l t u in
    inr (unit_from taken c l a (none_true taken c l n o f.1) (open_standing-one (is_open taken) c l (finds taken c l o f.0 f.1) (only_open taken c l f.1)), o))
    (cases_Bool (is_false taken l)))
    (cases_Bool (is_true taken l))))
    (cases_Bool (list_all (is_false taken) c))

-- where the literal is open, it is unit
pub forced_unit : (taken c : List Lit) (l : Lit) → AreConsistent taken → is_open taken l ≡ true → is_forced_by taken l c ≡ true → standing taken c ≡ unit l
forced_unit taken c l n o h =
    let p = open_parts taken l o in
    ⊎_elim
    (λ a. let g = all_at (is_false taken) c l (falsified_parts taken c a) (and_parts (list_any (same_literal l) c) _ h).0 in absurd (let z : true ≡ false = sym g ∙ p.1 in cc))
    (λ s. ⊎_elim (λ a. absurd (let z : true ≡ false = sym a.1 ∙ p.0 in cc)) (λ a. a.0) s)
    (forced_stands taken c l n h)

-- a clause with a true literal is quiet
pub quiet_true : (taken c : List Lit) (l : Lit) → AreConsistent taken → list_any (same_literal l) c ≡ true → is_true taken l ≡ true → is_quiet (standing taken c) ≡ true
quiet_true taken c l n a t =
    let e : list_all (is_false taken) c ≡ false = ⊎_elim (λ e. let g = all_at (is_false taken) c l e a in let h = n l t in absurd (let z : true ≡ false = sym g ∙ h in cc)) (λ e. e) (cases_Bool (list_all (is_false taken) c)) in
    ap is_quiet (satisfied_from taken c e (any_true taken c l t a))

-- and so is one with two open literals
pub quiet_two : (taken c : List Lit) (f r : Lit) → list_any (same_literal f) c ≡ true → list_any (same_literal r) c ≡ true → is_open taken f ≡ true → is_open taken r ≡ true → same_literal f r ≡ false → is_quiet (standing taken c) ≡ true
quiet_two taken c f r a b o p n = by (standing taken c) refl
  where
    by : (s : Standing) → standing taken c ≡ s → is_quiet s ≡ true
    by falsified e = let g = all_at (is_false taken) c f (falsified_parts taken c e) a in let h = (open_parts taken f o).1 in cc
    by satisfied e = refl
    by (unit l) e =
        let g = and_parts (list_any (same_literal l) c) _ (unit_forces taken c l e).alone in
        let one = same_one l f o (all_at (λ k. same_literal l k || is_false taken k) c f g.1 a) in
        let two = same_one l r p (all_at (λ k. same_literal l k || is_false taken k) c r g.1 b) in
        let q : f ≡ r = sym one ∙ two in
        let s : same_literal f r ≡ true = subst (λ (x : Lit). same_literal f x ≡ true) q (same_itself f) in
        absurd (let z : true ≡ false = sym s ∙ n in cc)
      where
        same_one : (l x : Lit) → is_open taken x ≡ true → (same_literal l x || is_false taken x) ≡ true → l ≡ x
        same_one l x o e = ⊎_elim (λ s. same_is l x s) (λ s. let h = (open_parts taken x o).1 in absurd (let z : true ≡ false = sym s ∙ h in cc)) (or_cases (same_literal l x) (is_false taken x) e)
    by wide e = refl

-- one more literal is taken as true
pub consistent_more : (taken : List Lit) (l : Lit) → AreConsistent taken → is_open taken l ≡ true → AreConsistent (taken ++ l ∷ [])
consistent_more taken l n o k e =
    let closed = (open_parts taken l o).1 in
    true_more taken l (negation k) ∙ ⊎_elim
    (λ t. let a = n k t in
    let b : same_literal (negation k) l ≡ false = ⊎_elim (λ s. let q : is_false taken l ≡ true = subst (λ (z : Lit). is_true taken z ≡ true) (sym (ap negation (sym (same_is (negation k) l s)) ∙ negation_twice k)) t in absurd (let z : true ≡ false = sym q ∙ closed in cc)) (λ s. s) (cases_Bool (same_literal (negation k) l)) in
    or_from _ _ a b)
    (λ t. let i = same_is k l t in
    or_from _ _ (subst (λ (z : Lit). is_true taken (negation z) ≡ false) (sym i) closed) (subst (λ (z : Lit). same_literal (negation z) l ≡ false) (sym i) (not_self l)))
    (or_cases (is_true taken k) (same_literal k l) (sym (true_more taken l k) ∙ e))
