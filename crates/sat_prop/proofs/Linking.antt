-- The lists of literals, as one of them changes.
use Rattle.std.proofs.Common.{◌≡◌, ◌∙◌, ℕ, zero, suc, ◌+◌, ◌<◌, ◌≤◌, Bool, true, false, ◌&&◌, ◌++◌, ◌∷◌, [], List, refl, ap, sym, subst, length, get_or, arith, ⊎_elim, eqb, cond, Option, Some, None}
use Rattle.std.specs.Prelude.{nat_eq, slice_set}
use Rattle.std.specs.Bool.{beq}
use Rattle.std.proofs.lemmas.Grind.{common_steps}
use Rattle.std.proofs.lemmas.Bool.{cases_Bool, cases_eq, eqb-true, eq-eqb, or_cases}
use Rattle.prop_core.specs.declared.lit.Lit.{Lit}
use Rattle.prop_core.specs.Clauses.{same_literal}
use Rattle.prop_core.proofs.Entailed.{same_itself}
use Rattle.prop_core.proofs.Literals.{same_is}
use Rattle.sat_prop.specs.declared.watch_lists.Ends.{Ends}
use Rattle.sat_prop.specs.declared.watch_lists.Lists.{Lists}
use Rattle.sat_prop.specs.declared.watch_lists.TheConstants.{NO_WATCH}
use Rattle.sat_prop.specs.Watches.{AreLinked, IsList, is_among, appended, as_link, empty, ended, ends_in, ends_of, first_or_end, last_of, lists_at, no_lists, unlinked, with_ends}
use Rattle.sat_prop.proofs.Links.{among_either, among_left, among_right, list_apart, list_appended, list_unlinked, links_apart, links_below, links_more, last_is_among, not_both, relinked}

-- ---- the ends of lists

pub ends_set : (lists : List Lists) (l : Lit) (e : Ends) → l.var < length lists → ends_of (with_ends lists l e) l ≡ e
ends_set lists l e h =
    let g : get_or (with_ends lists l e) l.var empty ≡ ended (lists_at lists l.var) l.positive e = grind (arith, common_steps) in
    by l.positive (lists_at (with_ends lists l e) l.var) g
  where
    by : (b : Bool) (s : Lists) → s ≡ ended (lists_at lists l.var) b e → ends_in s b ≡ e
    by true s q = ap (λ (x : Lists). x.positive) q
    by false s q = ap (λ (x : Lists). x.negative) q

pub ends_kept : (lists : List Lists) (l k : Lit) (e : Ends) → same_literal k l ≡ false → l.var < length lists → ends_of (with_ends lists l e) k ≡ ends_of lists k
ends_kept lists l k e d h = ⊎_elim
    (λ q. same_var q)
    (λ n. let g : get_or (with_ends lists l e) k.var empty ≡ get_or lists k.var empty = grind (arith, common_steps) in ap (λ (s : Lists). ends_in s k.positive) g)
    (cases_eq k.var l.var)
  where
    by : (a b : Bool) (s t : Lists) → t ≡ ended s b e → (eqb k.var l.var && beq a b) ≡ false → eqb k.var l.var ≡ true → ends_in t a ≡ ends_in s a
    by true true s t q f r = let z = f in let y = r in cc
    by true false s t q f r = ap (λ (x : Lists). x.positive) q
    by false true s t q f r = ap (λ (x : Lists). x.negative) q
    by false false s t q f r = let z = f in let y = r in cc

    same_var : k.var ≡ l.var → ends_of (with_ends lists l e) k ≡ ends_of lists k
    same_var q =
        let g : get_or (with_ends lists l e) l.var empty ≡ ended (lists_at lists l.var) l.positive e = grind (arith, common_steps) in
        let s : lists_at lists k.var ≡ lists_at lists l.var = ap (lists_at lists) q in
        let t : lists_at (with_ends lists l e) k.var ≡ lists_at (with_ends lists l e) l.var = ap (lists_at (with_ends lists l e)) q in
        by k.positive l.positive (lists_at lists k.var) (lists_at (with_ends lists l e) k.var) (t ∙ g ∙ ap (λ (x : Lists). ended x l.positive e) (sym s)) d (eq-eqb k.var l.var q)

pub ends_length : (lists : List Lists) (l : Lit) (e : Ends) → length (with_ends lists l e) ≡ length lists
ends_length lists l e = grind (arith, common_steps)

-- ---- the list of one literal changes

abbrev pub with_list : (Lit → List ℕ) → Lit → List ℕ → Lit → List ℕ
with_list numbers l new k = cond (same_literal k l) new (numbers k)

-- what holds of the changed list and of all others
pub each_list : (numbers : Lit → List ℕ) (l : Lit) (new : List ℕ) (P : Lit → List ℕ → Type 0) (k : Lit) → (k ≡ l → P l new) → (same_literal k l ≡ false → P k (numbers k)) → P k (with_list numbers l new k)
each_list numbers l new P k f g = ⊎_elim
    (λ t. let e = same_is k l t in rw t (subst (λ (x : Lit). P x new) (sym e) (f e)))
    (λ t. rw t (g t))
    (cases_Bool (same_literal k l))

pub list_here : (numbers : Lit → List ℕ) (l : Lit) (new : List ℕ) → with_list numbers l new l ≡ new
list_here numbers l new = let q = same_itself l in rw q refl

pub list_there : (numbers : Lit → List ℕ) (l k : Lit) (new : List ℕ) → same_literal k l ≡ false → with_list numbers l new k ≡ numbers k
list_there numbers l k new q = rw q refl

-- what stands in a list stays where that list has only more
pub stays_among : (numbers : Lit → List ℕ) (l : Lit) (new : List ℕ) (k : Lit) (n : ℕ) → (k ≡ l → is_among n (numbers l) ≡ true → is_among n new ≡ true) → is_among n (numbers k) ≡ true → is_among n (with_list numbers l new k) ≡ true
stays_among numbers l new k n f t = each_list numbers l new (λ x xs. is_among n xs ≡ true) k (λ e. f e (subst (λ (x : Lit). is_among n (numbers x) ≡ true) e t)) (λ d. t)

module _ (of : ℕ → Lit) (nexts : List (Option ℕ)) (lists : List Lists) (numbers : Lit → List ℕ) (few : length nexts ≤ NO_WATCH) (a : AreLinked of nexts lists numbers) where
  pub linked_below : (k : Lit) (n : ℕ) → k.var < length lists → is_among n (numbers k) ≡ true → n < length nexts
  linked_below k n h t = links_below nexts (as_link (ends_of lists k).first) (numbers k) n (a.each k h).links t

  -- the last of a list is a watch, or none
  pub last_below : (k : Lit) → k.var < length lists → ((ends_of lists k).last ≡ NO_WATCH → ⊥) → is_among (ends_of lists k).last (numbers k) ≡ true
  last_below k h d =
      let e = (a.each k h).last in
      subst (λ (n : ℕ). is_among n (numbers k) ≡ true) (sym e) (last_is_among (numbers k) (λ z. d (e ∙ z)))

  pub last_link : (k : Lit) → k.var < length lists → ((ends_of lists k).last ≡ NO_WATCH → ⊥) → (ends_of lists k).last < length nexts
  last_link k h d = linked_below k (ends_of lists k).last h (last_below k h d)

  module _ (l : Lit) (known : l.var < length lists) where
    still : (e : Ends) (k : Lit) → k.var < length (with_ends lists l e) → k.var < length lists
    still e k h = subst (λ (n : ℕ). k.var < n) (ends_length lists l e) h

    -- one that stands in the list of a literal stands in no other one
    pub apart : (k : Lit) (n : ℕ) → k.var < length lists → same_literal k l ≡ false → is_among n (numbers l) ≡ true → is_among n (numbers k) ≡ false
    apart k n h d t = ⊎_elim
        (λ s. let e : k ≡ l = sym (a.own k n h s) ∙ a.own l n known t in absurd (not_both _ (subst (λ (x : Lit). same_literal k x ≡ true) e (same_itself k)) d))
        (λ s. s)
        (cases_Bool (is_among n (numbers k)))

    linked_changed : (before : ℕ) (link : Option ℕ) (e : Ends) (new : List ℕ) → ((before ≡ NO_WATCH → ⊥) → is_among before (numbers l) ≡ true) → IsList (relinked nexts before link) e new → ((n : ℕ) → is_among n new ≡ true → of n ≡ l)
        → AreLinked of (relinked nexts before link) (with_ends lists l e) (with_list numbers l new)
    linked_changed before link e new b i o = record {
      each = λ k h. each_list numbers l new (λ x xs. IsList (relinked nexts before link) (ends_of (with_ends lists l e) x) xs) k
          (λ q. subst (λ (x : Ends). IsList (relinked nexts before link) x new) (sym (ends_set lists l e known)) i)
          (λ d. subst (λ (x : Ends). IsList (relinked nexts before link) x (numbers k)) (sym (ends_kept lists l k e d known))
          (list_apart nexts (ends_of lists k) (numbers k) before link (a.each k (still e k h)) (λ z. apart k before (still e k h) d (b z))));
      own = λ k n h. each_list numbers l new (λ x xs. is_among n xs ≡ true → of n ≡ x) k (λ q t. o n t) (λ d t. a.own k n (still e k h) t);
    }

    -- one that is linked to none is appended
    pub linked_appended : (n : ℕ) → n < length nexts → get_or nexts n None ≡ None → is_among n (numbers l) ≡ false → of n ≡ l
        → AreLinked of (relinked nexts (ends_of lists l).last (Some n)) (with_ends lists l (appended (ends_of lists l) n)) (with_list numbers l (numbers l ++ n ∷ []))
    linked_appended n w g f o = linked_changed (ends_of lists l).last (Some n) (appended (ends_of lists l) n) (numbers l ++ n ∷ [])
        (last_below l known)
        (list_appended nexts (ends_of lists l) n few w g (numbers l) (a.each l known) f)
        (λ m t. ⊎_elim (λ s. a.own l m known s) (λ s. subst (λ (k : ℕ). of k ≡ l) (sym (only m s)) o) (among_either m (numbers l) (n ∷ []) t))
      where
        only : (m : ℕ) → is_among m (n ∷ []) ≡ true → m ≡ n
        only m s = ⊎_elim (λ q. eqb-true m n q) (λ q. let z = q in cc) (or_cases (nat_eq m n) false s)

    -- one leaves
    pub linked_unlinked : (done : List ℕ) (n : ℕ) (rest : List ℕ) → numbers l ≡ done ++ n ∷ rest
        → AreLinked of (relinked nexts (last_of done) (as_link (first_or_end rest))) (with_ends lists l (unlinked (ends_of lists l) (last_of done) (first_or_end rest))) (with_list numbers l (done ++ rest))
    linked_unlinked done n rest e = linked_changed (last_of done) (as_link (first_or_end rest)) (unlinked (ends_of lists l) (last_of done) (first_or_end rest)) (done ++ rest)
        (λ d. subst (λ (xs : List ℕ). is_among (last_of done) xs ≡ true) (sym e) (among_left (last_of done) done (n ∷ rest) (last_is_among done d)))
        (list_unlinked nexts (ends_of lists l) n rest few done (subst (λ (xs : List ℕ). IsList nexts (ends_of lists l) xs) e (a.each l known)))
        (λ m t. a.own l m known (subst (λ (xs : List ℕ). is_among m xs ≡ true) (sym e) (⊎_elim
        (λ s. among_left m done (n ∷ rest) s)
        (λ s. among_right m done (n ∷ rest) (among_right m (n ∷ []) rest s))
        (among_either m done rest t))))

  -- one that stands in no list has another literal and another link
  pub linked_turned : (new : ℕ → Lit) (n : ℕ) (link : Option ℕ) → ((k : Lit) → k.var < length lists → is_among n (numbers k) ≡ false) → ((m : ℕ) → (m ≡ n → ⊥) → new m ≡ of m) → AreLinked new (slice_set nexts n link) lists numbers
  linked_turned new n link free s = record {
    each = λ k h. let i = a.each k h in record { links = links_apart nexts (as_link (ends_of lists k).first) (numbers k) n link i.links (free k h); last = i.last };
    own = λ k m h t. s m (λ q. not_both _ (subst (λ (x : ℕ). is_among x (numbers k) ≡ true) q t) (free k h)) ∙ a.own k m h t;
  }

  -- there is one more, in no list
  pub linked_more : (new : ℕ → Lit) (link : Option ℕ) → ((m : ℕ) → m < length nexts → new m ≡ of m) → AreLinked new (nexts ++ link ∷ []) lists numbers
  linked_more new link s = record {
    each = λ k h. let i = a.each k h in record { links = links_more nexts (as_link (ends_of lists k).first) (numbers k) link i.links; last = i.last };
    own = λ k m h t. s m (linked_below k m h t) ∙ a.own k m h t;
  }

pub no_lists_more : (k : ℕ) → no_lists k ++ empty ∷ [] ≡ no_lists (k + 1)
no_lists_more k = let e : suc k ≡ k + 1 = omega arith in next k ∙ ap no_lists e
  where
    next : (k : ℕ) → no_lists k ++ empty ∷ [] ≡ no_lists (suc k)
    next zero = refl
    next (suc k) = ap (λ xs. empty ∷ xs) (next k)
