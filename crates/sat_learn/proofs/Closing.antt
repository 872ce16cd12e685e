-- The clause of decisions alone.
use Rattle.std.proofs.Common.{◌≡◌, ◌∙◌, ℕ, ◌+◌, ◌<◌, Bool, true, false, ◌||◌, nat_lt, ◌++◌, ◌∷◌, [], List, refl, ap, sym, length, take, get_or, arith, subst, inl, inr, ⊎_elim, eqb}
use Rattle.std.specs.Prelude.{Option, Some, None, reverse, is_none, slice_set}
use Rattle.std.specs.List.{list_any, list_all}
use Rattle.std.proofs.lemmas.Grind.{common_steps}
use Rattle.std.proofs.lemmas.Bool.{eqb-true, eq-eqb, and_parts, and_from, or_cases, or_right, cases_Bool}
use Rattle.std.proofs.lemmas.Bool.Decides.{nat_tests}
use Rattle.prop_core.specs.declared.lit.Lit.{Lit}
use Rattle.prop_core.specs.Clauses.{Clause, negation, same_literal, is_true, is_false}
use Rattle.prop_core.specs.Trail.{no_literal, has_var, HasVarsOnce}
use Rattle.prop_core.proofs.Entailed.{same_itself}
use Rattle.prop_core.proofs.Literals.{same_is, negation_twice, place_found, has_among, once_cons, once_apart}
use Rattle.sat_prop.specs.TrailState.{TrailState, IsJustified}
use Rattle.sat_prop.specs.Changes.{IsFront}
use Rattle.sat_prop.proofs.Justifying.{justified_once}
use Rattle.sat_prop.proofs.Fronts.{front_held}
use Rattle.sat_learn.specs.Seen.{IsRefutedBySeen, negated_seen, is_known_var, IsDecidedFrom}
use Rattle.sat_learn.specs.Learnt.{IsClosing, IsDecidedAt}
use Rattle.sat_learn.proofs.Reasoning.{known_held}
use Rattle.sat_learn.proofs.Finishing.{derives_from, negated_has, negated_is, negated_none, negated_once, negated_known}

-- one more place is done: what is seen there was decided
pub decided_next : (reasons : List (Option ℕ)) (seen new : List Bool) (k : ℕ) → length new ≡ length seen → ((i : ℕ) → k < i → i < length seen → get_or new i false ≡ get_or seen i false) → (get_or new k false ≡ true → is_none (get_or reasons k None) ≡ true)
    → IsDecidedFrom reasons seen (k + 1) → IsDecidedFrom reasons new k
decided_next reasons seen new k size same here h i m b s =
    ⊎_elim (λ e. let q : k < i = let r = e in grind (arith, nat_tests) in h i (omega arith) (omega arith) (sym (same i q (omega arith)) ∙ s))
    (λ e. let q : i ≡ k = let r = e in grind (arith, nat_tests) in rw q (here (subst (λ (j : ℕ). get_or new j false ≡ true) q s)))
    (cases_Bool (nat_lt k i))

negated_decided : (t : TrailState) (seen : List Bool) → IsDecidedFrom t.reasons seen 0 → length seen ≡ length t.literals → (x : Lit) → list_any (same_literal x) (negated_seen t.literals seen (length t.literals)) ≡ true → (i : ℕ) × IsDecidedAt t x i
negated_decided t seen s size x e =
    let i = negated_is t.literals seen (length t.literals) x e in
    let b = i.1.below in
    (i.0, record { within = b; is = sym (ap negation i.1.is ∙ negation_twice (get_or t.literals i.0 no_literal)); decided = s i.0 (omega arith) (omega arith) i.1.seen_at })

pub closing_from : (t : TrailState) (all : List Clause) (seen : List Bool) (back : List ℕ) → IsJustified t.clauses t.attached t.literals t.reasons t.vars → IsRefutedBySeen all t.literals [] seen back → IsDecidedFrom t.reasons seen 0
    → IsClosing t all [] (negated_seen t.literals seen (length t.literals)) (reverse back)
closing_from t all seen back tr h s =
    let once = justified_once t.clauses t.attached t.literals t.reasons t.vars tr in
    let apart = negated_once t.literals once seen (length t.literals) (omega arith) in
    record {
      derives = derives_from all t.literals [] seen back (negated_seen t.literals seen (length t.literals)) h apart (λ i m o. negated_has t.literals seen (length t.literals) i m o) (λ x e. absurd (let q = e in cc));
      once = apart;
      known = negated_known all t.literals [] seen back (length t.literals) h (omega arith);
      decided = λ x e. inr (negated_decided t seen s h.size x e);
    }

some_of : (o : Option ℕ) → is_none o ≡ false → (id : ℕ) × (o ≡ Some id)
some_of None e = cc
some_of (Some id) e = (id, refl)

-- a literal that is false stands at the place of its variable
pub false_stands : (literals : List Lit) → HasVarsOnce literals → (l : Lit) (p : ℕ) → is_false literals l ≡ true → p < length literals → (get_or literals p no_literal).var ≡ l.var → get_or literals p no_literal ≡ negation l
false_stands literals t l p f b v =
    let a = place_found literals (negation l) f in
    let q : a.0 ≡ p = once_apart literals a.0 p t a.1.within b (ap (λ (x : Lit). x.var) a.1.at ∙ sym v) in
    subst (λ (j : ℕ). get_or literals j no_literal ≡ negation l) q a.1.at

-- its place and the literal itself are never both true
pub fail_start : (t : TrailState) (all : List Clause) (l : Lit) (p : ℕ) (seen : List Bool) (back : List ℕ) → IsFront t.clauses all → IsJustified t.clauses t.attached t.literals t.reasons t.vars → is_false t.literals l ≡ true → p < length t.literals → (get_or t.literals p no_literal).var ≡ l.var
    → is_none (get_or t.reasons p None) ≡ false → length seen ≡ length t.literals → ((i : ℕ) → get_or seen i false ≡ false) → IsRefutedBySeen all t.literals (l ∷ []) (slice_set seen p true) back
fail_start t all l p seen back front tr f b v why size cleared =
    let at = false_stands t.literals (justified_once t.clauses t.attached t.literals t.reasons t.vars tr) l p f b v in
    let on : get_or (slice_set seen p true) p false ≡ true = grind (arith, common_steps) in
    let id = some_of (get_or t.reasons p None) why in
    let r = tr.forced p id.0 b id.1 in
    let c = r.clause in
    let g = and_parts (list_any (same_literal (get_or t.literals p no_literal)) c) (list_all (λ x. same_literal (get_or t.literals p no_literal) x || is_false (take p t.literals) x) c) r.alone in
    record {
      size = grind (arith, common_steps);
      refutes = λ taken n consistent covers.
          let a = covers.more l (let s = same_itself l in rw s refl) in
          let d = subst (λ (x : Lit). is_true taken x ≡ true) at (covers.each p b on) in
          let e = consistent l a in
          absurd (let z : true ≡ false = sym d ∙ e in cc);
      known = λ i m s. ⊎_elim
          (λ e. let q : i ≡ p = eqb-true i p e in rw q (known_held all id.0 c (get_or t.literals p no_literal).var (front_held t.clauses all id.0 c front r.held) (has_among c (get_or t.literals p no_literal) g.0)))
          (λ e. let n : i ≡ p → ⊥ = λ q. (let a = eq-eqb i p q in let z : true ≡ false = sym a ∙ e in cc) in
          let w : get_or (slice_set seen p true) i false ≡ get_or seen i false = grind (arith, common_steps) in
          absurd (let z : true ≡ false = sym s ∙ w ∙ cleared i in cc))
          (cases_Bool (eqb i p));
    }

pub fail_from : (t : TrailState) (all : List Clause) (l : Lit) (p : ℕ) (seen : List Bool) (back : List ℕ) → IsJustified t.clauses t.attached t.literals t.reasons t.vars → is_false t.literals l ≡ true → p < length t.literals → (get_or t.literals p no_literal).var ≡ l.var
    → is_none (get_or t.reasons p None) ≡ false → is_known_var all l.var ≡ true → IsRefutedBySeen all t.literals (l ∷ []) seen back → IsDecidedFrom t.reasons seen 0 → IsClosing t all (l ∷ []) (negation l ∷ negated_seen t.literals seen (length t.literals)) (reverse back)
fail_from t all l p seen back tr f b v why var h s =
    let size = h.size in
    let once = justified_once t.clauses t.attached t.literals t.reasons t.vars tr in
    let c = negated_seen t.literals seen (length t.literals) in
    let off : get_or seen p false ≡ false = ⊎_elim (λ e. let a = s p (omega arith) (omega arith) e in absurd (let z : true ≡ false = sym a ∙ why in cc)) (λ e. e) (cases_Bool (get_or seen p false)) in
    let none : has_var l.var c ≡ false = subst (λ (n : ℕ). has_var n c ≡ false) v (negated_none t.literals once seen (length t.literals) p (omega arith) b (inr off)) in
    let apart : HasVarsOnce (negation l ∷ c) = once_cons (negation l) c none (negated_once t.literals once seen (length t.literals) (omega arith)) in
    record {
      derives = derives_from all t.literals (l ∷ []) seen back (negation l ∷ c) h apart (λ i m o. or_right _ _ (negated_has t.literals seen (length t.literals) i m o))
          (λ x e. let q : x ≡ l = ⊎_elim (λ r. same_is x l r) (λ r. absurd (let z = r in cc)) (or_cases (same_literal x l) false e) in rw q (let a = same_itself (negation l) in rw a refl));
      once = apart;
      known = and_from _ _ var (negated_known all t.literals (l ∷ []) seen back (length t.literals) h (omega arith));
      decided = λ x e. ⊎_elim
          (λ r. let q : x ≡ negation l = same_is x (negation l) r in inl (let z : negation x ≡ l = ap negation q ∙ negation_twice l in subst (λ (y : Lit). is_true (l ∷ []) y ≡ true) (sym z) (let a = same_itself l in rw a refl)))
          (λ r. inr (negated_decided t seen s h.size x r))
          (or_cases (same_literal x (negation l)) (list_any (same_literal x) c) e);
    }

pub closing_same : (t : TrailState) (all : List Clause) (also c d : List Lit) (hs ks : List ℕ) → c ≡ d → hs ≡ ks → IsClosing t all also d ks → IsClosing t all also c hs
closing_same t all also c d hs ks e f r = rw (e, f) r

pub negated_same : (none all literals now : List Lit) (seen : List Bool) (n m : ℕ) → none ≡ [] → all ≡ none ++ negated_seen now seen n → now ≡ literals → n ≡ m → all ≡ negated_seen literals seen m
negated_same none all literals now seen n m a b c d = b ∙ rw (a, c, d) refl

pub fail_known : (t : TrailState) (all : List Clause) (l : Lit) (p : ℕ) (seen : List Bool) (back : List ℕ) → IsRefutedBySeen all t.literals (l ∷ []) (slice_set seen p true) back → length seen ≡ length t.literals → p < length t.literals → (get_or t.literals p no_literal).var ≡ l.var → is_known_var all l.var ≡ true
fail_known t all l p seen back h size b v =
    let on : get_or (slice_set seen p true) p false ≡ true = grind (arith, common_steps) in
    subst (λ (n : ℕ). is_known_var all n ≡ true) v (h.known p b on)
