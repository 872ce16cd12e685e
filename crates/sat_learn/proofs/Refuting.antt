-- Hints that derive from whatever covers the places that are seen.
use Rattle.std.proofs.Common.{◌≡◌, ◌∙◌, ℕ, ◌+◌, ◌<◌, Bool, true, false, ◌||◌, ◌++◌, ◌∷◌, [], List, refl, sym, length, take, get_or, arith, subst, inl, inr, ⊎_elim, eqb}
use Rattle.std.specs.Prelude.{Option, Some, ◌⊎◌}
use Rattle.std.specs.List.{list_any, list_all}
use Rattle.std.proofs.lemmas.Grind.{common_steps}
use Rattle.std.proofs.lemmas.Bool.{eqb-true, eq-eqb, and_parts, and_from, or_cases, or_right, cases_Bool}
use Rattle.prop_core.specs.declared.lit.Lit.{Lit}
use Rattle.prop_core.specs.Clauses.{Clause, negation, same_literal, is_true, is_false}
use Rattle.prop_core.specs.Trail.{no_literal, has_var, is_forced_by}
use Rattle.prop_core.proofs.Entailed.{same_itself}
use Rattle.prop_core.proofs.Literals.{IsAt, place_found, has_among, all_from, all_at, true_more}
use Rattle.prop_core.proofs.Forcing.{falsified_from, forced_stands, consistent_more}
use Rattle.prop_core.proofs.Following.{follow-falsified, follow-satisfied, follow-unit}
use Rattle.sat_learn.specs.Seen.{Covers, Refutes}

-- a clause that is false by the trail begins the hints
pub refutes_start : (held : ℕ → Option Clause) (literals also : List Lit) (seen : List Bool) (h : ℕ) (c : List Lit) → held h ≡ Some c
    → ((x : Lit) → list_any (same_literal x) c ≡ true → ((i : ℕ) × IsAt literals (negation x) i × (get_or seen i false ≡ true)) ⊎ (is_false also x ≡ true))
    → Refutes held literals also seen (h ∷ [])
refutes_start held literals also seen h c k f taken at n v =
    follow-falsified held taken at h [] c k (falsified_from taken c (all_from (is_false taken) c (λ x e.
    ⊎_elim (λ s. subst (λ (z : Lit). is_true taken z ≡ true) s.1.at (v.each s.0 s.1.within s.2)) (λ s. v.more (negation x) s) (f x e))))

-- a reason goes before the hints
pub refutes_step : (held : ℕ → Option Clause) (literals also : List Lit) (seen new : List Bool) (hints : List ℕ) (h p : ℕ) (c : List Lit) → held h ≡ Some c
    → p < length literals → is_forced_by (take p literals) (get_or literals p no_literal) c ≡ true
    → ((i : ℕ) → i < length literals → (i ≡ p → ⊥) → (get_or seen i false ≡ true) ⊎ (has_var (get_or literals i no_literal).var c ≡ true) → get_or new i false ≡ true)
    → Refutes held literals also seen hints → Refutes held literals also new (h ∷ hints)
refutes_step held literals also seen new hints h p c k b alone f r taken at n v =
    let l = get_or literals p no_literal in
    let g = and_parts (list_any (same_literal l) c) (list_all (λ x. same_literal l x || is_false (take p literals) x) c) alone in
    let others : list_all (λ x. same_literal l x || is_false taken x) c ≡ true = all_from (λ x. same_literal l x || is_false taken x) c (λ x e.
    ⊎_elim (λ s. rw s)
    (λ s. let a = place_found (take p literals) (negation x) s in
    let w = a.1.within in
    let m : a.0 < p = grind (arith, common_steps) in
    let q : get_or (take p literals) a.0 no_literal ≡ get_or literals a.0 no_literal = grind (arith, common_steps) in
    let u : get_or literals a.0 no_literal ≡ negation x = sym q ∙ a.1.at in
    let y : has_var (get_or literals a.0 no_literal).var c ≡ true = subst (λ (z : Lit). has_var z.var c ≡ true) (sym u) (has_among c x e) in
    or_right (same_literal l x) _ (subst (λ (z : Lit). is_true taken z ≡ true) u (v.each a.0 (omega arith) (f a.0 (omega arith) (λ i. omega arith) (inr y)))))
    (or_cases (same_literal l x) (is_false (take p literals) x) (all_at (λ x. same_literal l x || is_false (take p literals) x) c x g.1 e))) in
    let covers : (more : List Lit) → ((x : Lit) → is_true taken x ≡ true → is_true more x ≡ true) → is_true more l ≡ true → Covers literals also seen more = λ more w t. record {
      each = λ i m e. ⊎_elim (λ s. let q : i ≡ p = eqb-true i p s in subst (λ (j : ℕ). is_true more (get_or literals j no_literal) ≡ true) (sym q) t)
          (λ s. w _ (v.each i m (f i m (λ q. (let a = eq-eqb i p q in let z : true ≡ false = sym a ∙ s in cc)) (inl e)))) (cases_Bool (eqb i p));
      more = λ x e. w x (v.more x e);
    } in
    ⊎_elim (λ a. follow-falsified held taken at h hints c k a)
    (λ s. ⊎_elim
    (λ a. follow-satisfied held taken at h hints c k a.0 ∙ r taken (at + 1) n (covers taken (λ x e. e) a.1))
    (λ a. follow-unit held taken at h hints c l k a.0 ∙ r (taken ++ l ∷ []) (at + 1) (consistent_more taken l n a.1)
    (covers (taken ++ l ∷ []) (λ x e. true_more taken l x ∙ (rw e refl)) (true_more taken l l ∙ or_right (is_true taken l) _ (same_itself l)))) s)
    (forced_stands taken c l n (and_from _ _ g.0 others))
