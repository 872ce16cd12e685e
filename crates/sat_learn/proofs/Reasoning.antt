-- Reasons, and a place that is resolved.
use Rattle.std.proofs.Common.{◌≡◌, ◌∙◌, ℕ, ◌-◌, ◌<◌, ◌≤◌, Bool, true, false, ◌||◌, ◌++◌, ◌∷◌, [], List, refl, ap, sym, length, take, get_or, arith, subst, ⊎_elim, eqb}
use Rattle.std.specs.Prelude.{Some, slice_set, reverse}
use Rattle.std.specs.List.{list_any, list_all}
use Rattle.std.proofs.lemmas.Grind.{common_steps}
use Rattle.std.proofs.lemmas.Bool.{eqb-true, eq-eqb, and_parts, or_cases, or_right, cases_Bool}
use Rattle.std.proofs.lemmas.List.Folds.{list_any_at}
use Rattle.std.proofs.lemmas.Option.{get_or_from_slice_get}
use Rattle.prop_core.specs.declared.lit.Lit.{Lit}
use Rattle.prop_core.specs.Clauses.{Clause, negation, same_literal, is_false}
use Rattle.prop_core.specs.Derivation.{clause_numbered}
use Rattle.prop_core.specs.Trail.{no_literal, has_var, is_forced_by, HasVarsOnce}
use Rattle.prop_core.proofs.Literals.{same_is, negation_twice, place_found, has_at, has_back, all_from, all_at, once_apart}
use Rattle.sat_prop.specs.TrailState.{IsReason}
use Rattle.sat_prop.specs.Changes.{IsFront}
use Rattle.sat_prop.proofs.Fronts.{front_held, held_same, number_of}
use Rattle.sat_learn.specs.Seen.{Refutes, is_known_var, IsRefutedBySeen}
use Rattle.sat_learn.proofs.Refuting.{refutes_step}

-- where a literal of a reason stands
pub record StandsBefore (literals : List Lit) (p : ℕ) (x : Lit) (j : ℕ) : Type 0 where
  pub upto : j ≤ p
  pub at : (get_or literals j no_literal).var ≡ x.var
  pub other : (j ≡ p → ⊥) → negation (get_or literals j no_literal) ≡ x

pub reason_stands : (literals : List Lit) (p : ℕ) (c : Clause) (x : Lit) → p < length literals → is_forced_by (take p literals) (get_or literals p no_literal) c ≡ true → list_any (same_literal x) c ≡ true → (j : ℕ) × StandsBefore literals p x j
reason_stands literals p c x h alone e =
    let g = and_parts (list_any (same_literal (get_or literals p no_literal)) c) (list_all (λ x. same_literal (get_or literals p no_literal) x || is_false (take p literals) x) c) alone in
    ⊎_elim
    (λ s. let q = same_is (get_or literals p no_literal) x s in (p, record { upto = omega arith; at = ap (λ (l : Lit). l.var) q; other = λ n. absurd (n refl) }))
    (λ s. let a = place_found (take p literals) (negation x) s in
    let w = a.1.within in
    let m : a.0 < p = grind (arith, common_steps) in
    let q : get_or (take p literals) a.0 no_literal ≡ get_or literals a.0 no_literal = grind (arith, common_steps) in
    let u : get_or literals a.0 no_literal ≡ negation x = sym q ∙ a.1.at in
    (a.0, record { upto = omega arith; at = ap (λ (l : Lit). l.var) u; other = λ n. ap negation u ∙ negation_twice x }))
    (or_cases (same_literal (get_or literals p no_literal) x) (is_false (take p literals) x) (all_at (λ x. same_literal (get_or literals p no_literal) x || is_false (take p literals) x) c x g.1 e))

pub reason_on_trail : (literals : List Lit) (p : ℕ) (c : Clause) → p < length literals → is_forced_by (take p literals) (get_or literals p no_literal) c ≡ true → list_all (λ l. has_var l.var literals) c ≡ true
reason_on_trail literals p c h alone = all_from (λ l. has_var l.var literals) c (λ x e. let s = reason_stands literals p c x h alone e in let u = s.1.upto in has_at literals s.0 x.var (omega arith) s.1.at)

-- behind the place no variable of the reason stands
pub none_above : (literals : List Lit) → HasVarsOnce literals
    → (p : ℕ) (c : Clause) → p < length literals → is_forced_by (take p literals) (get_or literals p no_literal) c ≡ true → (i : ℕ) → p < i → i < length literals → has_var (get_or literals i no_literal).var c ≡ false
none_above literals t p c h alone i m k =
    ⊎_elim (λ e. let x = has_back c (get_or literals i no_literal).var e in
    let s = reason_stands literals p c x.0 h alone x.1.among in
    let u = s.1.upto in
    let q : i ≡ s.0 = once_apart literals i s.0 t k (omega arith) (sym x.1.var ∙ sym s.1.at) in absurd (omega arith))
    (λ e. e) (cases_Bool (has_var (get_or literals i no_literal).var c))

-- a variable of a clause that is held stands in one of the clauses
pub known_held : (cs : List Clause) (n : ℕ) (c : Clause) (v : ℕ) → clause_numbered cs n ≡ Some c → has_var v c ≡ true → is_known_var cs v ≡ true
known_held cs n c v k e =
    let m = number_of cs n c k in
    let a = m.from_one in
    let b = m.in_range in
    let h : n - 1 < length cs = omega arith in
    let g : get_or cs (n - 1) [] ≡ c = get_or_from_slice_get cs (n - 1) c [] m.got in
    list_any_at (has_var v) cs (n - 1) [] h (subst (λ (d : List Lit). has_var v d ≡ true) (sym g) e)

-- the last number comes first
pub back_push : (back : List ℕ) (id : ℕ) → reverse (back ++ id ∷ []) ≡ id ∷ reverse back
back_push back id = grind (arith, common_steps)

-- a place is resolved
pub refuted_step : (all : List Clause) (literals also : List Lit) (seen marked : List Bool) (back more : List ℕ) (p id : ℕ) (c : Clause) → p < length literals → clause_numbered all id ≡ Some c → is_forced_by (take p literals) (get_or literals p no_literal) c ≡ true
    → length marked ≡ length literals → ((i : ℕ) → i < length literals → get_or marked i false ≡ (get_or seen i false || has_var (get_or literals i no_literal).var c)) → more ≡ back ++ id ∷ []
    → IsRefutedBySeen all literals also seen back → IsRefutedBySeen all literals also (slice_set marked p false) more
refuted_step all literals also seen marked back more p id c b k alone size each e h = record {
  size = grind (arith, common_steps);
  refutes = let q : reverse more ≡ id ∷ reverse back = ap (λ (xs : List ℕ). reverse xs) e ∙ back_push back id in
      subst (λ (ns : List ℕ). Refutes (clause_numbered all) literals also (slice_set marked p false) ns) (sym q)
      (refutes_step (clause_numbered all) literals also seen (slice_set marked p false) (reverse back) id p c k b alone (λ i m n s.
      let g : get_or (slice_set marked p false) i false ≡ get_or marked i false = grind (arith, common_steps) in
      g ∙ each i m ∙ ⊎_elim (λ a. rw a) (λ a. or_right (get_or seen i false) _ a) s)
      h.refutes);
  known = λ i m s.
      ⊎_elim (λ r. let q : i ≡ p = eqb-true i p r in
      let z : get_or (slice_set marked p false) p false ≡ false = grind (arith, common_steps) in
      absurd (let y : true ≡ false = sym (subst (λ (j : ℕ). get_or (slice_set marked p false) j false ≡ true) q s) ∙ z in cc))
      (λ r. let n : i ≡ p → ⊥ = λ q. (let a = eq-eqb i p q in let z : true ≡ false = sym a ∙ r in cc) in
      let g : get_or (slice_set marked p false) i false ≡ get_or marked i false = grind (arith, common_steps) in
      let f : (get_or seen i false || has_var (get_or literals i no_literal).var c) ≡ true = sym (each i m) ∙ sym g ∙ s in
      ⊎_elim (λ a. h.known i m a)
      (λ a. known_held all id c (get_or literals i no_literal).var k a)
      (or_cases (get_or seen i false) (has_var (get_or literals i no_literal).var c) f))
      (cases_Bool (eqb i p));
}

-- the clause that is read is the reason
pub read_reason : (cs all : List Clause) (att : List ℕ) (taken : List Lit) (l : Lit) (id : ℕ) (c : Clause) → IsFront cs all → IsReason cs att taken l id → clause_numbered all id ≡ Some c → is_forced_by taken l c ≡ true
read_reason cs all att taken l id c f r g =
    subst (λ (d : Clause). is_forced_by taken l d ≡ true) (held_same all id r.clause c (front_held cs all id r.clause f r.held) g) r.alone

pub above_step : (seen marked : List Bool) (p i : ℕ) (h : Bool) → p < i → get_or marked i false ≡ (get_or seen i false || h) → h ≡ false → get_or (slice_set marked p false) i false ≡ get_or seen i false
above_step seen marked p i h m e n =
    let g : get_or (slice_set marked p false) i false ≡ get_or marked i false = grind (arith, common_steps) in
    g ∙ e ∙ (rw n (or_none (get_or seen i false)))
  where
    or_none : (a : Bool) → (a || false) ≡ a
    or_none true = refl
    or_none false = refl
