-- What a clause that stands in another one says of it: where it is quiet, the other one is. So the other one needn't be looked at.
use Rattle.std.proofs.Common.{◌≡◌, ◌∙◌, ℕ, ◌≤◌, true, ◌||◌, List, refl, ap, sym, subst, ⊎_elim, Some}
use Rattle.std.specs.List.{list_any, list_all}
use Rattle.std.proofs.lemmas.Bool.{cases_Bool, and_from, and_parts, or_cases}
use Rattle.prop_core.specs.declared.lit.Lit.{Lit}
use Rattle.prop_core.specs.Clauses.{Clause, same_literal, is_false, AreConsistent}
use Rattle.prop_core.specs.Derivation.{Standing, falsified, satisfied, unit, wide, standing, clause_numbered}
use Rattle.prop_core.specs.Trail.{is_quiet}
use Rattle.prop_core.proofs.Literals.{same_is, all_from, all_at}
use Rattle.prop_core.proofs.Forcing.{falsified_from, falsified_parts, unit_forces, forced_unit}
use Rattle.sat_prop.specs.Changes.{IsFront}
use Rattle.sat_prop.specs.declared.watch_lists.Watch.{Watch}
use Rattle.sat_prop.specs.Watches.{IsLive, watch_at}
use Rattle.sat_prop.specs.Watching.{IsWatch, IsLookedAt, IsCovered, Subsumes, is_part_of}
use Rattle.sat_prop.proofs.Fronts.{front_held, held_same, number_of}
use Rattle.sat_prop.proofs.Links.{not_both}

-- ---- a clause that is quiet

-- where a clause is quiet that stands in another one, that one is
pub quiet_part : (taken inner outer : List Lit) → AreConsistent taken → is_part_of inner outer ≡ true → is_quiet (standing taken inner) ≡ true → is_quiet (standing taken outer) ≡ true
quiet_part taken inner outer n h q = by (standing taken outer) refl
  where
    among : (x : Lit) → list_any (same_literal x) inner ≡ true → list_any (same_literal x) outer ≡ true
    among x e = all_at (λ l. list_any (same_literal l) outer) inner x h e

    not_false : standing taken inner ≡ falsified → ⊥
    not_false e = let z = sym (ap is_quiet e) ∙ q in cc

    not_unit : (l : Lit) → standing taken inner ≡ unit l → ⊥
    not_unit l e = let z = sym (ap is_quiet e) ∙ q in cc

    all_false : standing taken outer ≡ falsified → ⊥
    all_false e =
        let f = falsified_parts taken outer e in
        not_false (falsified_from taken inner (all_from (is_false taken) inner (λ x a. all_at (is_false taken) outer x f (among x a))))

    one_open : (l : Lit) → standing taken outer ≡ unit l → ⊥
    one_open l e =
        let u = unit_forces taken outer l e in
        let f = and_parts (list_any (same_literal l) outer) (list_all (λ k. same_literal l k || is_false taken k) outer) u.alone in
        let rest : list_all (λ k. same_literal l k || is_false taken k) inner ≡ true = all_from (λ k. same_literal l k || is_false taken k) inner (λ x a. all_at (λ k. same_literal l k || is_false taken k) outer x f.1 (among x a)) in
        ⊎_elim
        (λ s. not_unit l (forced_unit taken inner l n u.open_now (and_from _ _ s rest)))
        (λ s. not_false (falsified_from taken inner (all_from (is_false taken) inner (λ x a. ⊎_elim
        (λ i. absurd (not_both _ (subst (λ (y : Lit). list_any (same_literal y) inner ≡ true) (sym (same_is l x i)) a) s))
        (λ i. i)
        (or_cases (same_literal l x) (is_false taken x) (all_at (λ k. same_literal l k || is_false taken k) inner x rest a))))))
        (cases_Bool (list_any (same_literal l) inner))

    by : (s : Standing) → standing taken outer ≡ s → is_quiet s ≡ true
    by falsified e = absurd (all_false e)
    by satisfied e = refl
    by (unit l) e = absurd (one_open l e)
    by wide e = refl

-- ---- clauses that others subsume

part_itself : (clause : Clause) → is_part_of clause clause ≡ true
part_itself clause = all_from (λ l. list_any (same_literal l) clause) clause (λ x e. e)

part_trans : (a b c : Clause) → is_part_of a b ≡ true → is_part_of b c ≡ true → is_part_of a c ≡ true
part_trans a b c h k = all_from (λ l. list_any (same_literal l) c) a (λ x e. all_at (λ l. list_any (same_literal l) c) b x k (all_at (λ l. list_any (same_literal l) b) a x h e))

pub subsumes_trans : (clauses : List Clause) (a b c : ℕ) → Subsumes clauses a b → Subsumes clauses b c → Subsumes clauses a c
subsumes_trans clauses a b c h k =
    let e : h.outer_clause ≡ k.inner_clause = held_same clauses b h.outer_clause k.inner_clause h.outer_held k.inner_held in
    record {
      inner_clause = h.inner_clause;
      inner_held = h.inner_held;
      outer_clause = k.outer_clause;
      outer_held = k.outer_held;
      part = part_trans h.inner_clause k.inner_clause k.outer_clause (subst (λ (x : Clause). is_part_of h.inner_clause x ≡ true) e h.part) k.part;
    }

-- as the database grows
subsumes_front : (cs all : List Clause) (a b : ℕ) → IsFront cs all → Subsumes cs a b → Subsumes all a b
subsumes_front cs all a b f s = record {
  inner_clause = s.inner_clause;
  inner_held = front_held cs all a s.inner_clause f s.inner_held;
  outer_clause = s.outer_clause;
  outer_held = front_held cs all b s.outer_clause f s.outer_held;
  part = s.part;
}

-- a clause that is looked at covers itself
pub covered_itself : (clauses : List Clause) (short : List ℕ) (watches : List Watch) (number : ℕ) (clause : Clause) → clause_numbered clauses number ≡ Some clause → IsLookedAt short watches number → IsCovered clauses short watches number
covered_itself clauses short watches number clause held looked = record {
  cover = number;
  looked = looked;
  subsumes = record { inner_clause = clause; inner_held = held; outer_clause = clause; outer_held = held; part = part_itself clause };
}

-- what is covered stays so where each clause that was looked at is still looked at
pub covered_kept : (cs all : List Clause) (short more : List ℕ) (watches new : List Watch) (number : ℕ) → IsFront cs all → ((k : ℕ) → IsLookedAt short watches k → IsLookedAt more new k) → IsCovered cs short watches number → IsCovered all more new number
covered_kept cs all short more watches new number f g c = record { cover = c.cover; looked = g c.cover c.looked; subsumes = subsumes_front cs all c.cover number f c.subsumes }

-- ---- watches that weren't dropped

-- a clause that is held has a number from 1
pub live_of : (clauses : List Clause) (number : ℕ) (clause : Clause) → clause_numbered clauses number ≡ Some clause → 1 ≤ number
live_of clauses number clause held = (number_of clauses number clause held).from_one

-- the other watch of a clause wasn't dropped either
pub twin_live : (clauses : List Clause) (attached : List ℕ) (watches : List Watch) (n : ℕ) → IsWatch clauses attached watches n → IsLive watches n → IsLive watches (watch_at watches n).twin
twin_live clauses attached watches n k l = subst (λ (x : ℕ). 1 ≤ x) (sym k.same) l
