-- A trail that serves a search, through propagation and decisions.
use Rattle.std.proofs.Common.{◌≡◌, ◌∙◌, ℕ, ◌+◌, ◌-◌, ◌<◌, ◌≤◌, true, false, not, ◌++◌, ◌∷◌, [], List, refl, ap, sym, length, take, drop, zero, suc, get_or, arith, subst, ⊎_elim, cond}
use Rattle.std.specs.Prelude.{Option, Some, None, ◌⊎◌, is_none}
use Rattle.std.specs.List.{list_any, list_all, AllByRecursion}
use Rattle.std.proofs.lemmas.Grind.{common_steps}
use Rattle.std.proofs.lemmas.Bool.{and_parts, cases_lt}
use Rattle.std.proofs.lemmas.List.Sums.{sum_by-take-drop}
use Rattle.std.proofs.lemmas.List.Elements.{All-from_get_or, All-get_or, All-push, All-take}
use Rattle.std.proofs.lemmas.Option.{get_or_from_slice_get}
use Rattle.prop_core.specs.declared.lit.Lit.{Lit}
use Rattle.prop_core.specs.Clauses.{Clause, same_literal, is_true, is_false, HasValues, AreConsistent}
use Rattle.prop_core.specs.Trail.{no_literal}
use Rattle.prop_core.proofs.Literals.{below_at, place_found, true_at, all_at}
use Rattle.sat_prop.specs.TrailState.{TrailState, literal_at, reason_at, IsJustified}
use Rattle.sat_prop.specs.Levels.{level_of}
use Rattle.sat_prop.specs.Changes.{Propagates, IsKeptUpTo, with_true_literal}
use Rattle.sat_prop.specs.Kept.{IsTrailState}
use Rattle.sat_prop.proofs.Fronts.{split_last, front_at, front_take, number_of}
use Rattle.sat_prop.proofs.Justifying.{justified_once}
use Rattle.sat_learn.proofs.Closing.{false_stands}
use Rattle.sat_solve.specs.Solving.{AssumedFirst, IsServing, IsUnder, IsAssumptionLeft, HasAssumedDecisions}
use Rattle.des_base.proofs.BoolLemmas.{not_true}

abbrev no_reason : Option ℕ
no_reason = None

counts_none : (reasons : List (Option ℕ)) (i : ℕ) → level_of reasons ≡ 0 → i < length reasons → reason_at reasons i ≡ None → ⊥
counts_none [] i e h n = absurd (let q : i < 0 = h in omega arith)
counts_none (None ∷ reasons) i e h n = let q : level_of (no_reason ∷ reasons) ≡ level_of reasons + 1 = grind (arith, common_steps) in absurd (omega arith)
counts_none (Some number ∷ reasons) zero e h n = cc
counts_none (Some number ∷ reasons) (suc i) e h n = counts_none reasons i e (omega arith) n

-- propagation decides nothing
no_new_decision : (old new : List (Option ℕ)) (k : ℕ) → take (length old) new ≡ old → level_of new ≡ level_of old → length old ≤ k → k < length new → reason_at new k ≡ None → ⊥
no_new_decision old new k e c h b n =
    let s = sum_by-take-drop (λ w. cond (is_none w) 1 0) new (length old) in
    let f : level_of (take (length old) new) ≡ level_of old = ap level_of e in
    let z : level_of (drop (length old) new) ≡ 0 = omega arith in
    let m : k - length old < length (drop (length old) new) = grind (arith, common_steps) in
    let g : get_or (drop (length old) new) (k - length old) None ≡ get_or new k None = grind (arith, common_steps) in
    counts_none (drop (length old) new) (k - length old) z m (g ∙ n)

some_reason : (o : Option ℕ) → (o ≡ None → ⊥) → (number : ℕ) × (o ≡ Some number)
some_reason None h = absurd (h refl)
some_reason (Some number) h = (number, refl)

pub each_below : (vars : ℕ) (cs : List Clause) (n : ℕ) → AllByRecursion (HasValues vars) cs → n < length cs → HasValues vars (get_or cs n [])
each_below vars [] n a h = absurd (let q : n < 0 = h in omega arith)
each_below vars (c ∷ cs) zero a h = a.0
each_below vars (c ∷ cs) (suc n) a h = each_below vars cs n a.1 (omega arith)

-- a literal that an attached clause forces has a known variable
forced_below : (vars : ℕ) (t : TrailState) (k : ℕ) → IsJustified t.clauses t.attached t.literals t.reasons t.vars → AllByRecursion (HasValues vars) t.clauses → k < length t.literals → (reason_at t.reasons k ≡ None → ⊥) → (literal_at t.literals k).var < vars
forced_below vars t k j below h n =
    let r = some_reason (get_or t.reasons k None) n in
    let f = j.forced k r.0 h r.1 in
    let m = number_of t.clauses r.0 f.clause f.held in
    let a = m.from_one in
    let b = m.in_range in
    let g : get_or t.clauses (r.0 - 1) [] ≡ f.clause = get_or_from_slice_get t.clauses (r.0 - 1) f.clause [] m.got in
    let values = subst (λ (c : Clause). HasValues vars c) g (each_below vars t.clauses (r.0 - 1) below (omega arith)) in
    below_at vars f.clause (get_or t.literals k no_literal) values (and_parts (list_any (same_literal (get_or t.literals k no_literal)) f.clause) _ f.alone).0

-- propagation serves on
pub serving_grown : (vars spare : ℕ) (t u : TrailState) → IsServing vars spare t → Propagates t u → IsTrailState t → IsTrailState u → IsServing vars spare u
serving_grown vars spare t u s p ts us = record {
  joined = rw (p.clauses, p.attached) s.joined;
  below = rw p.clauses s.below;
  literals_below = All-from_get_or (λ (l : Lit). l.var < vars) u.literals no_literal (λ k h. ⊎_elim
      (λ b. let e = front_at t.literals u.literals k no_literal p.literals b in subst (λ (l : Lit). l.var < vars) (sym e) (All-get_or (λ (l : Lit). l.var < vars) t.literals k no_literal b s.literals_below))
      (λ b. let m = ts.justified.same in let n = us.justified.same in
      forced_below vars u k us.justified (rw p.clauses s.below) h (no_new_decision t.reasons u.reasons k p.reasons p.level (omega arith) (omega arith)))
      (cases_lt k (length t.literals)));
  enough = rw p.vars s.enough;
  room = rw p.spare s.room;
}

pub under_grown : (assumed : List Lit) (vars : ℕ) (t u : TrailState) → IsUnder assumed vars t → Propagates t u → IsTrailState t → IsTrailState u → IsUnder assumed vars u
under_grown assumed vars t u s p ts us = record {
  first = λ k h e. ⊎_elim
      (λ m. let same = ts.justified.same in
      let w = front_at t.reasons u.reasons k None p.reasons (omega arith) in
      let l = front_at t.literals u.literals k no_literal p.literals m in
      let x = front_take t.literals u.literals k p.literals (omega arith) in
      rw (l, x) (s.first k m (sym w ∙ e)))
      (λ b. let m = ts.justified.same in let n = us.justified.same in absurd (no_new_decision t.reasons u.reasons k p.reasons p.level (omega arith) (omega arith) e))
      (cases_lt k (length t.literals));
  below = s.below;
  compatible = s.compatible;
}

-- a decision
pub serving_decided : (vars spare : ℕ) (t u : TrailState) (l : Lit) → IsServing vars spare t → u ≡ with_true_literal t l None → l.var < vars → IsServing vars spare u
serving_decided vars spare t u l s e b = rw e (record {
  joined = s.joined;
  below = s.below;
  literals_below = All-push (λ (x : Lit). x.var < vars) t.literals l s.literals_below b;
  enough = s.enough;
  room = s.room;
})

pub under_decided : (assumed : List Lit) (vars : ℕ) (t u : TrailState) (l : Lit) → IsUnder assumed vars t → length t.reasons ≡ length t.literals → u ≡ with_true_literal t l None → (is_true assumed l ≡ true) ⊎ (list_all (is_true t.literals) assumed ≡ true) → IsUnder assumed vars u
under_decided assumed vars t u l s same e o = rw e (record {
  first = λ k h n.
      let b : k < length t.literals + 1 = grind (arith, common_steps) in
      ⊎_elim
      (λ m. let w : get_or (t.reasons ++ None ∷ []) k None ≡ get_or t.reasons k None = grind (arith, common_steps) in
      let g : get_or (t.literals ++ l ∷ []) k no_literal ≡ get_or t.literals k no_literal = grind (arith, common_steps) in
      let x : take k (t.literals ++ l ∷ []) ≡ take k t.literals = grind (arith, common_steps) in
      rw (g, x) (s.first k m (sym w ∙ n)))
      (λ m. let g : get_or (t.literals ++ l ∷ []) k no_literal ≡ l = rw m (grind (arith, common_steps)) in
      let x : take k (t.literals ++ l ∷ []) ≡ t.literals = rw m (grind (arith, common_steps)) in
      rw (g, x) o)
      (split_last k (length t.literals) b);
  below = s.below;
  compatible = s.compatible;
})

-- the way back
pub serving_kept : (vars spare level : ℕ) (t u : TrailState) → IsServing vars spare t → IsKeptUpTo t u level → IsServing vars spare u
serving_kept vars spare level t u s k = record {
  joined = rw (k.clauses, k.attached) s.joined;
  below = rw k.clauses s.below;
  literals_below = rw k.literals (All-take (λ (l : Lit). l.var < vars) k.kept t.literals s.literals_below);
  enough = rw k.vars s.enough;
  room = rw k.spare s.room;
}

first_take : (assumed literals : List Lit) (reasons : List (Option ℕ)) (n : ℕ) → length reasons ≡ length literals → n ≤ length reasons → AssumedFirst assumed literals reasons → AssumedFirst assumed (take n literals) (take n reasons)
first_take assumed literals reasons n same b f k h e =
    let m : k < n = grind (arith, common_steps) in
    let i : k < length literals = omega arith in
    let a : take k (take n literals) ≡ take k literals = grind (arith, common_steps) in
    let x : get_or (take n literals) k no_literal ≡ get_or literals k no_literal = grind (arith, common_steps) in
    let g : get_or (take n reasons) k None ≡ get_or reasons k None = grind (arith, common_steps) in
    rw (a, x) (f k i (sym g ∙ e))

pub under_kept : (assumed : List Lit) (vars level : ℕ) (t u : TrailState) → IsUnder assumed vars t → length t.reasons ≡ length t.literals → IsKeptUpTo t u level → IsUnder assumed vars u
under_kept assumed vars level t u s same k = record {
  first = rw (k.literals, k.reasons) (first_take assumed t.literals t.reasons k.kept same k.cut.within s.first);
  below = s.below;
  compatible = s.compatible;
}

-- where an assumption is not true, each decision is an assumption
pub next_assumed : (assumed : List Lit) (vars : ℕ) (t : TrailState) (l : Lit) → IsUnder assumed vars t → IsAssumptionLeft t.literals assumed l → HasAssumedDecisions t assumed (length t.literals)
next_assumed assumed vars t l s n k h e =
    ⊎_elim (λ a. a)
    (λ a. let b = all_at (is_true (take k t.literals)) assumed l a n.among in
    let i = place_found (take k t.literals) l b in
    let w = i.1.within in
    let m : i.0 < length t.literals = grind (arith, common_steps) in
    let g : get_or (take k t.literals) i.0 no_literal ≡ get_or t.literals i.0 no_literal = grind (arith, common_steps) in
    let x = true_at t.literals l i.0 m (sym g ∙ i.1.at) in
    let y = n.not_yet in
    absurd (let z : true ≡ false = sym x ∙ y in cc))
    (s.first k h e)

-- and where it is false, its variable was forced
pub next_forced : (assumed : List Lit) (vars : ℕ) (t : TrailState) (l : Lit) → IsUnder assumed vars t → IsJustified t.clauses t.attached t.literals t.reasons t.vars → IsAssumptionLeft t.literals assumed l → is_false t.literals l ≡ true
    → (i : ℕ) → i < length t.literals → (literal_at t.literals i).var ≡ l.var → is_none (reason_at t.reasons i) ≡ false
next_forced assumed vars t l s j n f i b v =
    go (get_or t.reasons i None) (λ e.
    let d = next_assumed assumed vars t l s n i b e in
    let g = false_stands t.literals (justified_once t.clauses t.attached t.literals t.reasons t.vars j) l i f b v in
    let a = subst (λ (x : Lit). is_true assumed x ≡ true) g d in
    let z = s.compatible l n.among in
    let w : true ≡ false = sym a ∙ z in cc)
  where
    go : (o : Option ℕ) → (o ≡ None → ⊥) → is_none o ≡ false
    go None h = absurd (h refl)
    go (Some id) h = refl

pub assumed_small : (vars : ℕ) (assumed : List Lit) (l : Lit) → HasValues vars assumed → is_true assumed l ≡ true → l.var < vars
assumed_small vars assumed l a h = below_at vars assumed l a h

-- where none of the assumptions is false by them, they are compatible
pub compatible_from : (assumed : List Lit) → list_all (λ l. not (is_false assumed l)) assumed ≡ true → AreConsistent assumed
compatible_from assumed e l h = not_true (is_false assumed l) (all_at (λ (x : Lit). not (is_false assumed x)) assumed l e h)
