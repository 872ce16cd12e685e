-- The clause that the places that are seen make.
use Rattle.std.proofs.Common.{◌≡◌, ◌∙◌, ℕ, ◌+◌, ◌<◌, ◌≤◌, Bool, true, false, not, ◌&&◌, nat_eq, nat_lt, ◌++◌, ◌∷◌, [], List, refl, ap, sym, map, length, take, zero, suc, get_or, arith, subst, inl, inr, ⊎_elim, eqb, cond}
use Rattle.std.specs.Prelude.{Option, ◌⊎◌, reverse, count_by, is_none}
use Rattle.std.specs.List.{list_any, list_all}
use Rattle.std.specs.Bool.{beq}
use Rattle.std.proofs.lemmas.Grind.{common_steps}
use Rattle.std.proofs.lemmas.Bool.{eqb-true, eq-eqb, and_from, or_cases, or_right, cases_Bool}
use Rattle.std.proofs.lemmas.Bool.Decides.{nat_tests}
use Rattle.std.proofs.lemmas.List.Sums.{sum_by-take-drop}
use Rattle.prop_core.specs.declared.lit.Lit.{Lit}
use Rattle.prop_core.specs.Clauses.{Clause, negation, same_literal, is_true, is_false, AreConsistent}
use Rattle.prop_core.specs.Derivation.{Derives, clause_numbered}
use Rattle.prop_core.specs.Trail.{no_literal, has_var, HasVarsOnce}
use Rattle.prop_core.proofs.Entailed.{same_itself}
use Rattle.prop_core.proofs.Literals.{same_is, negation_twice, not_self, true_at, all_from, has_back, once_same, once_cons, once_none, once_apart, open_shorter, open_negation}
use Rattle.sat_prop.specs.TrailState.{TrailState, reason_at, IsJustified}
use Rattle.sat_prop.specs.Levels.{level_at, IsLastDecision, IsGreatestLevel}
use Rattle.sat_prop.proofs.Justifying.{justified_once}
use Rattle.sat_learn.specs.Seen.{IsRefutedBySeen, negated_seen, level_seen, is_known_var, IsOnlySeen, IsDecidedTo, IsResolved}
use Rattle.sat_learn.specs.Learnt.{IsLearnt, KeepsDecisionsTo}

-- the literals that make a clause false
beq_flip : (a b : Bool) → beq a (not b) ≡ beq (not a) b
beq_flip true true = refl
beq_flip true false = refl
beq_flip false true = refl
beq_flip false false = refl

pub true_negations : (c : List Lit) (x : Lit) → is_true (map negation c) x ≡ is_true c (negation x)
true_negations [] x = refl
true_negations (y ∷ c) x =
    let a : same_literal x (negation y) ≡ same_literal (negation x) y = ap (λ (b : Bool). nat_eq x.var y.var && b) (beq_flip x.positive y.positive) in
    let b = true_negations c x in
    rw (a, b) refl

negations_consistent : (c : List Lit) → HasVarsOnce c → AreConsistent (map negation c)
negations_consistent c n l e =
    ⊎_elim
    (λ f. let a = sym (true_negations c l) ∙ e in
    let b = sym (true_negations c (negation l)) ∙ f in
    let q = once_same c (negation l) (negation (negation l)) n a b refl in
    let s : same_literal (negation l) l ≡ true = subst (λ (x : Lit). same_literal (negation l) x ≡ true) (q ∙ negation_twice l) (same_itself (negation l)) in
    let z : true ≡ false = sym s ∙ not_self l in cc)
    (λ f. f) (cases_Bool (is_false (map negation c) l))

-- a clause with the negations of what is seen derives
pub derives_from : (clauses : List Clause) (literals also : List Lit) (seen : List Bool) (back : List ℕ) (c : List Lit) → IsRefutedBySeen clauses literals also seen back → HasVarsOnce c
    → ((i : ℕ) → i < length literals → get_or seen i false ≡ true → is_true c (negation (get_or literals i no_literal)) ≡ true) → ((l : Lit) → is_true also l ≡ true → is_true c (negation l) ≡ true)
    → Derives (clause_numbered clauses) c (reverse back)
derives_from clauses literals also seen back c h n f g = h.refutes (map negation c) 0 (negations_consistent c n) (record { each = λ i m s. true_negations c (get_or literals i no_literal) ∙ f i m s; more = λ l e. true_negations c l ∙ g l e })

-- what is seen has its negation there
pub negated_has : (literals : List Lit) (seen : List Bool) (k i : ℕ) → i < k → get_or seen i false ≡ true → is_true (negated_seen literals seen k) (negation (get_or literals i no_literal)) ≡ true
negated_has literals seen zero i h s = absurd (omega arith)
negated_has literals seen (suc k) i h s =
    ⊎_elim
    (λ e. let q : i ≡ k = eqb-true i k e in
    let t : get_or seen k false ≡ true = subst (λ (j : ℕ). get_or seen j false ≡ true) q s in
    rw (q, t) (let a = same_itself (negation (get_or literals k no_literal)) in rw a refl))
    (λ e. let m : i < k = let r = e in grind (arith, nat_tests) in
    let r = negated_has literals seen k i m s in
    ⊎_elim (λ t. rw t (or_right _ _ r)) (λ t. rw t r) (cases_Bool (get_or seen k false)))
    (cases_Bool (eqb i k))

-- and each literal there is the negation of one that is seen
pub record IsNegatedAt (literals : List Lit) (seen : List Bool) (k : ℕ) (x : Lit) (i : ℕ) : Type 0 where
  pub below : i < k
  pub seen_at : get_or seen i false ≡ true
  pub is : x ≡ negation (get_or literals i no_literal)

pub negated_is : (literals : List Lit) (seen : List Bool) (k : ℕ) (x : Lit) → list_any (same_literal x) (negated_seen literals seen k) ≡ true → (i : ℕ) × IsNegatedAt literals seen k x i
negated_is literals seen zero x e = cc
negated_is literals seen (suc k) x e =
    let keep : ((i : ℕ) × IsNegatedAt literals seen k x i) → (i : ℕ) × IsNegatedAt literals seen (suc k) x i = λ r. (r.0, let b = r.1.below in record { below = omega arith; seen_at = r.1.seen_at; is = r.1.is }) in
    ⊎_elim
    (λ t. ⊎_elim (λ s. (k, record { below = omega arith; seen_at = t; is = same_is x (negation (get_or literals k no_literal)) s })) (λ s. keep (negated_is literals seen k x s))
    (or_cases (same_literal x (negation (get_or literals k no_literal))) (list_any (same_literal x) (negated_seen literals seen k)) (rw t at e)))
    (λ t. keep (negated_is literals seen k x (rw t at e)))
    (cases_Bool (get_or seen k false))

-- the variable of a place that is not seen, or is not below, is not there
pub negated_none : (literals : List Lit) → HasVarsOnce literals
    → (seen : List Bool) (k j : ℕ) → k ≤ length literals → j < length literals → (k ≤ j) ⊎ (get_or seen j false ≡ false) → has_var (get_or literals j no_literal).var (negated_seen literals seen k) ≡ false
negated_none literals t seen k j h b o =
    ⊎_elim (λ e. let x = has_back (negated_seen literals seen k) (get_or literals j no_literal).var e in
    let i = negated_is literals seen k x.0 x.1.among in
    let m = i.1.below in
    let v : (get_or literals i.0 no_literal).var ≡ (get_or literals j no_literal).var = sym (ap (λ (l : Lit). l.var) i.1.is) ∙ x.1.var in
    let q : i.0 ≡ j = once_apart literals i.0 j t (omega arith) b v in
    absurd (⊎_elim (λ n. (omega arith)) (λ n. (let s = subst (λ (z : ℕ). get_or seen z false ≡ true) q i.1.seen_at in let z : true ≡ false = sym s ∙ n in cc)) o))
    (λ e. e) (cases_Bool (has_var (get_or literals j no_literal).var (negated_seen literals seen k)))

pub negated_once : (literals : List Lit) → HasVarsOnce literals
    → (seen : List Bool) (k : ℕ) → k ≤ length literals → HasVarsOnce (negated_seen literals seen k)
negated_once literals t seen zero h = once_none
negated_once literals t seen (suc k) h =
    let r = negated_once literals t seen k (omega arith) in
    ⊎_elim (λ s. rw s (once_cons (negation (get_or literals k no_literal)) (negated_seen literals seen k) (negated_none literals t seen k k (omega arith) (omega arith) (inl (omega arith))) r))
    (λ s. rw s r) (cases_Bool (get_or seen k false))

-- below a place all of them are false
pub negated_false : (literals : List Lit) (seen : List Bool) (k s : ℕ) → k ≤ s → s ≤ length literals → list_all (is_false (take s literals)) (negated_seen literals seen k) ≡ true
negated_false literals seen k s h b = all_from (is_false (take s literals)) (negated_seen literals seen k) (λ x e.
    let i = negated_is literals seen k x e in
    let m = i.1.below in
    let n : i.0 < length (take s literals) = grind (arith, common_steps) in
    let g : get_or (take s literals) i.0 no_literal ≡ get_or literals i.0 no_literal = grind (arith, common_steps) in
    let q : get_or (take s literals) i.0 no_literal ≡ negation x = g ∙ sym (ap negation i.1.is ∙ negation_twice (get_or literals i.0 no_literal)) in
    true_at (take s literals) (negation x) i.0 n q)

pub negated_known : (clauses : List Clause) (literals also : List Lit) (seen : List Bool) (back : List ℕ) (k : ℕ) → IsRefutedBySeen clauses literals also seen back → k ≤ length literals → list_all (λ l. is_known_var clauses l.var) (negated_seen literals seen k) ≡ true
negated_known clauses literals also seen back k h b = all_from (λ l. is_known_var clauses l.var) (negated_seen literals seen k) (λ x e.
    let i = negated_is literals seen k x e in
    let m = i.1.below in
    subst (λ (l : Lit). is_known_var clauses l.var ≡ true) (sym i.1.is) (h.known i.0 (omega arith) i.1.seen_at))

level_below : (reasons : List (Option ℕ)) (i k : ℕ) → i ≤ k → level_at reasons i ≤ level_at reasons k
level_below reasons i k h =
    let e : take (i + 1) (take (k + 1) reasons) ≡ take (i + 1) reasons = grind (arith, common_steps) in
    let s = sum_by-take-drop (λ w. cond (is_none w) 1 0) (take (k + 1) reasons) (i + 1) in
    let f : count_by is_none (take (i + 1) (take (k + 1) reasons)) ≡ level_at reasons i = ap (count_by is_none) e in
    omega arith

-- the level of the last place is the greatest
pub negated_greatest : (literals : List Lit) (reasons : List (Option ℕ)) → HasVarsOnce literals
    → (seen : List Bool) (k : ℕ) → k ≤ length literals → IsGreatestLevel literals reasons (negated_seen literals seen k) (level_seen reasons seen k)
negated_greatest literals reasons t seen zero h = record { bound = λ i b e. absurd (let q = e in cc); reached = inl refl }
negated_greatest literals reasons t seen (suc k) h =
    let r = negated_greatest literals reasons t seen k (omega arith) in
    ⊎_elim
    (λ s. rw s (record {
      bound = λ i b e. ⊎_elim
          (λ q. let z : k ≡ i = once_apart literals k i t (omega arith) b (eqb-true (get_or literals k no_literal).var (get_or literals i no_literal).var q) in level_below reasons i k (omega arith))
          (λ q. let m : i ≤ k = ⊎_elim (λ n. let u = negated_none literals t seen k i (omega arith) b (inl (let v = n in grind (arith, nat_tests))) in absurd (let z : true ≡ false = sym q ∙ u in cc)) (λ n. let v = n in grind (arith, nat_tests)) (cases_Bool (nat_lt k i)) in level_below reasons i k m)
          (or_cases (eqb (get_or literals k no_literal).var (get_or literals i no_literal).var) (has_var (get_or literals i no_literal).var (negated_seen literals seen k)) e);
      reached = inr (k, omega arith, (let a = eq-eqb (get_or literals k no_literal).var (get_or literals k no_literal).var refl in rw a refl), refl);
    }))
    (λ s. rw s r) (cases_Bool (get_or seen k false))

-- the clause of the first implication point
pub learnt_from : (t : TrailState) (all : List Clause) (seen : List Bool) (back : List ℕ) (start k : ℕ) → IsJustified t.clauses t.attached t.literals t.reasons t.vars → IsLastDecision t.reasons start
    → IsRefutedBySeen all t.literals [] seen back → IsOnlySeen start seen k → IsLearnt t all (negation (get_or t.literals k no_literal) ∷ negated_seen t.literals seen start) (reverse back) (level_seen t.reasons seen start)
learnt_from t all seen back start k tr last h f =
    let l = get_or t.literals k no_literal in
    let once = justified_once t.clauses t.attached t.literals t.reasons t.vars tr in
    let size = h.size in
    let from = f.from in
    let within : k < length t.literals = let w = f.within in omega arith in
    let c = negated_seen t.literals seen start in
    let apart : HasVarsOnce (negation l ∷ c) = once_cons (negation l) c (negated_none t.literals once seen start k (omega arith) within (inl from)) (negated_once t.literals once seen start (omega arith)) in
    record {
      derives = derives_from all t.literals [] seen back (negation l ∷ c) h apart (λ i m s.
          ⊎_elim (λ e. let q : i ≡ k = eqb-true i k e in rw q (let a = same_itself (negation l) in rw a refl))
          (λ e. let n : i ≡ k → ⊥ = λ q. (let a = eq-eqb i k q in let z : true ≡ false = sym a ∙ e in cc) in
          let b : i < start = ⊎_elim (λ u. let v = u in grind (arith, nat_tests)) (λ u. let v : start ≤ i = let w = u in grind (arith, nat_tests) in let z = f.alone i v n (omega arith) in absurd (let y : true ≡ false = sym s ∙ z in cc)) (cases_Bool (nat_lt i start)) in
          or_right _ _ (negated_has t.literals seen start i b s))
          (cases_Bool (eqb i k))) (λ x e. absurd (let q = e in cc));
      once = apart;
      known = and_from _ _ (h.known k within f.is) (negated_known all t.literals [] seen back start h (omega arith));
      start = start;
      last = last;
      found = negation l;
      rest = c;
      split = refl;
      false_now = true_at t.literals (negation (negation l)) k within (sym (negation_twice l));
      before = open_negation (take start t.literals) l (open_shorter t.literals l start k from (tr.open_before k within));
      others = negated_false t.literals seen start start (omega arith) (omega arith);
      deepest = negated_greatest t.literals t.reasons once seen start (omega arith);
    }

-- how the clause was put together
pub put_together : (none one all literals now : List Lit) (seen : List Bool) (x l : Lit) (start : ℕ) → none ≡ [] → one ≡ none ++ x ∷ [] → all ≡ one ++ negated_seen now seen start → now ≡ literals → x ≡ l → all ≡ l ∷ negated_seen literals seen start
put_together none one all literals now seen x l start a b c d e =
    let f : one ≡ x ∷ [] = rw a at b in
    c ∙ rw (f, d, e) refl

pub learnt_same : (t : TrailState) (all : List Clause) (c d : List Lit) (hs ks : List ℕ) (m n : ℕ) → c ≡ d → hs ≡ ks → m ≡ n → IsLearnt t all d ks n → IsLearnt t all c hs m
learnt_same t all c d hs ks m n e f g r = rw (e, f, g) r

-- what is seen from a place on is as before
pub found_kept : (literals : List Lit) (seen new : List Bool) (start k : ℕ) → length seen ≡ length literals → length new ≡ length seen → ((later : ℕ) → start ≤ later → later < length literals → get_or new later false ≡ get_or seen later false) → IsOnlySeen start seen k → IsOnlySeen start new k
found_kept literals seen new start k size same above f =
    let from = f.from in
    let within = f.within in
    record {
      from = from;
      within = omega arith;
      is = above k from (omega arith) ∙ f.is;
      alone = λ other h d b. above other h (omega arith) ∙ f.alone other h d (omega arith);
    }

-- one more place is resolved: what is seen from there on was decided, at these levels
pub decided_to_next : (reasons : List (Option ℕ)) (level : ℕ) (seen new : List Bool) (k p end : ℕ) → p ≤ k + 1 → end ≤ length seen → IsResolved k seen new → IsDecidedTo reasons level seen p end → IsDecidedTo reasons level new k end
decided_to_next reasons level seen new k p end near within r h i m b s below =
    ⊎_elim
    (λ e. let q : k < i = let v = e in grind (arith, nat_tests) in h i (omega arith) b (sym (r.above i q (omega arith)) ∙ s) below)
    (λ e. let q : i ≡ k = let v = e in grind (arith, nat_tests) in
    let a = subst (λ (j : ℕ). get_or new j false ≡ true) q s in
    absurd (let z : true ≡ false = sym a ∙ r.cleared in cc))
    (cases_Bool (nat_lt k i))

-- what the clause has behind its first literal was decided, at the levels where what is seen was
pub keeps_decisions : (t : TrailState) (seen : List Bool) (level start : ℕ) (first : Lit) → HasVarsOnce t.literals → start ≤ length t.literals → IsDecidedTo t.reasons level seen 0 start → KeepsDecisionsTo t level (first ∷ negated_seen t.literals seen start)
keeps_decisions t seen level start first once within decided place b among below =
    let off : (start ≤ place) ⊎ (get_or seen place false ≡ false) → is_none (reason_at t.reasons place) ≡ true = λ o. absurd (let z : true ≡ false = sym among ∙ negated_none t.literals once seen start place within b o in cc) in
    ⊎_elim
    (λ e. ⊎_elim (λ s. decided place (omega arith) (let v = e in grind (arith, nat_tests)) s below) (λ s. off (inr s)) (cases_Bool (get_or seen place false)))
    (λ e. off (inl (let v = e in grind (arith, nat_tests))))
    (cases_Bool (nat_lt place start))

pub decisions_same : (t : TrailState) (level : ℕ) (c d : Clause) → c ≡ d → KeepsDecisionsTo t level d → KeepsDecisionsTo t level c
decisions_same t level c d e h = rw e h
