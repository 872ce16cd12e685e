-- The book as a search adds to it.
use Rattle.std.proofs.Common.{◌≡◌, ◌∙◌, ℕ, ◌+◌, Bool, true, false, ◌||◌, ◌++◌, ◌∷◌, [], List, refl, ap, sym, arith, subst, append_assoc, ⊎_elim}
use Rattle.std.specs.Prelude.{count_by, ◌-◌, length}
use Rattle.std.specs.List.{list_any, list_all, filter_map}
use Rattle.std.proofs.lemmas.Grind.{common_steps}
use Rattle.std.proofs.lemmas.Bool.{and_from, or_cases}
use Rattle.std.proofs.lemmas.List.{append-nil}
use Rattle.std.proofs.lemmas.List.Folds.{list_all-append, list_any-append}
use Rattle.std.proofs.lemmas.List.Elements.{filter_map-append}
use Rattle.prop_core.specs.declared.lit.Lit.{Lit}
use Rattle.prop_core.specs.Clauses.{Clause, negation, is_true}
use Rattle.prop_core.specs.Trail.{has_var}
use Rattle.prop_core.proofs.Literals.{has_back, all_at}
use Rattle.proof_ledger.specs.Book.{BookEntry, learnt, final, clause_of, clauses_of, axiom_of, axioms_of, EachAfter}
use Rattle.proof_ledger.specs.Fresh.{is_learnt, IfLearnt, IsFreshClause}
use Rattle.sat_learn.specs.Seen.{is_known_var}
use Rattle.sat_solve.specs.Searching.{HasAxiomVars, is_learnt_or_final, IsSearched}
use Rattle.sat_solve.specs.Solving.{LearnsOne}

-- a final entry is put, of negated assumptions alone
pub record IsClosed (assumed : List Lit) (old new : List BookEntry) (number : ℕ) : Type 0 where
  pub clause : Clause
  pub hints : List ℕ
  pub put : new ≡ old ++ final clause hints ∷ []
  pub numbered : number ≡ length (clauses_of new)
  pub negated : list_all (λ l. is_true assumed (negation l)) clause ≡ true
  pub known : list_all (λ l. is_known_var (clauses_of old) l.var) clause ≡ true

pub clauses_of-learnt : (book : List BookEntry) (c : Clause) (hs : List ℕ) → clauses_of (book ++ learnt c hs ∷ []) ≡ clauses_of book ++ c ∷ []
clauses_of-learnt book c hs = filter_map-append clause_of book (learnt c hs ∷ [])

pub clauses_of-final : (book : List BookEntry) (c : Clause) (hs : List ℕ) → clauses_of (book ++ final c hs ∷ []) ≡ clauses_of book ++ c ∷ []
clauses_of-final book c hs = filter_map-append clause_of book (final c hs ∷ [])

-- a clause of known variables brings no other variables
known_one : (clauses : List Clause) (c : Clause) (v : ℕ) → list_all (λ l. is_known_var clauses l.var) c ≡ true → is_known_var (clauses ++ c ∷ []) v ≡ true → is_known_var clauses v ≡ true
known_one clauses c v k h =
    let a : (is_known_var clauses v || (has_var v c || false)) ≡ true = sym (list_any-append (has_var v) clauses (c ∷ [])) ∙ h in
    ⊎_elim (λ x. x) (λ x. ⊎_elim
    (λ y. let z = has_back c v y in subst (λ (n : ℕ). is_known_var clauses n ≡ true) z.1.var (all_at (λ l. is_known_var clauses l.var) c z.0 k z.1.among))
    (λ y. absurd (let q = y in cc)) (or_cases (has_var v c) false x)) (or_cases (is_known_var clauses v) (has_var v c || false) a)

axioms_same : (book : List BookEntry) (e : BookEntry) → filter_map axiom_of (e ∷ []) ≡ [] → axioms_of (book ++ e ∷ []) ≡ axioms_of book
axioms_same book e h = filter_map-append axiom_of book (e ∷ []) ∙ ap (λ xs. axioms_of book ++ xs) h ∙ append-nil (axioms_of book)

axiom_vars_more : (book : List BookEntry) (e : BookEntry) (c : Clause) → clauses_of (book ++ e ∷ []) ≡ clauses_of book ++ c ∷ [] → axioms_of (book ++ e ∷ []) ≡ axioms_of book →
    list_all (λ l. is_known_var (clauses_of book) l.var) c ≡ true → HasAxiomVars book → HasAxiomVars (book ++ e ∷ [])
axiom_vars_more book e c a b k h var u =
    ap (λ xs. list_any (has_var var) xs) b ∙ h var (known_one (clauses_of book) c var k (subst (λ (cs : List Clause). is_known_var cs var ≡ true) a u))

-- one more entry
each_more : (P : List BookEntry → BookEntry → Type 0) (earlier since : List BookEntry) (e : BookEntry) → EachAfter P earlier since → P (earlier ++ since) e → EachAfter P earlier (since ++ e ∷ [])
each_more P earlier [] e a p = (subst (λ (b : List BookEntry). P b e) (append-nil earlier) p, tt)
each_more P earlier (x ∷ since) e a p = (a.0, each_more P (earlier ++ x ∷ []) since e a.1 (subst (λ (b : List BookEntry). P b e) (sym (append_assoc earlier (x ∷ []) since)) p))

count_more : (p : BookEntry → Bool) (xs : List BookEntry) (e : BookEntry) → p e ≡ true → count_by p (xs ++ e ∷ []) ≡ count_by p xs + 1
count_more p xs e h = grind (arith, common_steps)

count_same : (p : BookEntry → Bool) (xs : List BookEntry) (e : BookEntry) → p e ≡ false → count_by p (xs ++ e ∷ []) ≡ count_by p xs
count_same p xs e h = grind (arith, common_steps)

whole_more : (old book new since : List BookEntry) (e : BookEntry) → book ≡ old ++ since → new ≡ book ++ e ∷ [] → new ≡ old ++ (since ++ e ∷ [])
whole_more old book new since e a b = b ∙ ap (λ xs. xs ++ e ∷ []) a ∙ append_assoc old since (e ∷ [])

-- nothing is put yet
pub searched_none : (book : List BookEntry) (left : ℕ) → IsSearched book book left left
searched_none book left = record {
  since = [];
  whole = sym (append-nil book);
  derived = refl;
  count = 0;
  paid = omega arith;
  number = refl;
  learnt_entries = λ k. record { number = refl; each = tt };
  known = λ k. k;
}

-- a learnt entry is paid
pub searched_learnt : (old book new : List BookEntry) (first left last : ℕ) → IsSearched old book first left → LearnsOne book new left last → IsSearched old new first last
searched_learnt old book new first left last s p = record {
  since = s.since ++ learnt p.clause p.hints ∷ [];
  whole = whole_more old book new s.since (learnt p.clause p.hints) s.whole p.put;
  derived = list_all-append is_learnt_or_final s.since (learnt p.clause p.hints ∷ []) ∙ and_from _ _ s.derived refl;
  count = s.count + 1;
  paid = let a = s.paid in let b = p.paid in omega arith;
  number = count_more is_learnt s.since (learnt p.clause p.hints) refl ∙ ap (λ (n : ℕ). n + 1) s.number;
  learnt_entries = λ k.
      let f = s.learnt_entries k in
      record {
        number = count_more is_learnt s.since (learnt p.clause p.hints) refl ∙ ap (λ (n : ℕ). n + 1) f.number;
        each = each_more (λ before entry. IfLearnt entry (IsFreshClause before)) old s.since (learnt p.clause p.hints) f.each (subst (λ (b : List BookEntry). IsFreshClause b p.clause) s.whole (p.fresh (s.known k)));
      };
  known = λ k. subst HasAxiomVars (sym p.put) (axiom_vars_more book (learnt p.clause p.hints) p.clause (clauses_of-learnt book p.clause p.hints) (axioms_same book (learnt p.clause p.hints) refl) p.known (s.known k));
}

-- a final entry is put
pub searched_closed : (old book new : List BookEntry) (first left number : ℕ) (assumed : List Lit) → IsSearched old book first left → IsClosed assumed book new number → IsSearched old new first left
searched_closed old book new first left number assumed s p = record {
  since = s.since ++ final p.clause p.hints ∷ [];
  whole = whole_more old book new s.since (final p.clause p.hints) s.whole p.put;
  derived = list_all-append is_learnt_or_final s.since (final p.clause p.hints ∷ []) ∙ and_from _ _ s.derived refl;
  count = s.count;
  paid = s.paid;
  number = count_same is_learnt s.since (final p.clause p.hints) refl ∙ s.number;
  learnt_entries = λ k.
      let f = s.learnt_entries k in
      record {
        number = count_same is_learnt s.since (final p.clause p.hints) refl ∙ f.number;
        each = each_more (λ before entry. IfLearnt entry (IsFreshClause before)) old s.since (final p.clause p.hints) f.each tt;
      };
  known = λ k. subst HasAxiomVars (sym p.put) (axiom_vars_more book (final p.clause p.hints) p.clause (clauses_of-final book p.clause p.hints) (axioms_same book (final p.clause p.hints) refl) p.known (s.known k));
}

each_both : (P : List BookEntry → BookEntry → Type 0) (earlier since more : List BookEntry) → EachAfter P earlier since → EachAfter P (earlier ++ since) more → EachAfter P earlier (since ++ more)
each_both P earlier [] more a b = subst (λ (x : List BookEntry). EachAfter P x more) (append-nil earlier) b
each_both P earlier (x ∷ since) more a b = (a.0, each_both P (earlier ++ x ∷ []) since more a.1 (subst (λ (y : List BookEntry). EachAfter P y more) (sym (append_assoc earlier (x ∷ []) since)) b))

count_both : (p : BookEntry → Bool) (xs ys : List BookEntry) → count_by p (xs ++ ys) ≡ count_by p xs + count_by p ys
count_both p xs ys = grind (arith, common_steps)

-- one search goes on where another ended
pub searched_both : (old book new : List BookEntry) (first left last : ℕ) → IsSearched old book first left → IsSearched book new left last → IsSearched old new first last
searched_both old book new first left last s r = record {
  since = s.since ++ r.since;
  whole = r.whole ∙ ap (λ xs. xs ++ r.since) s.whole ∙ append_assoc old s.since r.since;
  derived = list_all-append is_learnt_or_final s.since r.since ∙ and_from _ _ s.derived r.derived;
  count = s.count + r.count;
  paid = let a = s.paid in let b = r.paid in omega arith;
  number = let a = s.number in let b = r.number in count_both is_learnt s.since r.since ∙ omega arith;
  learnt_entries = λ k.
      let f = s.learnt_entries k in
      let g = r.learnt_entries (s.known k) in
      let a = s.number in let b = r.number in
      record {
        number = count_both is_learnt s.since r.since ∙ omega arith;
        each = each_both (λ before entry. IfLearnt entry (IsFreshClause before)) old s.since r.since f.each (subst (λ (b : List BookEntry). EachAfter (λ before entry. IfLearnt entry (IsFreshClause before)) b r.since) s.whole g.each);
      };
  known = λ k. r.known (s.known k);
}
