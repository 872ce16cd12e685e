-- Entries of a book: learnt and final ones, and which final ones a search puts for its answer.
use Rattle.std.proofs.Common.{◌≡◌, ◌∙◌, ℕ, ◌≤◌, ◌+◌, Bool, true, false, ◌||◌, ◌⊎◌, inl, inr, List, [], ◌∷◌, ◌++◌, map, refl, sym, ap, subst, Contains, count_by, cond, append-nil, append_assoc, arith}
use Rattle.std.proofs.lemmas.List.{append_cancel_left}
use Rattle.std.proofs.lemmas.List.Elements.{filter_map-append, Contains-append_cases, Contains-append_right}
use Rattle.std.proofs.lemmas.List.Folds.{list_any-append}
use Rattle.std.proofs.lemmas.List.Sums.{sum_by-append}
use Rattle.std.specs.List.{list_all, list_any}
use Rattle.des_base.proofs.BoolLemmas.{either as or_cases, both}
use Rattle.des_base.proofs.Elements.{cons_cases, here_first, here_later, none_in_nil}
use Rattle.proof_ledger.specs.Book.{BookEntry, axiomatic, learnt, final, mark, clause_of, axiom_of, axioms_of, is_mark}
use Rattle.prop_core.proofs.Literals.{same_is}
use Rattle.prop_core.specs.Clauses.{Clause, NegatesOnly, is_true, negation, same_literal}
use Rattle.prop_core.specs.declared.lit.Lit.{Lit}
use Rattle.sat_solve.specs.Searching.{AreLearnt, HasPut, IsAnswer, IsClosedByFinal, IsPutFor, IsRefuted, is_final, is_learnt_or_final}
use Rattle.sat_solve.specs.declared.answer.Answer.{Answer}
use Rattle.sat_solve.specs.declared.answer.Answer.TheVariants.{Sat, Spent, Unsat}

-- what was put behind a book is one list
pub same_put : (old new one other : List BookEntry) → new ≡ old ++ one → new ≡ old ++ other → one ≡ other
same_put old new one other by_one by_other = append_cancel_left old one other (sym by_one ∙ by_other)

pub counted_both : (p : BookEntry → Bool) (xs ys : List BookEntry) → count_by p (xs ++ ys) ≡ count_by p xs + count_by p ys
counted_both p xs ys = sum_by-append (λ (e : BookEntry). cond (p e) 1 0) xs ys

-- ---- axioms

pub none_marked : (number : ℕ) (clauses : List Clause) → count_by (is_mark number) (map axiomatic clauses) ≡ 0
none_marked number [] = refl
none_marked number (c ∷ clauses) = none_marked number clauses

pub none_final : (clauses : List Clause) → list_any is_final (map axiomatic clauses) ≡ false
none_final [] = refl
none_final (c ∷ clauses) = none_final clauses

-- ---- derived entries

pub derived_unmarked : (number : ℕ) (since : List BookEntry) → list_all is_learnt_or_final since ≡ true → count_by (is_mark number) since ≡ 0
derived_unmarked number [] h = refl
derived_unmarked number (axiomatic c ∷ since) h = cc
derived_unmarked number (learnt c hints ∷ since) h = derived_unmarked number since h
derived_unmarked number (final c hints ∷ since) h = derived_unmarked number since h
derived_unmarked number (mark k ∷ since) h = cc

derived_no_axioms : (since : List BookEntry) → list_all is_learnt_or_final since ≡ true → axioms_of since ≡ []
derived_no_axioms [] h = refl
derived_no_axioms (axiomatic clause ∷ since) h = cc
derived_no_axioms (learnt clause hints ∷ since) h = derived_no_axioms since h
derived_no_axioms (final clause hints ∷ since) h = derived_no_axioms since h
derived_no_axioms (mark number ∷ since) h = cc

pub same_axioms : (old since : List BookEntry) → list_all is_learnt_or_final since ≡ true → axioms_of (old ++ since) ≡ axioms_of old
same_axioms old since h = filter_map-append axiom_of old since ∙ ap (λ more. axioms_of old ++ more) (derived_no_axioms since h) ∙ append-nil (axioms_of old)

pub learnt_no_axioms : (since : List BookEntry) → AreLearnt since → axioms_of since ≡ []
learnt_no_axioms [] h = refl
learnt_no_axioms (axiomatic c ∷ since) h = cc
learnt_no_axioms (learnt c hints ∷ since) h = learnt_no_axioms since h
learnt_no_axioms (final c hints ∷ since) h = cc
learnt_no_axioms (mark k ∷ since) h = cc

-- ---- without a final entry

pub learnt_no_final : (since : List BookEntry) → AreLearnt since → list_any is_final since ≡ false
learnt_no_final [] h = refl
learnt_no_final (axiomatic c ∷ since) h = cc
learnt_no_final (learnt c hints ∷ since) h = learnt_no_final since h
learnt_no_final (final c hints ∷ since) h = cc
learnt_no_final (mark k ∷ since) h = cc

pub no_final_in : (since : List BookEntry) (clause : Clause) (hints : List ℕ) → list_any is_final since ≡ false → Contains since (final clause hints) → ⊥
no_final_in [] clause hints none in' = none_in_nil (final clause hints) in'
no_final_in (e ∷ since) clause hints none in' = by (cons_cases e since (final clause hints) in') (no_final_in since clause hints)
  where
    later_none : (b : Bool) → b || list_any is_final since ≡ false → list_any is_final since ≡ false
    later_none true h = cc
    later_none false h = h

    by : (e ≡ final clause hints) ⊎ Contains since (final clause hints) → (list_any is_final since ≡ false → Contains since (final clause hints) → ⊥) → ⊥
    by (inl is) rest = let first : is_final e ≡ true = ap is_final is in let any : (is_final e || list_any is_final since) ≡ true = ap (λ b. b || list_any is_final since) first in clash any none
      where
        clash : (is_final e || list_any is_final since) ≡ true → (is_final e || list_any is_final since) ≡ false → ⊥
        clash h k = cc
    by (inr later) rest = rest (later_none (is_final e) none) later

pub none_joined : (front since : List BookEntry) → list_any is_final front ≡ false → list_any is_final since ≡ false → list_any is_final (front ++ since) ≡ false
none_joined front since h k = list_any-append is_final front since ∙ ap (λ b. b || list_any is_final since) h ∙ k

pub none_counted : (since : List BookEntry) → list_any is_final since ≡ false → count_by is_final since ≡ 0
none_counted [] none = refl
none_counted (axiomatic c ∷ since) none = none_counted since none
none_counted (learnt c hints ∷ since) none = none_counted since none
none_counted (final c hints ∷ since) none = cc
none_counted (mark k ∷ since) none = none_counted since none

-- ---- with one

final_is : (c d : Clause) (hs gs : List ℕ) → final c hs ≡ final d gs → c ≡ d
final_is c d hs gs h = some_is (ap clause_of h)
  where
    some_is : clause_of (final c hs) ≡ clause_of (final d gs) → c ≡ d
    some_is k = cc

-- where a final entry closes learnt ones, it is the only one
pub only_final : (since : List BookEntry) (clause : Clause) (hints : List ℕ) → (closed : IsClosedByFinal since) → Contains since (final clause hints) → clause ≡ closed.clause
only_final since clause hints closed in' = by (Contains-append_cases closed.before (final closed.clause closed.hints ∷ []) (final clause hints) (subst (λ xs. Contains xs (final clause hints)) closed.whole in'))
  where
    last : (final closed.clause closed.hints ≡ final clause hints) ⊎ Contains [] (final clause hints) → clause ≡ closed.clause
    last (inl is) = sym (final_is closed.clause clause closed.hints hints is)
    last (inr none) = absurd (none_in_nil (final clause hints) none)

    by : Contains closed.before (final clause hints) ⊎ Contains (final closed.clause closed.hints ∷ []) (final clause hints) → clause ≡ closed.clause
    by (inl here) = absurd (no_final_in closed.before clause hints (learnt_no_final closed.before closed.all_learnt) here)
    by (inr here) = last (cons_cases (final closed.clause closed.hints) [] (final clause hints) here)

abbrev last_of : BookEntry → List BookEntry → BookEntry
last_of d [] = d
last_of d (e ∷ es) = last_of e es

last_is : (d : BookEntry) (front : List BookEntry) (e : BookEntry) → last_of d (front ++ e ∷ []) ≡ e
last_is d [] e = refl
last_is d (x ∷ front) e = last_is x front e

-- the last entries of one list are one
pub same_last : (front other : List BookEntry) (c d : Clause) (hs gs : List ℕ) → front ++ final c hs ∷ [] ≡ other ++ final d gs ∷ [] → c ≡ d
same_last front other c d hs gs h = final_is c d hs gs (sym (last_is (mark 0) front (final c hs)) ∙ ap (last_of (mark 0)) h ∙ last_is (mark 0) other (final d gs))

-- none stands before the one that closes learnt entries
pub one_counted : (front before : List BookEntry) (clause : Clause) (hints : List ℕ) → list_any is_final front ≡ false → AreLearnt before → count_by is_final ((front ++ before) ++ final clause hints ∷ []) ≡ 1
one_counted front before clause hints none all_learnt =
    let all = counted_both is_final (front ++ before) (final clause hints ∷ []) in
    let first = none_counted (front ++ before) (none_joined front before none (learnt_no_final before all_learnt)) in
    omega (arith, all, first)

-- ---- what is put for an answer, under what was assumed

-- a literal that is true under a list is in it
pub true_there : (taken : List Lit) (l : Lit) → is_true taken l ≡ true → Contains taken l
true_there [] l h = cc
true_there (x ∷ taken) l h = by (or_cases (same_literal l x) (is_true taken l) h) (true_there taken l)
  where
    by : (same_literal l x ≡ true) ⊎ (is_true taken l ≡ true) → (is_true taken l ≡ true → Contains taken l) → Contains (x ∷ taken) l
    by (inl same) later = here_first x taken l (sym (same_is l x same))
    by (inr rest) later = here_later x taken l (later rest)

pub negates_only : (assumed : List Lit) (clause : Clause) → list_all (λ l. is_true assumed (negation l)) clause ≡ true → NegatesOnly assumed clause
negates_only assumed [] h = tt
negates_only assumed (l ∷ clause) h =
    let parts = both (is_true assumed (negation l)) (list_all (λ l'. is_true assumed (negation l')) clause) h in
    (true_there assumed (negation l) parts.0, negates_only assumed clause parts.1)

-- each final entry negates assumptions alone, and there is at most one
pub record AreFinalsFor (assumed : List Lit) (since : List BookEntry) : Type 0 where
  pub negate : (clause : Clause) (hints : List ℕ) → Contains since (final clause hints) → NegatesOnly assumed clause
  pub few : count_by is_final since ≤ 1

-- so it is where there is none
pub no_finals : (assumed : List Lit) (since : List BookEntry) → list_any is_final since ≡ false → AreFinalsFor assumed since
no_finals assumed since none = record {
  negate = λ clause hints in'. absurd (no_final_in since clause hints none in');
  few = (let zero = none_counted since none in omega (arith, zero));
}

-- the final entry of a refutation negates assumptions alone, and stands among what was put, and so in the book
pub record IsLastFinalFor (assumed : List Lit) (book since : List BookEntry) (closed : IsClosedByFinal since) : Type 0 where
  pub negates : NegatesOnly assumed closed.clause
  pub put : Contains since (final closed.clause closed.hints)
  pub there : Contains book (final closed.clause closed.hints)

pub last_final_for : (assumed : List Lit) (old new since : List BookEntry) (number : ℕ) → new ≡ old ++ since → (closed : IsClosedByFinal since) → IsRefuted new assumed number → IsLastFinalFor assumed new since closed
last_final_for assumed old new since number whole closed refuted = record {
  negates = subst (NegatesOnly assumed) (same_last refuted.earlier (old ++ closed.before) refuted.clause closed.clause refuted.hints closed.hints (sym refuted.last ∙ new_is)) (negates_only assumed refuted.clause refuted.negated);
  put = among;
  there = subst (λ xs. Contains xs (final closed.clause closed.hints)) (sym whole) (Contains-append_right old since (final closed.clause closed.hints) among);
}
  where
    new_is : new ≡ (old ++ closed.before) ++ final closed.clause closed.hints ∷ []
    new_is = whole ∙ ap (λ xs. old ++ xs) closed.whole ∙ sym (append_assoc old closed.before (final closed.clause closed.hints ∷ []))

    among : Contains since (final closed.clause closed.hints)
    among = subst (λ xs. Contains xs (final closed.clause closed.hints)) (sym closed.whole)
        (Contains-append_right closed.before (final closed.clause closed.hints ∷ []) (final closed.clause closed.hints) (here_first (final closed.clause closed.hints) [] (final closed.clause closed.hints) refl))

-- whatever the answer is, behind axioms or behind nothing
pub put_finals : (assumed : List Lit) (values : List Bool) (old new front since : List BookEntry) (left : ℕ) (answer : Answer) → list_any is_final front ≡ false → new ≡ old ++ since → IsPutFor answer since → IsAnswer values new assumed left answer → AreFinalsFor assumed (front ++ since)
put_finals assumed values old new front since left Sat none whole put says = no_finals assumed (front ++ since) (none_joined front since none (learnt_no_final since put))
put_finals assumed values old new front since left Spent none whole put says = no_finals assumed (front ++ since) (none_joined front since none (learnt_no_final since put))
put_finals assumed values old new front since left (Unsat number) none whole closed refuted = record {
  negate = λ clause hints in'. by clause hints (Contains-append_cases front since (final clause hints) in');
  few = (let one = ap (count_by is_final) closes ∙ one_counted front closed.before closed.clause closed.hints none closed.all_learnt in omega (arith, one));
}
  where
    closes : front ++ since ≡ (front ++ closed.before) ++ final closed.clause closed.hints ∷ []
    closes = ap (λ xs. front ++ xs) closed.whole ∙ sym (append_assoc front closed.before (final closed.clause closed.hints ∷ []))

    by : (clause : Clause) (hints : List ℕ) → Contains front (final clause hints) ⊎ Contains since (final clause hints) → NegatesOnly assumed clause
    by clause hints (inl before) = absurd (no_final_in front clause hints none before)
    by clause hints (inr here) = subst (NegatesOnly assumed) (sym (only_final since clause hints closed here)) (last_final_for assumed old new since number whole closed refuted).negates

-- what a search put for its answer is what stands behind the book before it
pub put_since : (old new since : List BookEntry) (answer : Answer) → new ≡ old ++ since → HasPut old new answer → IsPutFor answer since
put_since old new since answer whole put = subst (IsPutFor answer) (same_put old new put.since since put.whole whole) put.put
