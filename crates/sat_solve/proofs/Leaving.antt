-- What a question leaves in its book: how the entries of its searches come together, and how marks come around them.
use Rattle.std.proofs.Common.{◌≡◌, ◌∙◌, ℕ, ◌+◌, ◌≤◌, ◌⊎◌, inl, inr, false, List, [], ◌∷◌, ◌++◌, map, refl, sym, ap, subst, Contains, count_by, append-nil, append_assoc, arith}
use Rattle.std.proofs.lemmas.List.Elements.{Contains-append_cases}
use Rattle.std.specs.List.{list_any}
use Rattle.prop_core.specs.Clauses.{Clause, NegatesOnly}
use Rattle.prop_core.specs.declared.lit.Lit.{Lit}
use Rattle.proof_ledger.proofs.AxiomLists.{none_learnt}
use Rattle.proof_ledger.specs.Book.{BookEntry, axiomatic, final, mark, is_mark}
use Rattle.proof_ledger.specs.Fresh.{is_learnt}
use Rattle.sat_solve.proofs.Entries.{counted_both, derived_unmarked, learnt_no_final, no_final_in, none_counted, none_final, none_joined, none_marked, one_counted, only_final, same_put}
use Rattle.sat_solve.proofs.Freshness.{fresh_axioms, fresh_both, fresh_none, fresh_searched}
use Rattle.sat_solve.specs.Leaving.{AddsAxioms, EachFinal, HasFinal, HasLastFinal, HaveLearntFresh, IsSearching, LeavesBare, LeavesClosed, LeavesOpen, PutsFinals, PutsNoFinal}
use Rattle.sat_solve.specs.Searching.{HasAxiomVars, HasLearnt, IsClosedByFinal, IsSearched, is_final}

-- ---- final entries

-- what holds of those in front and of those behind holds of all
pub each_both : (holds : Clause → Type 0) (front since : List BookEntry) → EachFinal holds front → EachFinal holds since → EachFinal holds (front ++ since)
each_both holds front since one two clause hints in' = by (Contains-append_cases front since (final clause hints) in')
  where
    by : Contains front (final clause hints) ⊎ Contains since (final clause hints) → holds clause
    by (inl here) = one clause hints here
    by (inr here) = two clause hints here

-- where there is none it holds of each
pub each_none : (holds : Clause → Type 0) (since : List BookEntry) → list_any is_final since ≡ false → EachFinal holds since
each_none holds since none clause hints in' = absurd (no_final_in since clause hints none in')

-- entries without a final one add none
pub no_more : (most : ℕ) (since more : List BookEntry) → count_by is_final since ≤ most → list_any is_final more ≡ false → count_by is_final (since ++ more) ≤ most
no_more most since more few none = (let all = counted_both is_final since more in let zero = none_counted more none in omega (arith, all, zero, few))

pub few_later : (most : ℕ) (front since : List BookEntry) → list_any is_final front ≡ false → count_by is_final since ≤ most → count_by is_final (front ++ since) ≤ most
few_later most front since none few = (let all = counted_both is_final front since in let zero = none_counted front none in omega (arith, all, zero, few))

pub final_later : (front since : List BookEntry) (assumed : List Lit) → list_any is_final front ≡ false → HasFinal (front ++ since) assumed → HasFinal since assumed
final_later front since assumed none has = record { clause = has.clause; hints = has.hints; there = by (Contains-append_cases front since (final has.clause has.hints) has.there); negates = has.negates }
  where
    by : Contains front (final has.clause has.hints) ⊎ Contains since (final has.clause has.hints) → Contains since (final has.clause has.hints)
    by (inl here) = absurd (no_final_in front has.clause has.hints none here)
    by (inr here) = here

-- the last one stays the last behind others, and before entries without one
abbrev pub last_later : (front since : List BookEntry) (assumed : List Lit) → HasLastFinal since assumed → HasLastFinal (front ++ since) assumed
last_later front since assumed last = record {
  earlier = front ++ last.earlier;
  clause = last.clause;
  hints = last.hints;
  later = last.later;
  whole = ap (λ (xs : List BookEntry). front ++ xs) last.whole ∙ sym (append_assoc front last.earlier (final last.clause last.hints ∷ last.later));
  last = last.last;
  negates = last.negates;
}

abbrev pub last_before : (since more : List BookEntry) (assumed : List Lit) → list_any is_final more ≡ false → HasLastFinal since assumed → HasLastFinal (since ++ more) assumed
last_before since more assumed none last = record {
  earlier = last.earlier;
  clause = last.clause;
  hints = last.hints;
  later = last.later ++ more;
  whole = ap (λ (xs : List BookEntry). xs ++ more) last.whole ∙ append_assoc last.earlier (final last.clause last.hints ∷ last.later) more;
  last = none_joined last.later more last.last none;
  negates = last.negates;
}

-- ---- learnt entries, and then a final one

pub closed_counted : (since : List BookEntry) → IsClosedByFinal since → count_by is_final since ≡ 1
closed_counted since closed = ap (count_by is_final) closed.whole ∙ one_counted [] closed.before closed.clause closed.hints refl closed.all_learnt

-- it is the only one, and the last
pub closed_each : (since : List BookEntry) (assumed : List Lit) → (closed : IsClosedByFinal since) → NegatesOnly assumed closed.clause → EachFinal (NegatesOnly assumed) since
closed_each since assumed closed negates clause hints in' = subst (NegatesOnly assumed) (sym (only_final since clause hints closed in')) negates

abbrev pub closed_last : (since : List BookEntry) (assumed : List Lit) → (closed : IsClosedByFinal since) → NegatesOnly assumed closed.clause → HasLastFinal since assumed
closed_last since assumed closed negates = record { earlier = closed.before; clause = closed.clause; hints = closed.hints; later = []; whole = closed.whole; last = refl; negates = negates }

-- ---- without a final entry

pub axioms_no_final : (old new : List BookEntry) → AddsAxioms old new → PutsNoFinal old new
axioms_no_final old new adds = record { since = map axiomatic adds.axioms; whole = adds.more; none = none_final adds.axioms }

pub learnt_alone : (old new : List BookEntry) → HasLearnt old new → PutsNoFinal old new
learnt_alone old new put = record { since = put.since; whole = put.whole; none = learnt_no_final put.since put.all_learnt }

abbrev both_put : (old mid new one other : List BookEntry) → mid ≡ old ++ one → new ≡ mid ++ other → new ≡ old ++ (one ++ other)
both_put old mid new one other first then = then ∙ ap (λ (b : List BookEntry). b ++ other) first ∙ append_assoc old one other

pub no_final_both : (old mid new : List BookEntry) → PutsNoFinal old mid → PutsNoFinal mid new → PutsNoFinal old new
no_final_both old mid new one two = record { since = one.since ++ two.since; whole = both_put old mid new one.since two.since one.whole two.whole; none = none_joined one.since two.since one.none two.none }

-- axioms, and then what a search learns
pub axioms_and_learnt : (old mid new : List BookEntry) → AddsAxioms old mid → HasLearnt mid new → PutsNoFinal old new
axioms_and_learnt old mid new adds put = no_final_both old mid new (axioms_no_final old mid adds) (learnt_alone mid new put)

-- ---- while it is asked

abbrev pub searching_none : (book : List BookEntry) (left : ℕ) → IsSearching book book left left
searching_none book left = record { since = []; whole = sym (append-nil book); unmarked = λ number. refl; paid = omega arith; fresh = fresh_none book }

abbrev pub searching_axioms : (old new : List BookEntry) (left : ℕ) → AddsAxioms old new → IsSearching old new left left
searching_axioms old new left adds = record {
  since = map axiomatic adds.axioms;
  whole = adds.more;
  unmarked = λ number. none_marked number adds.axioms;
  paid = (let none = none_learnt adds.axioms in omega (arith, none));
  fresh = fresh_axioms old adds.axioms;
}

abbrev pub searching_searched : (mid new : List BookEntry) (before after : ℕ) → IsSearched mid new before after → HasAxiomVars mid → IsSearching mid new before after
searching_searched mid new before after searched known = record {
  since = searched.since;
  whole = searched.whole;
  unmarked = λ number. derived_unmarked number searched.since searched.derived;
  paid = (let number = searched.number in let paid = searched.paid in omega (arith, number, paid));
  fresh = fresh_searched mid new before after searched known;
}

-- one after the other
abbrev pub searching_further : (first mid last : List BookEntry) (budget before after : ℕ) → IsSearching first mid budget before → IsSearching mid last before after → IsSearching first last budget after
searching_further first mid last budget before after one two = record {
  since = one.since ++ two.since;
  whole = both_put first mid last one.since two.since one.whole two.whole;
  unmarked = λ number. counted_both (is_mark number) one.since two.since ∙ (let a = one.unmarked number in let b = two.unmarked number in omega (arith, a, b));
  paid = (let count = counted_both is_learnt one.since two.since in omega (arith, count, one.paid, two.paid));
  fresh = fresh_both first mid one.since two.since one.whole one.fresh two.fresh;
}

-- axioms, and then a search
abbrev pub searching_both : (old mid new : List BookEntry) (before after : ℕ) → AddsAxioms old mid → IsSearched mid new before after → HasAxiomVars mid → IsSearching old new before after
searching_both old mid new before after adds searched known = searching_further old mid new before before after (searching_axioms old mid before adds) (searching_searched mid new before after searched known)

-- ---- what was put

-- by one search: of each final entry that it put this holds, and there are few
abbrev pub leaves_searched : (holds : Clause → Type 0) (most budget left : ℕ) (old new : List BookEntry) → (searching : IsSearching old new budget left) → EachFinal holds searching.since → count_by is_final searching.since ≤ most → LeavesBare holds most budget old new
leaves_searched holds most budget left old new searching finals few = record {
  since = searching.since;
  whole = searching.whole;
  unmarked = searching.unmarked;
  within = (let paid = searching.paid in omega (arith, paid));
  fresh = searching.fresh;
  finals = finals;
  few = few;
}

-- the same where the final entries are told apart from the others
pub leaves_both : (holds : Clause → Type 0) (most budget left : ℕ) (old new : List BookEntry) → IsSearching old new budget left → PutsFinals holds most old new → LeavesBare holds most budget old new
leaves_both holds most budget left old new searching put =
    let same = same_put old new put.since searching.since put.whole searching.whole in
    leaves_searched holds most budget left old new searching (subst (EachFinal holds) same put.finals) (subst (λ (entries : List BookEntry). count_by is_final entries ≤ most) same put.few)

-- behind a search that put no final entry
abbrev pub leaves_later : (holds : Clause → Type 0) (most budget left : ℕ) (old mid new : List BookEntry) → (searching : IsSearching old mid budget left) → list_any is_final searching.since ≡ false → LeavesBare holds most left mid new → LeavesBare holds most budget old new
leaves_later holds most budget left old mid new searching none put = record {
  since = searching.since ++ put.since;
  whole = both_put old mid new searching.since put.since searching.whole put.whole;
  unmarked = λ number. counted_both (is_mark number) searching.since put.since ∙ (let one = searching.unmarked number in let two = put.unmarked number in omega (arith, one, two));
  within = (let count = counted_both is_learnt searching.since put.since in let paid = searching.paid in let less = put.within in omega (arith, count, paid, less));
  fresh = fresh_both old mid searching.since put.since searching.whole searching.fresh put.fresh;
  finals = each_both holds searching.since put.since (each_none holds searching.since none) put.finals;
  few = few_later most searching.since put.since none put.few;
}

-- between the marks, where as much holds of its clauses
abbrev pub leaves_open : (holds : Clause → Type 0) (most budget : ℕ) (old opened new : List BookEntry) → opened ≡ old ++ mark 0 ∷ [] → LeavesBare holds most budget opened new → LeavesOpen holds most budget old new
leaves_open holds most budget old opened new begins put = record {
  since = put.since;
  whole = put.whole ∙ ap (λ (b : List BookEntry). b ++ put.since) begins ∙ append_assoc old (mark 0 ∷ []) put.since;
  unmarked = put.unmarked;
  within = put.within;
  fresh = subst (λ (earlier : List BookEntry). HaveLearntFresh earlier put.since) begins put.fresh;
  finals = put.finals;
  few = put.few;
}

abbrev pub leaves_closed : (holds as_well : Clause → Type 0) (most budget : ℕ) (old opened searched new : List BookEntry) → opened ≡ old ++ mark 0 ∷ [] → new ≡ searched ++ mark 1 ∷ [] → ((clause : Clause) → holds clause → as_well clause) → LeavesBare holds most budget opened searched →
    LeavesClosed as_well most budget old new
leaves_closed holds as_well most budget old opened searched new begins ends each put =
    let left = leaves_open holds most budget old opened searched begins put in record {
      since = left.since;
      whole = ends ∙ ap (λ (b : List BookEntry). b ++ mark 1 ∷ []) left.whole;
      unmarked = left.unmarked;
      within = left.within;
      fresh = left.fresh;
      finals = λ clause hints in'. each clause (left.finals clause hints in');
      few = left.few;
    }

-- ---- without an answer

pub finals_none : (holds : Clause → Type 0) (most : ℕ) (old new : List BookEntry) → PutsNoFinal old new → PutsFinals holds most old new
finals_none holds most old new quit = record {
  since = quit.since;
  whole = quit.whole;
  finals = each_none holds quit.since quit.none;
  few = (let none = none_counted quit.since quit.none in omega (arith, none));
}

-- entries without a final one before
pub finals_later : (holds : Clause → Type 0) (most : ℕ) (old mid new : List BookEntry) → PutsNoFinal old mid → PutsFinals holds most mid new → PutsFinals holds most old new
finals_later holds most old mid new quit put = record {
  since = quit.since ++ put.since;
  whole = both_put old mid new quit.since put.since quit.whole put.whole;
  finals = each_both holds quit.since put.since (each_none holds quit.since quit.none) put.finals;
  few = few_later most quit.since put.since quit.none put.few;
}

-- and behind
pub finals_before : (holds : Clause → Type 0) (most : ℕ) (old mid new : List BookEntry) → PutsFinals holds most old mid → PutsNoFinal mid new → PutsFinals holds most old new
finals_before holds most old mid new put quit = record {
  since = put.since ++ quit.since;
  whole = both_put old mid new put.since quit.since put.whole quit.whole;
  finals = each_both holds put.since quit.since put.finals (each_none holds quit.since quit.none);
  few = no_more most put.since quit.since put.few quit.none;
}

-- those of an answer
pub finals_left : (holds : Clause → Type 0) (most budget : ℕ) (old new : List BookEntry) → LeavesBare holds most budget old new → PutsFinals holds most old new
finals_left holds most budget old new put = record { since = put.since; whole = put.whole; finals = put.finals; few = put.few }
