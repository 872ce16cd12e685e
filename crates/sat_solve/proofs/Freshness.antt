-- Clauses that were learnt, each of them fresh, and variables that occur in axioms.
use Rattle.std.proofs.Common.{◌≡◌, ◌∙◌, ℕ, Bool, true, false, ◌||◌, List, [], ◌∷◌, ◌++◌, map, refl, sym, ap, subst, count_by, append-nil, append_assoc}
use Rattle.std.proofs.lemmas.List.Folds.{list_any-append}
use Rattle.std.specs.List.{list_any}
use Rattle.sat_solve.specs.Leaving.{AddsAxioms, HaveLearntFresh}
use Rattle.proof_ledger.specs.Book.{BookEntry, axiomatic, mark, axioms_of, clauses_of, EachAfter}
use Rattle.proof_ledger.specs.Fresh.{AreFresh, is_learnt, IfLearnt, IsFreshClause}
use Rattle.prop_core.specs.Clauses.{Clause}
use Rattle.prop_core.specs.Trail.{has_var}
use Rattle.sat_solve.specs.Searching.{HasAxiomVars, IsSearched}
use Rattle.proof_ledger.proofs.AxiomLists.{axioms_added, clauses_added, learnt_between}

-- ---- fresh clauses

abbrev FreshAfter : List BookEntry → BookEntry → Type 0
FreshAfter before entry = IfLearnt entry (IsFreshClause before)

each_both : (earlier since more : List BookEntry) → EachAfter FreshAfter earlier since → EachAfter FreshAfter (earlier ++ since) more → EachAfter FreshAfter earlier (since ++ more)
each_both earlier [] more one two = subst (λ (b : List BookEntry). EachAfter FreshAfter b more) (append-nil earlier) two
each_both earlier (x ∷ since) more one two = (one.0, each_both (earlier ++ x ∷ []) since more one.1 (subst (λ (b : List BookEntry). EachAfter FreshAfter b more) (sym (append_assoc earlier (x ∷ []) since)) two))

pub fresh_none : (earlier : List BookEntry) → HaveLearntFresh earlier []
fresh_none earlier = record { number = refl; each = tt }

pub fresh_both : (earlier mid since more : List BookEntry) → mid ≡ earlier ++ since → HaveLearntFresh earlier since → HaveLearntFresh mid more → HaveLearntFresh earlier (since ++ more)
fresh_both earlier mid since more whole one two = record { number = refl; each = each_both earlier since more one.each (subst (λ (b : List BookEntry). EachAfter FreshAfter b more) whole two.each) }

axioms_fresh : (earlier : List BookEntry) (clauses : List Clause) → EachAfter FreshAfter earlier (map axiomatic clauses)
axioms_fresh earlier [] = tt
axioms_fresh earlier (clause ∷ clauses) = (tt, axioms_fresh (earlier ++ axiomatic clause ∷ []) clauses)

-- none is learnt among axioms
pub fresh_axioms : (earlier : List BookEntry) (clauses : List Clause) → HaveLearntFresh earlier (map axiomatic clauses)
fresh_axioms earlier clauses = record { number = refl; each = axioms_fresh earlier clauses }

-- nor is a mark
pub fresh_mark : (earlier : List BookEntry) (number : ℕ) → HaveLearntFresh earlier (mark number ∷ [])
fresh_mark earlier number = record { number = refl; each = (tt, tt) }

-- what a search learnt, where all variables occur in axioms
pub fresh_searched : (mid new : List BookEntry) (before after : ℕ) → (searched : IsSearched mid new before after) → HasAxiomVars mid → HaveLearntFresh mid searched.since
fresh_searched mid new before after searched known = record { number = refl; each = (searched.learnt_entries known).each }

-- what was learnt between the marks, after the axioms, is all that was learnt
pub fresh_closed : (axioms : List Clause) (since book : List BookEntry) (count : ℕ) → book ≡ map axiomatic axioms ++ mark 0 ∷ since ++ mark 1 ∷ [] → HaveLearntFresh (map axiomatic axioms ++ mark 0 ∷ []) since → count_by is_learnt since ≡ count → AreFresh [] book count
fresh_closed axioms since book count whole fresh counted = subst (λ (b : List BookEntry). AreFresh [] b count) (sym whole) (record {
  number = learnt_between axioms since ∙ counted;
  each = each_both [] (map axiomatic axioms ++ mark 0 ∷ since) (mark 1 ∷ []) (each_both [] (map axiomatic axioms) (mark 0 ∷ since) (axioms_fresh [] axioms) (tt, fresh.each)) (tt, tt);
})

-- ---- variables

or_weaker : (a b c : Bool) → (a ≡ true → c ≡ true) → a || b ≡ true → c || b ≡ true
or_weaker true b c more h = ap (λ x. x || b) (more refl)
or_weaker false b c more h = by c
  where
    by : (x : Bool) → x || b ≡ true
    by true = refl
    by false = h

-- axioms bring their own
pub known_added : (book : List BookEntry) (clauses : List Clause) → HasAxiomVars book → HasAxiomVars (book ++ map axiomatic clauses)
known_added book clauses known var there =
    ap (list_any (has_var var)) (axioms_added book clauses) ∙ list_any-append (has_var var) (axioms_of book) clauses
    ∙ or_weaker (list_any (has_var var) (clauses_of book)) (list_any (has_var var) clauses) (list_any (has_var var) (axioms_of book)) (known var)
    (sym (ap (list_any (has_var var)) (clauses_added book clauses) ∙ list_any-append (has_var var) (clauses_of book) clauses) ∙ there)

pub known_after : (old new : List BookEntry) → AddsAxioms old new → HasAxiomVars old → HasAxiomVars new
known_after old new adds known = subst HasAxiomVars (sym adds.more) (known_added old adds.axioms known)

pub known_first : (old new : List BookEntry) → old ≡ [] → AddsAxioms old new → HasAxiomVars new
known_first old new empty adds = known_after old new adds (subst HasAxiomVars (sym empty) (λ var there. there))

-- the same clauses have the same
pub known_same : (book new : List BookEntry) → clauses_of new ≡ clauses_of book → axioms_of new ≡ axioms_of book → HasAxiomVars book → HasAxiomVars new
known_same book new clauses axioms known var there = ap (list_any (has_var var)) axioms ∙ known var (sym (ap (list_any (has_var var)) clauses) ∙ there)
