-- The clauses of a list as axioms of a book, one after another, and what the book then has.
use Rattle.std.proofs.Common.{◌≡◌, ◌∙◌, ℕ, ◌+◌, ◌-◌, ◌<◌, ◌≤◌, false, List, [], ◌∷◌, ◌++◌, length, map, take, Option, Some, unwrap_or, get_or, eqb, refl, sym, ap, arith, sum_by, count_by, cond}
use Rattle.std.proofs.lemmas.Bool.{ne_eqb}
use Rattle.std.proofs.lemmas.List.{append_assoc, append-nil, map-append, take_all, take_more}
use Rattle.std.proofs.lemmas.List.Elements.{filter_map-append}
use Rattle.std.proofs.lemmas.List.Sums.{sum_by_more, sum_by_more_le, sum_by-append, sum_by-cons}
use Rattle.std.proofs.lemmas.Option.{slice_get-get_or}
use Rattle.prop_core.specs.Clauses.{Clause}
use Rattle.prop_core.specs.Derivation.{clause_numbered}
use Rattle.proof_ledger.specs.Book.{BookEntry, axiomatic, mark, axiom_of, clause_of, axioms_of, clauses_of}
use Rattle.proof_ledger.specs.Fresh.{is_learnt}

-- the clause with the next number stands at the next place
clause_at : (all : List Clause) (n : ℕ) (clause : Clause) → n < length all → clause_numbered all (n + 1) ≡ Some clause → get_or all n [] ≡ clause
clause_at all n clause below numbered =
    let some : eqb (n + 1) 0 ≡ false = ne_eqb (n + 1) 0 (λ q. absurd (omega arith)) in
    let place : n + 1 - 1 ≡ n = omega arith in
    let there : clause_numbered all (n + 1) ≡ Some (get_or all n []) = rw (some, place) (slice_get-get_or all n [] below) in
    ap (λ (o : Option Clause). unwrap_or o []) (sym there ∙ numbered)

-- it becomes the next axiom
pub axioms_next : (start now next : List BookEntry) (all : List Clause) (n : ℕ) (clause : Clause) → n < length all → clause_numbered all (n + 1) ≡ Some clause → now ≡ start ++ map axiomatic (take n all) →
    next ≡ now ++ axiomatic clause ∷ [] → next ≡ start ++ map axiomatic (take (n + 1) all)
axioms_next start now next all n clause below numbered so_far put =
    let further : take (n + 1) all ≡ take n all ++ clause ∷ [] = take_more all n [] below ∙ ap (λ (c : Clause). take n all ++ c ∷ []) (clause_at all n clause below numbered) in
    put ∙ ap (λ (book : List BookEntry). book ++ axiomatic clause ∷ []) so_far ∙ append_assoc start (map axiomatic (take n all)) (axiomatic clause ∷ [])
    ∙ ap (λ (entries : List BookEntry). start ++ entries) (sym (map-append axiomatic (take n all) (clause ∷ []))) ∙ ap (λ (cs : List Clause). start ++ map axiomatic cs) (sym further)

-- its literals are among those of all, behind those of the clauses before it
pub literals_next : (all : List Clause) (n : ℕ) (clause : Clause) → n < length all → clause_numbered all (n + 1) ≡ Some clause → sum_by length (take (n + 1) all) ≡ sum_by length (take n all) + length clause
literals_next all n clause below numbered = sum_by_more length all n [] below ∙ ap (λ (c : Clause). sum_by length (take n all) + length c) (clause_at all n clause below numbered)

pub literals_within : (all : List Clause) (n : ℕ) (clause : Clause) → n < length all → clause_numbered all (n + 1) ≡ Some clause → sum_by length (take n all) + length clause ≤ sum_by length all
literals_within all n clause below numbered = omega (arith, sum_by_more_le length all n [] below, ap (λ (c : Clause). length c) (clause_at all n clause below numbered))

-- ---- what the book then has

pub axioms_are : (clauses : List Clause) → axioms_of (map axiomatic clauses) ≡ clauses
axioms_are [] = refl
axioms_are (clause ∷ clauses) = ap (λ rest. clause ∷ rest) (axioms_are clauses)

pub clauses_are : (clauses : List Clause) → clauses_of (map axiomatic clauses) ≡ clauses
clauses_are [] = refl
clauses_are (clause ∷ clauses) = ap (λ rest. clause ∷ rest) (clauses_are clauses)

pub axioms_added : (book : List BookEntry) (clauses : List Clause) → axioms_of (book ++ map axiomatic clauses) ≡ axioms_of book ++ clauses
axioms_added book clauses = filter_map-append axiom_of book (map axiomatic clauses) ∙ ap (λ (cs : List Clause). axioms_of book ++ cs) (axioms_are clauses)

pub clauses_added : (book : List BookEntry) (clauses : List Clause) → clauses_of (book ++ map axiomatic clauses) ≡ clauses_of book ++ clauses
clauses_added book clauses = filter_map-append clause_of book (map axiomatic clauses) ∙ ap (λ (cs : List Clause). clauses_of book ++ cs) (clauses_are clauses)

-- ---- a mark behind it changes nothing of that

pub marked_axioms : (book : List BookEntry) (number : ℕ) → axioms_of (book ++ mark number ∷ []) ≡ axioms_of book
marked_axioms book number = filter_map-append axiom_of book (mark number ∷ []) ∙ append-nil (axioms_of book)

pub marked_clauses : (book : List BookEntry) (number : ℕ) → clauses_of (book ++ mark number ∷ []) ≡ clauses_of book
marked_clauses book number = filter_map-append clause_of book (mark number ∷ []) ∙ append-nil (clauses_of book)

-- nor do marks before and behind what follows
pub axioms_between : (old since : List BookEntry) → axioms_of (old ++ mark 0 ∷ since ++ mark 1 ∷ []) ≡ axioms_of ((old ++ mark 0 ∷ []) ++ since)
axioms_between old since =
    filter_map-append axiom_of (old ++ mark 0 ∷ since) (mark 1 ∷ []) ∙ append-nil (axioms_of (old ++ mark 0 ∷ since)) ∙ ap axioms_of (sym (append_assoc old (mark 0 ∷ []) since))

-- ---- axioms and marks are not learnt

pub none_learnt : (clauses : List Clause) → count_by is_learnt (map axiomatic clauses) ≡ 0
none_learnt [] = refl
none_learnt (clause ∷ clauses) = none_learnt clauses

pub learnt_between : (clauses : List Clause) (since : List BookEntry) → count_by is_learnt (map axiomatic clauses ++ mark 0 ∷ since ++ mark 1 ∷ []) ≡ count_by is_learnt since
learnt_between clauses since =
    let count = λ (e : BookEntry). cond (is_learnt e) 1 0 in
    let closing = sum_by-append count (map axiomatic clauses ++ mark 0 ∷ since) (mark 1 ∷ []) in
    let axioms = sum_by-append count (map axiomatic clauses) (mark 0 ∷ since) in
    let opening = sum_by-cons count (mark 0) since in
    omega (arith, closing, axioms, opening, none_learnt clauses)

-- ---- the first axioms of a book that was empty, and of one that none came into

pub all_of_empty : (book made : List BookEntry) (clauses : List Clause) → length book ≤ 0 → made ≡ map axiomatic clauses → made ≡ book ++ map axiomatic (take (length clauses) clauses)
all_of_empty [] made clauses none is = is ∙ ap (λ (cs : List Clause). map axiomatic cs) (sym (take_all (length clauses) clauses (omega arith)))
all_of_empty (entry ∷ book) made clauses none is = absurd (omega (arith, none))
