-- What makes the axioms of a valid book true makes all its clauses true.
use Rattle.std.proofs.Common.{◌≡◌, ℕ, Bool, List, [], ◌∷◌, ◌++◌, Option, None, Some, sym, ap, subst, append-nil, append_assoc, Contains, IsTrue, ◌⊎◌, inl, inr}
use Rattle.std.specs.List.{cons_option}
use Rattle.std.proofs.lemmas.List.Elements.{filter_map-append}
use Rattle.des_base.proofs.Elements.{all_append, cons_cases, here_first, here_later, none_in_nil}
use Rattle.prop_core.proofs.Entailed.{derived_clauses_are_true}
use Rattle.prop_core.specs.Clauses.{Clause, clause_true, AllClausesTrue}
use Rattle.prop_core.specs.Derivation.{clause_numbered}
use Rattle.proof_ledger.proofs.Checks.{numbered_true}
use Rattle.proof_ledger.specs.Book.{BookEntry, axiomatic, learnt, final, mark, clause_of, clauses_of, axioms_of, EachAfter, IsDerivedIfDue, IsValidBook}

-- one more entry, whose clause is true
more_true : (value : ℕ → Bool) (earlier : List BookEntry) (e : BookEntry) → IsDerivedIfDue earlier e → AllClausesTrue value (clauses_of earlier) → AllClausesTrue value (axioms_of (e ∷ [])) → AllClausesTrue value (clauses_of (e ∷ []))
more_true value earlier (axiomatic clause) derived all axioms = axioms
more_true value earlier (learnt clause hints) derived all axioms = (derived_clauses_are_true (clause_numbered (clauses_of earlier)) clause hints derived value (numbered_true value (clauses_of earlier) all), tt)
more_true value earlier (final clause hints) derived all axioms = (derived_clauses_are_true (clause_numbered (clauses_of earlier)) clause hints derived value (numbered_true value (clauses_of earlier) all), tt)
more_true value earlier (mark number) derived all axioms = tt

first_axioms : (value : ℕ → Bool) (e : BookEntry) (book : List BookEntry) → AllClausesTrue value (axioms_of (e ∷ book)) → AllClausesTrue value (axioms_of (e ∷ [])) × AllClausesTrue value (axioms_of book)
first_axioms value (axiomatic clause) book all = ((all.0, tt), all.1)
first_axioms value (learnt clause hints) book all = (tt, all)
first_axioms value (final clause hints) book all = (tt, all)
first_axioms value (mark number) book all = (tt, all)

all_true : (value : ℕ → Bool) (earlier book : List BookEntry) → EachAfter IsDerivedIfDue earlier book → AllClausesTrue value (clauses_of earlier) → AllClausesTrue value (axioms_of book) → AllClausesTrue value (clauses_of (earlier ++ book))
all_true value earlier [] each all axioms = subst (λ b. AllClausesTrue value (clauses_of b)) (sym (append-nil earlier)) all
all_true value earlier (e ∷ book) each all axioms =
    let parts = first_axioms value e book axioms in
    let next = subst (λ cs. AllClausesTrue value cs) (sym (filter_map-append clause_of earlier (e ∷ [])))
    (all_append (λ clause. IsTrue (clause_true value clause)) (clauses_of earlier) (clauses_of (e ∷ [])) all (more_true value earlier e each.0 all parts.0)) in
    subst (λ b. AllClausesTrue value (clauses_of b)) (append_assoc earlier (e ∷ []) book) (all_true value (earlier ++ e ∷ []) book each.1 next parts.1)

-- what makes its axioms true makes all its clauses true
pub book_true : (value : ℕ → Bool) (book : List BookEntry) → IsValidBook book → AllClausesTrue value (axioms_of book) → AllClausesTrue value (clauses_of book)
book_true value book valid axioms = all_true value [] book valid tt axioms

final_clause : (e : BookEntry) (clause : Clause) (hints : List ℕ) → e ≡ final clause hints → clause_of e ≡ Some clause
final_clause e clause hints is = ap clause_of is

-- the clause of a final entry is one of the book's
pub clause_there : (book : List BookEntry) (clause : Clause) (hints : List ℕ) → Contains book (final clause hints) → Contains (clauses_of book) clause
clause_there [] clause hints there = absurd (none_in_nil (final clause hints) there)
clause_there (e ∷ book) clause hints there = by (cons_cases e book (final clause hints) there) (clause_there book clause hints)
  where
    later : (o : Option Clause) (rest : List Clause) → Contains rest clause → Contains (cons_option o rest) clause
    later None rest in' = in'
    later (Some c) rest in' = here_later c rest clause in'

    first : (o : Option Clause) (rest : List Clause) → o ≡ Some clause → Contains (cons_option o rest) clause
    first None rest is = cc
    first (Some c) rest is = let same : c ≡ clause = cc in here_first c rest clause same

    by : (e ≡ final clause hints) ⊎ Contains book (final clause hints) → (Contains book (final clause hints) → Contains (clauses_of book) clause) → Contains (clauses_of (e ∷ book)) clause
    by (inl is) rest = first (clause_of e) (clauses_of book) (final_clause e clause hints is)
    by (inr in') rest = later (clause_of e) (clauses_of book) (rest in')
