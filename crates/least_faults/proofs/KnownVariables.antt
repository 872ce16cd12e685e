-- The variables of a book's clauses are those of its axioms.
use Rattle.std.proofs.Common.{◌≡◌, ℕ, ◌<◌, true, ◌⊎◌, inl, inr, List, [], ◌∷◌, ◌++◌, sym, subst}
use Rattle.std.proofs.lemmas.List.Elements.{filter_map-append}
use Rattle.std.specs.List.{AllByRecursion, list_any}
use Rattle.des_base.proofs.BoolLemmas.{either as or_cases, or_left, or_right}
use Rattle.des_base.proofs.Elements.{all_append, all_split}
use Rattle.proof_ledger.specs.Book.{BookEntry, axioms_of, clause_of, clauses_of}
use Rattle.prop_core.proofs.Literals.{below_from, below_var, has_among}
use Rattle.prop_core.specs.Clauses.{Clause, HasValues}
use Rattle.prop_core.specs.Trail.{has_var}
use Rattle.sat_solve.specs.Searching.{HasAxiomVars}

-- ---- below a number

any_below : (n : ℕ) (clauses : List Clause) (var : ℕ) → AllByRecursion (HasValues n) clauses → list_any (has_var var) clauses ≡ true → var < n
any_below n [] var below there = cc
any_below n (c ∷ clauses) var below there = by (or_cases (has_var var c) (list_any (has_var var) clauses) there) (any_below n clauses var below.1)
  where
    by : (has_var var c ≡ true) ⊎ (list_any (has_var var) clauses ≡ true) → (list_any (has_var var) clauses ≡ true → var < n) → var < n
    by (inl here) rest = below_var n c var below.0 here
    by (inr later) rest = rest later

all_below : (n : ℕ) (clauses : List Clause) → ((var : ℕ) → list_any (has_var var) clauses ≡ true → var < n) → AllByRecursion (HasValues n) clauses
all_below n [] known = tt
all_below n (c ∷ clauses) known = (
  below_from n c (λ l among. known l.var (or_left (has_var l.var c) (list_any (has_var l.var) clauses) (has_among c l among))),
  all_below n clauses (λ var there. known var (or_right (has_var var c) (list_any (has_var var) clauses) there)),
)

-- where those of the axioms are, all are
pub book_below : (n : ℕ) (book : List BookEntry) → AllByRecursion (HasValues n) (axioms_of book) → HasAxiomVars book → AllByRecursion (HasValues n) (clauses_of book)
book_below n book below known = all_below n (clauses_of book) (λ var there. any_below n (axioms_of book) var below (known var there))

-- ---- a book and what was put behind it

pub known_front : (n : ℕ) (front back : List BookEntry) → AllByRecursion (HasValues n) (clauses_of (front ++ back)) → AllByRecursion (HasValues n) (clauses_of front)
known_front n front back all = (all_split (HasValues n) (clauses_of front) (clauses_of back) (subst (AllByRecursion (HasValues n)) (filter_map-append clause_of front back) all)).0

pub known_back : (n : ℕ) (front back : List BookEntry) → AllByRecursion (HasValues n) (clauses_of (front ++ back)) → AllByRecursion (HasValues n) (clauses_of back)
known_back n front back all = (all_split (HasValues n) (clauses_of front) (clauses_of back) (subst (AllByRecursion (HasValues n)) (filter_map-append clause_of front back) all)).1

pub known_joined : (n : ℕ) (front back : List BookEntry) → AllByRecursion (HasValues n) (clauses_of front) → AllByRecursion (HasValues n) (clauses_of back) → AllByRecursion (HasValues n) (clauses_of (front ++ back))
known_joined n front back one two = subst (AllByRecursion (HasValues n)) (sym (filter_map-append clause_of front back)) (all_append (HasValues n) (clauses_of front) (clauses_of back) one two)
