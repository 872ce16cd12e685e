-- The clauses of a list, one after another, as axioms of a book.
use Rattle.std.proofs.Common.{◌≡◌, ◌∙◌, ℕ, zero, suc, List, [], ◌∷◌, ◌++◌, length, map, take, refl, sym, ap}
use Rattle.std.proofs.lemmas.List.{append_assoc, append-nil, map-append}
use Rattle.des_base.proofs.Elements.{take_whole}
use Rattle.least_faults.specs.Growing.{HasFrontOf}
use Rattle.proof_ledger.specs.Book.{BookEntry, axiomatic, axioms_of, clauses_of}
use Rattle.prop_core.specs.Clauses.{Clause}
use Rattle.proof_ledger.proofs.AxiomLists.{axioms_added, clauses_added}
use Rattle.sat_solve.specs.Leaving.{AddsAxioms}

-- ---- what the book then has

pub adds_none : (book : List BookEntry) → AddsAxioms book book
adds_none book = record { axioms = []; more = sym (append-nil book) }

pub adds_both : (old mid new : List BookEntry) → AddsAxioms old mid → AddsAxioms mid new → AddsAxioms old new
adds_both old mid new first second = record {
  axioms = first.axioms ++ second.axioms;
  more = second.more ∙ ap (λ (entries : List BookEntry). entries ++ map axiomatic second.axioms) first.more ∙ append_assoc old (map axiomatic first.axioms) (map axiomatic second.axioms)
      ∙ ap (λ (entries : List BookEntry). old ++ entries) (sym (map-append axiomatic first.axioms second.axioms));
}

-- ---- a front of axioms

take_none : (cs : List Clause) → take 0 cs ≡ []
take_none [] = refl
take_none (c ∷ cs) = refl

-- in an empty book it is what was added
pub front_adds : (axioms : List Clause) (old new : List BookEntry) → old ≡ [] → HasFrontOf axioms new → AddsAxioms old new
front_adds axioms old new empty has = record { axioms = take has.count axioms; more = has.front ∙ ap (λ (book : List BookEntry). book ++ map axiomatic (take has.count axioms)) (sym empty) }

pub front_none : (axioms : List Clause) (book : List BookEntry) → book ≡ [] → HasFrontOf axioms book
front_none axioms book empty = record { count = 0; front = empty ∙ ap (λ (cs : List Clause). map axiomatic cs) (sym (take_none axioms)) }

first_front : (xs ys : List Clause) (count : ℕ) → (k : ℕ) × (take k (xs ++ ys) ≡ take count xs)
first_front [] ys zero = (0, take_none ys)
first_front [] ys (suc count) = (0, take_none ys)
first_front (x ∷ xs) ys zero = (0, refl)
first_front (x ∷ xs) ys (suc count) = let rest = first_front xs ys count in (suc rest.0, ap (λ cs. x ∷ cs) rest.1)

second_front : (xs ys : List Clause) (count : ℕ) → (k : ℕ) × (take k (xs ++ ys) ≡ xs ++ take count ys)
second_front [] ys count = (count, refl)
second_front (x ∷ xs) ys count = let rest = second_front xs ys count in (suc rest.0, ap (λ cs. x ∷ cs) rest.1)

-- of one list, and of one whole list and another
module _ (old one : List BookEntry) (first second : List Clause) (empty : old ≡ []) where
  pub front_of_first : (count : ℕ) → one ≡ old ++ map axiomatic (take count first) → HasFrontOf (first ++ second) one
  front_of_first count is =
      let front = first_front first second count in
      record { count = front.0; front = is ∙ ap (λ (book : List BookEntry). book ++ map axiomatic (take count first)) empty ∙ ap (λ (cs : List Clause). map axiomatic cs) (sym front.1) }

  pub front_of_second : (two : List BookEntry) (count : ℕ) → one ≡ old ++ map axiomatic first → two ≡ one ++ map axiomatic (take count second) → HasFrontOf (first ++ second) two
  front_of_second two count is further =
      let front = second_front first second count in
      record {
        count = front.0;
        front = further ∙ ap (λ (book : List BookEntry). book ++ map axiomatic (take count second)) (is ∙ ap (λ (book : List BookEntry). book ++ map axiomatic first) empty)
            ∙ sym (map-append axiomatic first (take count second)) ∙ ap (λ (cs : List Clause). map axiomatic cs) (sym front.1);
      }

  pub front_whole : (two : List BookEntry) → one ≡ old ++ map axiomatic first → two ≡ one ++ map axiomatic second → HasFrontOf (first ++ second) two
  front_whole two is further = front_of_second two (length second) is (further ∙ ap (λ (cs : List Clause). one ++ map axiomatic cs) (sym (take_whole second)))

-- two lists after one another
module _ (old one two : List BookEntry) (first second : List Clause) (one_is : one ≡ old ++ map axiomatic first) (two_is : two ≡ one ++ map axiomatic second) where
  pub axioms_both : old ≡ [] → axioms_of two ≡ first ++ second
  axioms_both empty = ap axioms_of two_is ∙ axioms_added one second ∙ ap (λ (cs : List Clause). cs ++ second) (ap axioms_of one_is ∙ axioms_added old first ∙ ap (λ (book : List BookEntry). axioms_of book ++ first) empty)

  pub clauses_both : old ≡ [] → clauses_of two ≡ first ++ second
  clauses_both empty = ap clauses_of two_is ∙ clauses_added one second ∙ ap (λ (cs : List Clause). cs ++ second) (ap clauses_of one_is ∙ clauses_added old first ∙ ap (λ (book : List BookEntry). clauses_of book ++ first) empty)
