-- Clauses read the same by more names, and codes grow with their logs.
use Rattle.std.proofs.Common.{◌≡◌, ◌≢◌, ℕ, List, [], ◌∷◌, ◌++◌, ◌∙◌, Option, Some, None, refl, sym, ap, subst, Contains, find, inl, inr, ◌⊎◌, ◌==◌, option_map}
use Rattle.std.proofs.lemmas.Bool.{eqb-true, eq-eqb}
use Rattle.des_base.proofs.BoolLemmas.{otherwise}
use Rattle.des_base.proofs.Elements.{cons_cases, none_in_nil, all_from}
use Rattle.question_clauses.proofs.Growth.{additions_are_exact, empty_log_is_exact}
use Rattle.question_clauses.proofs.Lists.{all_at, found_is}
use Rattle.question_clauses.specs.Additions.{with_addition, IsAddedClause}
use Rattle.question_clauses.specs.LogClauses.{IsLogClause}
use Rattle.question_clauses.specs.LogCodes.{IsNamedLog, IsNamedFirst, IsNamedAdded, AreAmong, ReadingsStay, CodesStay, CodeBegins, CodeGrows}
use Rattle.log_order.specs.Log.{no_log}
use Rattle.prop_core.proofs.FamilyLemmas.{Either, code_append, code_same}
use Rattle.prop_core.specs.Clauses.{Clause}
use Rattle.prop_core.specs.NamedClauses.{IsCode}
use Rattle.prop_core.specs.VariableNames.{Meaning, NamedLiteral, HasEachOnce, meaning_of, named_literal, named_clause, with_literal, ReadsAs}
use Rattle.prop_core.specs.declared.lit.Lit.{Lit}
use Rattle.question_clauses.specs.StepCodes.{IsNamedStep}

-- the name of a variable that has one
pub has_name : (names : List (ℕ × Meaning)) (entry : ℕ × Meaning) → HasEachOnce names → Contains names entry → meaning_of names entry.0 ≡ Some entry.1
has_name [] entry once in' = absurd (none_in_nil entry in')
has_name (x ∷ names) entry once in' = by (cons_cases x names entry in') (has_name names entry once.1)
  where
    by : (x ≡ entry) ⊎ Contains names entry → (Contains names entry → meaning_of names entry.0 ≡ Some entry.1) → meaning_of (x ∷ names) entry.0 ≡ Some entry.1
    by (inl is) later = subst (λ (y : ℕ × Meaning). meaning_of (x ∷ names) y.0 ≡ Some y.1) is here
      where
        here : meaning_of (x ∷ names) x.0 ≡ Some x.1
        here = rw (eq-eqb x.0 x.0 refl) refl
    by (inr rest) later =
        let differ = all_at (λ (y : ℕ × Meaning). (x.0 ≢ y.0) × (x.1 ≢ y.1)) names once.0 entry rest in
        let other = otherwise (x.0 == entry.0) (λ h. differ.0 (eqb-true x.0 entry.0 h)) in
        rw other (later rest)

-- what a clause reads as, literal by literal
pub record IsReadOf (names : List (ℕ × Meaning)) (l : Lit) (clause : Clause) (read : List NamedLiteral) : Type 0 where
  pub first : NamedLiteral
  pub rest : List NamedLiteral
  pub whole : read ≡ first ∷ rest
  pub literal : named_literal names l ≡ Some first
  pub later : named_clause names clause ≡ Some rest

pub read_of : (names : List (ℕ × Meaning)) (l : Lit) (clause : Clause) (read : List NamedLiteral) → named_clause names (l ∷ clause) ≡ Some read → IsReadOf names l clause read
read_of names l clause read h = by (named_literal names l) refl (named_clause names clause) refl h
  where
    by : (o : Option NamedLiteral) → named_literal names l ≡ o → (p : Option (List NamedLiteral)) → named_clause names clause ≡ p → with_literal o p ≡ Some read → IsReadOf names l clause read
    by None e p f is = cc
    by (Some m) e None f is = cc
    by (Some m) e (Some rest) f is = let same : m ∷ rest ≡ read = some_is (m ∷ rest) read is in record { first = m; rest = rest; whole = sym same; literal = e; later = f }
      where
        some_is : (a b : List NamedLiteral) → Some a ≡ Some b → a ≡ b
        some_is a b q = cc

pub named_entry : (names : List (ℕ × Meaning)) (var : ℕ) (meaning : Meaning) → meaning_of names var ≡ Some meaning → Contains names (var, meaning)
named_entry names var meaning h = by (find (λ (entry : ℕ × Meaning). entry.0 == var) names) refl h
  where
    by : (o : Option (ℕ × Meaning)) → find (λ (entry : ℕ × Meaning). entry.0 == var) names ≡ o → option_map (λ (entry : ℕ × Meaning). entry.1) o ≡ Some meaning → Contains names (var, meaning)
    by None e is = cc
    by (Some entry) e is =
        let found = found_is (λ (x : ℕ × Meaning). x.0 == var) names entry e in
        let first = eqb-true entry.0 var found.0 in
        let second = some_is entry.1 meaning is in
        let same : ◌≡◌ {A = ℕ × Meaning} entry (var, meaning) = λ i. (first i, second i) in
        subst (λ y. Contains names y) same found.1
      where
        some_is : (a b : Meaning) → Some a ≡ Some b → a ≡ b
        some_is a b p = cc

module _ (names more : List (ℕ × Meaning)) (once : HasEachOnce more) (inside : (entry : ℕ × Meaning) → Contains names entry → Contains more entry) where
  name_stays : (var : ℕ) (meaning : Meaning) → meaning_of names var ≡ Some meaning → meaning_of more var ≡ Some meaning
  name_stays var meaning h = has_name more (var, meaning) once (inside (var, meaning) (named_entry names var meaning h))

  literal_stays : (l : Lit) (m : NamedLiteral) → named_literal names l ≡ Some m → named_literal more l ≡ Some m
  literal_stays l m h = by (meaning_of names l.var) refl h
    where
      by : (o : Option Meaning) → meaning_of names l.var ≡ o → option_map (λ (meaning : Meaning). record { meaning = meaning; positive = l.positive }) o ≡ Some m → named_literal more l ≡ Some m
      by None e is = cc
      by (Some meaning) e is = rw (name_stays l.var meaning e) is

  clause_stays : (clause : Clause) (read : List NamedLiteral) → named_clause names clause ≡ Some read → named_clause more clause ≡ Some read
  clause_stays [] read h = h
  clause_stays (l ∷ clause) read h =
      let parts = read_of names l clause read h in
      rw (literal_stays l parts.first parts.literal, clause_stays clause parts.rest parts.later) (ap Some (sym parts.whole))

  pub reading_stays : (clause : Clause) (named : List NamedLiteral) → ReadsAs names clause named → ReadsAs more clause named
  reading_stays clause named reads = record { read = reads.read; by_name = clause_stays clause reads.read reads.by_name; same = reads.same }

pub readings_stay : ReadingsStay
readings_stay names more clause named once inside reads = reading_stays names more once inside clause named reads

pub code_stays : (names more : List (ℕ × Meaning)) (family : List NamedLiteral → Type 0) (clauses : List Clause) → HasEachOnce more → AreAmong names more → IsCode names family clauses → IsCode more family clauses
code_stays names more family clauses once inside code = record {
  all = λ named is. let there = code.all named is in (there.0, there.1, reading_stays names more once inside there.0 named there.2);
  only = all_from (λ clause. (named : List NamedLiteral) × family named × ReadsAs more clause named) clauses (λ clause in'.
      let found = all_at (λ c. (named : List NamedLiteral) × family named × ReadsAs names c named) clauses code.only clause in' in
      (found.0, found.1, reading_stays names more once inside clause found.0 found.2));
}

pub codes_stay : CodesStay
codes_stay names more clauses once inside = record {
  steps = λ net n code. code_stays names more (IsNamedStep net n) clauses once inside code;
  log = λ net log n code. code_stays names more (IsNamedLog net log n) clauses once inside code;
}

pub code_begins : CodeBegins
code_begins net n names clauses code = code_same names (IsNamedFirst net n) (IsNamedLog net no_log n) clauses to back code
  where
    to : (named : List NamedLiteral) → IsNamedFirst net n named → IsNamedLog net no_log n named
    to named (which, known, is) = (which, (empty_log_is_exact net n which).1 known, is)

    back : (named : List NamedLiteral) → IsNamedLog net no_log n named → IsNamedFirst net n named
    back named (which, known, is) = (which, (empty_log_is_exact net n which).0 known, is)

pub code_grows : CodeGrows
code_grows net log n addition names more clauses drafted once inside code draft =
    code_same more (Either (IsNamedLog net log n) (IsNamedAdded net log n addition)) (IsNamedLog net (with_addition log addition) n) (clauses ++ drafted) to back
    (code_append more (IsNamedLog net log n) (IsNamedAdded net log n addition) clauses drafted (code_stays names more (IsNamedLog net log n) clauses once inside code) draft)
  where
    to : (named : List NamedLiteral) → Either (IsNamedLog net log n) (IsNamedAdded net log n addition) named → IsNamedLog net (with_addition log addition) n named
    to named (inl (which, known, is)) = let exact = additions_are_exact net log n addition which in (which, exact.0.1 (inl known), sym (exact.1 known) ∙ is)
    to named (inr (which, known, is)) = (which, (additions_are_exact net log n addition which).0.1 (inr known), is)

    back : (named : List NamedLiteral) → IsNamedLog net (with_addition log addition) n named → Either (IsNamedLog net log n) (IsNamedAdded net log n addition) named
    back named (which, known, is) = by ((additions_are_exact net log n addition which).0.0 known)
      where
        by : IsLogClause net log n which ⊎ IsAddedClause net log n addition which → Either (IsNamedLog net log n) (IsNamedAdded net log n addition) named
        by (inl old) = inl (which, old, (additions_are_exact net log n addition which).1 old ∙ is)
        by (inr new) = inr (which, new, is)
