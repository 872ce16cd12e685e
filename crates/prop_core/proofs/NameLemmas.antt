-- Clauses over variables are true where they are by name.
use Rattle.std.proofs.Common.{◌≡◌, ◌≢◌, ℕ, zero, suc, ◌∙◌, Bool, true, false, List, [], ◌∷◌, ◌++◌, Option, Some, None, refl, sym, ap, subst, arith, Contains, IsTrue, option_map, unwrap_or, ◌==◌, ◌&&◌, ◌||◌}
use Rattle.std.specs.Bool.{beq}
use Rattle.std.specs.List.{AllByRecursion, list_any}
use Rattle.std.proofs.lemmas.Bool.{and_parts, eqb-true, eq-eqb, false_from_ne_true}
use Rattle.std.proofs.lemmas.Option.{same_Some}
use Rattle.des_base.proofs.BoolLemmas.{itself}
use Rattle.des_base.proofs.Elements.{all_at}
use Rattle.prop_core.specs.declared.lit.Lit.{Lit}
use Rattle.prop_core.specs.Clauses.{Clause, literal_true, clause_true, AllClausesTrue}
use Rattle.prop_core.specs.VariableNames.{Meaning, in_state, happens, asked, matches, done, unmatched, closed, dropped, reaches, some_of_first, Exclusion, of_states, of_events, of_matches, NamedLiteral, HasEachOnce, meaning_of, named_literal, with_literal, named_clause, ReadsAs}
use Rattle.prop_core.specs.NamedClauses.{same_sign, named_true, named_clause_true, same_exclusion, same_meaning, variable_of, Match, ValuesMatch, AssignmentsMatch, AllHold, IsCode}
use Rattle.std.specs.Prelude.{◌↔◌}

-- Clauses of a family are true exactly if the family is, by name.
abbrev pub CodeHolds : (List NamedLiteral → Type 0) → Type 0
CodeHolds family = (meanings : List (ℕ × Meaning)) (clauses : List Clause) (assignment : ℕ → Bool) (value : Meaning → Bool) →
    IsCode meanings family clauses → Match meanings assignment value → AllClausesTrue assignment clauses ↔ AllHold family value

-- further names change nothing
pub found_more : (names more : List (ℕ × Meaning)) (var : ℕ) (meaning : Meaning) → meaning_of names var ≡ Some meaning → meaning_of (names ++ more) var ≡ Some meaning
found_more [] more var meaning h = cc
found_more (entry ∷ names) more var meaning h = by (entry.0 == var) refl (found_more names more var meaning)
  where
    by : (b : Bool) → (entry.0 == var) ≡ b → (meaning_of names var ≡ Some meaning → meaning_of (names ++ more) var ≡ Some meaning) → meaning_of ((entry ∷ names) ++ more) var ≡ Some meaning
    by true e later = rw e (rw e at h)
    by false e later = rw e (later (rw e at h))

pub literal_more : (names more : List (ℕ × Meaning)) (l : Lit) (m : NamedLiteral) → named_literal names l ≡ Some m → named_literal (names ++ more) l ≡ Some m
literal_more names more l m h = by (meaning_of names l.var) refl h
  where
    by : (o : Option Meaning) → meaning_of names l.var ≡ o → option_map (λ (meaning : Meaning). record { meaning = meaning; positive = l.positive }) o ≡ Some m → named_literal (names ++ more) l ≡ Some m
    by None e is = cc
    by (Some meaning) e is = rw (found_more names more l.var meaning e) is

-- ---- truth

pub sign_is : (a b : Bool) → beq a b ≡ same_sign b a
sign_is true true = refl
sign_is true false = refl
sign_is false true = refl
sign_is false false = refl

-- a literal that reads as another has its truth
pub literal_is : (names : List (ℕ × Meaning)) (assignment : ℕ → Bool) (value : Meaning → Bool) (l : Lit) (m : NamedLiteral) → Match names assignment value → named_literal names l ≡ Some m → literal_true assignment l ≡ named_true value m
literal_is names assignment value l m match h = by (meaning_of names l.var) refl h
  where
    by : (o : Option Meaning) → meaning_of names l.var ≡ o → option_map (λ (meaning : Meaning). record { meaning = meaning; positive = l.positive }) o ≡ Some m → literal_true assignment l ≡ named_true value m
    by None e is = cc
    by (Some meaning) e is =
        subst (λ x. literal_true assignment l ≡ named_true value x) (same_Some (record { meaning = meaning; positive = l.positive }) m is)
        (sign_is (assignment l.var) l.positive ∙ ap (same_sign l.positive) (match l.var meaning e))

equal2 : (a b c d : ℕ) → (a == b) && (c == d) ≡ true → (a ≡ b) × (c ≡ d)
equal2 a b c d h = let p = and_parts (a == b) (c == d) h in (eqb-true a b p.0, eqb-true c d p.1)

equal3 : (a b c d e f : ℕ) → (a == b) && ((c == d) && (e == f)) ≡ true → (a ≡ b) × (c ≡ d) × (e ≡ f)
equal3 a b c d e f h = let p = and_parts (a == b) ((c == d) && (e == f)) h in let q = equal2 c d e f p.1 in (eqb-true a b p.0, q.0, q.1)

same_exclusion_true : (a b : Exclusion) → same_exclusion a b ≡ true → a ≡ b
same_exclusion_true (of_states c t) (of_states d u) h = let p = equal2 c d t u h in cc
same_exclusion_true (of_events t g) (of_events u i) h = let p = equal2 t u g i h in cc
same_exclusion_true (of_matches i t) (of_matches j u) h = let p = equal2 i j t u h in cc
same_exclusion_true a b h = cc

same_name_true : (a b : Meaning) → same_meaning a b ≡ true → a ≡ b
same_name_true (in_state c q t) (in_state d r u) h = let p = equal3 c d q r t u h in cc
same_name_true (happens e t) (happens f u) h = let p = equal2 e f t u h in cc
same_name_true asked asked h = refl
same_name_true (matches i e t) (matches j f u) h = let p = equal3 i j e f t u h in cc
same_name_true (done i t) (done j u) h = let p = equal2 i j t u h in cc
same_name_true (unmatched e k t) (unmatched f l u) h = let p = equal3 e f k l t u h in cc
same_name_true (closed e k) (closed f l) h = let p = equal2 e f k l h in cc
same_name_true (dropped i) (dropped j) h = let p = eqb-true i j h in cc
same_name_true (reaches i j) (reaches k l) h = let p = equal2 i k j l h in cc
same_name_true (some_of_first a i) (some_of_first b j) h = let p = and_parts (same_exclusion a b) (i == j) h in let x = same_exclusion_true a b p.0 in let y = eqb-true i j p.1 in cc
same_name_true a b h = cc

same_exclusion_itself : (a : Exclusion) → same_exclusion a a ≡ true
same_exclusion_itself (of_states c t) = rw (itself c, itself t) refl
same_exclusion_itself (of_events t g) = rw (itself t, itself g) refl
same_exclusion_itself (of_matches i t) = rw (itself i, itself t) refl

same_name_itself : (a : Meaning) → same_meaning a a ≡ true
same_name_itself (in_state c q t) = simp itself
same_name_itself (happens e t) = simp itself
same_name_itself asked = refl
same_name_itself (matches i e t) = simp itself
same_name_itself (done i t) = simp itself
same_name_itself (unmatched e k t) = simp itself
same_name_itself (closed e k) = simp itself
same_name_itself (dropped i) = simp itself
same_name_itself (reaches i j) = simp itself
same_name_itself (some_of_first a i) = simp (itself, same_exclusion_itself)

-- what a variable is called stands among the names
named_in : (names : List (ℕ × Meaning)) (var : ℕ) (meaning : Meaning) → meaning_of names var ≡ Some meaning → (entry : ℕ × Meaning) × Contains names entry × (entry.1 ≡ meaning)
named_in [] var meaning h = cc
named_in (entry ∷ names) var meaning h = by (entry.0 == var) refl (named_in names var meaning)
  where
    by : (b : Bool) → (entry.0 == var) ≡ b → (meaning_of names var ≡ Some meaning → (other : ℕ × Meaning) × Contains names other × (other.1 ≡ meaning)) → (other : ℕ × Meaning) × Contains (entry ∷ names) other × (other.1 ≡ meaning)
    by true e later = let same : Some (entry.1) ≡ Some meaning = rw e at h in (entry, (0, omega arith, refl), cc)
    by false e later = let rest = later (rw e at h) in (rest.0, (suc rest.1.0, omega (arith, rest.1.1), rest.1.2), rest.2)

pub variable_is : (names : List (ℕ × Meaning)) → HasEachOnce names → (var : ℕ) (meaning : Meaning) → meaning_of names var ≡ Some meaning → variable_of names meaning ≡ Some var
variable_is [] once var meaning h = cc
variable_is (entry ∷ names) once var meaning h = by (entry.0 == var) refl (variable_is names once.1 var meaning)
  where
    by : (b : Bool) → (entry.0 == var) ≡ b → (meaning_of names var ≡ Some meaning → variable_of names meaning ≡ Some var) → variable_of (entry ∷ names) meaning ≡ Some var
    by true e later =
        let same : Some (entry.1) ≡ Some meaning = rw e at h in
        let called : entry.1 ≡ meaning = cc in
        let test : same_meaning entry.1 meaning ≡ true = subst (λ x. same_meaning entry.1 x ≡ true) called (same_name_itself entry.1) in
        rw test (ap Some (eqb-true entry.0 var e))
    by false e later =
        let rest : meaning_of names var ≡ Some meaning = rw e at h in
        let found = named_in names var meaning rest in
        let test : same_meaning entry.1 meaning ≡ false = false_from_ne_true (same_meaning entry.1 meaning) (λ t. (all_at (λ b. (entry.0 ≢ b.0) × (entry.1 ≢ b.1)) names found.0 once.0 found.1).1 (same_name_true entry.1 meaning t ∙ sym found.2)) in
        rw test (later rest)

pub values_match : ValuesMatch
values_match names once assignment var meaning h = sym (ap (λ o. unwrap_or (option_map assignment o) false) (variable_is names once var meaning h))

pub assignments_match : AssignmentsMatch
assignments_match names value given var meaning h = ap (λ o. unwrap_or (option_map value o) (given var)) h

-- the literals that a clause reads as have its truth
reads_true : (names : List (ℕ × Meaning)) (assignment : ℕ → Bool) (value : Meaning → Bool) → Match names assignment value → (clause : Clause) (read : List NamedLiteral) → named_clause names clause ≡ Some read →
    clause_true assignment clause ≡ named_clause_true value read
reads_true names assignment value match [] read h = let same : read ≡ [] = cc in rw same refl
reads_true names assignment value match (l ∷ clause) read h = by (meaning_of names l.var) refl (named_clause names clause) refl h (reads_true names assignment value match clause)
  where
    by : (o : Option Meaning) → meaning_of names l.var ≡ o → (r : Option (List NamedLiteral)) → named_clause names clause ≡ r →
        with_literal (option_map (λ meaning. record { meaning = meaning; positive = l.positive }) o) r ≡ Some read →
        ((ls : List NamedLiteral) → named_clause names clause ≡ Some ls → clause_true assignment clause ≡ named_clause_true value ls) → clause_true assignment (l ∷ clause) ≡ named_clause_true value read
    by None e r f g rest = cc
    by (Some meaning) e None f g rest = cc
    by (Some meaning) e (Some ls) f g rest =
        let same : record { meaning = meaning; positive = l.positive } ∷ ls ≡ read = cc in
        let here : assignment l.var ≡ value meaning = match l.var meaning e in
        let later = rest ls f in
        let both : clause_true assignment (l ∷ clause) ≡ named_clause_true value (record { meaning = meaning; positive = l.positive } ∷ ls) = ap (λ b. b || clause_true assignment clause) (sign_is (assignment l.var) l.positive) ∙ ap (λ b. same_sign l.positive b || clause_true assignment clause) here ∙ ap (λ b. same_sign l.positive (value meaning) || b) later in
        both ∙ ap (named_clause_true value) same

any_in : (p : NamedLiteral → Bool) (xs : List NamedLiteral) (x : NamedLiteral) → Contains xs x → p x ≡ true → list_any p xs ≡ true
any_in p [] x (k, below, is) h = absurd (omega arith)
any_in p (y ∷ xs) x (zero, below, is) h = let passes : p y ≡ true = ap p is ∙ h in rw passes refl
any_in p (y ∷ xs) x (suc k, below, is) h = by (p y) (any_in p xs x (k, omega arith, is) h)
  where
    by : (b : Bool) → list_any p xs ≡ true → b || list_any p xs ≡ true
    by true rest = refl
    by false rest = rest

some_passes : (p : NamedLiteral → Bool) (xs : List NamedLiteral) → list_any p xs ≡ true → (x : NamedLiteral) × Contains xs x × (p x ≡ true)
some_passes p [] h = cc
some_passes p (x ∷ xs) h = by (p x) refl (some_passes p xs)
  where
    by : (b : Bool) → p x ≡ b → (list_any p xs ≡ true → (y : NamedLiteral) × Contains xs y × (p y ≡ true)) → (y : NamedLiteral) × Contains (x ∷ xs) y × (p y ≡ true)
    by true e later = (x, (0, omega arith, refl), e)
    by false e later = let rest = later (rw e at h) in (rest.0, (suc rest.1.0, omega (arith, rest.1.1), rest.1.2), rest.2)

-- a clause is true where what it reads as is, as a set
pub clause_by_name : (names : List (ℕ × Meaning)) (assignment : ℕ → Bool) (value : Meaning → Bool) → Match names assignment value → (clause : Clause) (named : List NamedLiteral) → ReadsAs names clause named →
    (IsTrue (clause_true assignment clause) → IsTrue (named_clause_true value named)) × (IsTrue (named_clause_true value named) → IsTrue (clause_true assignment clause))
clause_by_name names assignment value match clause named reads = (to, back)
  where
    same : clause_true assignment clause ≡ named_clause_true value (reads.read)
    same = reads_true names assignment value match clause reads.read reads.by_name

    to : clause_true assignment clause ≡ true → named_clause_true value named ≡ true
    to h = let found = some_passes (named_true value) reads.read (sym same ∙ h) in any_in (named_true value) named found.0 ((reads.same found.0).0 found.1) found.2

    back : named_clause_true value named ≡ true → clause_true assignment clause ≡ true
    back h = let found = some_passes (named_true value) named h in same ∙ any_in (named_true value) reads.read found.0 ((reads.same found.0).1 found.1) found.2

pub code_holds : (family : List NamedLiteral → Type 0) → CodeHolds family
code_holds family names clauses assignment value code match = (to, λ all. back clauses code.only all)
  where
    to : AllClausesTrue assignment clauses → AllHold family value
    to all named is = let there = code.all named is in
        (clause_by_name names assignment value match there.0 named there.2).0 (all_at (λ clause. IsTrue (clause_true assignment clause)) clauses there.0 all there.1)

    back : (rest : List Clause) → AllByRecursion (λ clause. (named : List NamedLiteral) × family named × ReadsAs names clause named) rest → AllHold family value → AllClausesTrue assignment rest
    back [] only all = tt
    back (clause ∷ rest) only all = ((clause_by_name names assignment value match clause only.0.0 only.0.2).1 (all only.0.0 only.0.1), back rest only.1 all)

-- a name's variable is called by it
-- a variable of a name stands among them
has_variable : (names : List (ℕ × Meaning)) (var : ℕ) (meaning : Meaning) → variable_of names meaning ≡ Some var → (entry : ℕ × Meaning) × Contains names entry × (entry.0 ≡ var)
has_variable [] var meaning h = cc
has_variable (entry ∷ names) var meaning h = by (same_meaning entry.1 meaning) refl (has_variable names var meaning)
  where
    by : (b : Bool) → same_meaning entry.1 meaning ≡ b → (variable_of names meaning ≡ Some var → (other : ℕ × Meaning) × Contains names other × (other.0 ≡ var)) → (other : ℕ × Meaning) × Contains (entry ∷ names) other × (other.0 ≡ var)
    by true e later = let same : Some (entry.0) ≡ Some var = rw e at h in (entry, (0, omega arith, refl), cc)
    by false e later = let rest = later (rw e at h) in (rest.0, (suc rest.1.0, omega (arith, rest.1.1), rest.1.2), rest.2)

-- a name's variable is called by it
pub called_by : (names : List (ℕ × Meaning)) → HasEachOnce names → (var : ℕ) (meaning : Meaning) → variable_of names meaning ≡ Some var → meaning_of names var ≡ Some meaning
called_by [] once var meaning h = cc
called_by (entry ∷ names) once var meaning h = by (same_meaning entry.1 meaning) refl (called_by names once.1 var meaning)
  where
    by : (b : Bool) → same_meaning entry.1 meaning ≡ b → (variable_of names meaning ≡ Some var → meaning_of names var ≡ Some meaning) → meaning_of (entry ∷ names) var ≡ Some meaning
    by true e later =
        let same : Some (entry.0) ≡ Some var = rw e at h in
        let here : entry.0 ≡ var = cc in
        let test : (entry.0 == var) ≡ true = eq-eqb entry.0 var here in
        rw test (ap Some (same_name_true entry.1 meaning e))
    by false e later =
        let rest : variable_of names meaning ≡ Some var = rw e at h in
        let found = has_variable names var meaning rest in
        let test : (entry.0 == var) ≡ false = false_from_ne_true (entry.0 == var) (λ t. (all_at (λ b. (entry.0 ≢ b.0) × (entry.1 ≢ b.1)) names found.0 once.0 found.1).0 (eqb-true entry.0 var t ∙ sym found.2)) in
        rw test (later rest)
