-- Literals over variables that are these by name, and the names that clauses have.
use Rattle.std.proofs.Common.{◌≡◌, ◌∙◌, ℕ, Bool, List, [], ◌∷◌, Option, Some, None, refl, sym, ap, subst, Contains, IsTrue, inl, inr, ◌⊎◌, option_map}
use Rattle.std.proofs.lemmas.Option.{same_Some}
use Rattle.std.specs.List.{AllByRecursion}
use Rattle.des_base.proofs.Elements.{cons_cases, none_in_nil, all_from}
use Rattle.question_clauses.proofs.LogCodes.{IsReadOf, read_of}
use Rattle.question_clauses.proofs.Lists.{all_at}
use Rattle.prop_core.proofs.NameLemmas.{literal_is}
use Rattle.prop_core.specs.Clauses.{Clause, AllLiteralsTrue}
use Rattle.prop_core.specs.NamedClauses.{named_true, Match}
use Rattle.prop_core.specs.VariableNames.{Meaning, NamedLiteral, meaning_of, named_literal, named_clause, ReadsAs}
use Rattle.prop_core.specs.declared.lit.Lit.{Lit}

literals_read : (names : List (ℕ × Meaning)) (assignment : ℕ → Bool) (value : Meaning → Bool) → Match names assignment value → (clause : Clause) (read : List NamedLiteral) → named_clause names clause ≡ Some read →
    (AllLiteralsTrue assignment clause → AllByRecursion (λ m. IsTrue (named_true value m)) read) × (AllByRecursion (λ m. IsTrue (named_true value m)) read → AllLiteralsTrue assignment clause)
literals_read names assignment value match [] read h =
    let same : [] ≡ read = same_Some [] read h in
    (λ all. subst (λ r. AllByRecursion (λ m. IsTrue (named_true value m)) r) same tt, λ all. tt)
literals_read names assignment value match (l ∷ clause) read h =
    let parts = read_of names l clause read h in
    let here = literal_is names assignment value l parts.first match parts.literal in
    let rest = literals_read names assignment value match clause parts.rest parts.later in (
      λ all. subst (λ r. AllByRecursion (λ m. IsTrue (named_true value m)) r) (sym parts.whole) (sym here ∙ all.0, rest.0 all.1),
      λ all. let both = subst (λ r. AllByRecursion (λ m. IsTrue (named_true value m)) r) parts.whole all in (here ∙ both.0, rest.1 both.1),
    )

-- literals that read as others are true together with them
pub literals_by_name : (names : List (ℕ × Meaning)) (assignment : ℕ → Bool) (value : Meaning → Bool) → Match names assignment value → (literals : List Lit) (named : List NamedLiteral) → ReadsAs names literals named →
    (AllLiteralsTrue assignment literals → AllByRecursion (λ m. IsTrue (named_true value m)) named) × (AllByRecursion (λ m. IsTrue (named_true value m)) named → AllLiteralsTrue assignment literals)
literals_by_name names assignment value match literals named reads =
    let read = literals_read names assignment value match literals reads.read reads.by_name in (
      λ all. all_from (λ m. IsTrue (named_true value m)) named (λ x in'. all_at (λ m. IsTrue (named_true value m)) reads.read (read.0 all) x ((reads.same x).1 in')),
      λ all. read.1 (all_from (λ m. IsTrue (named_true value m)) reads.read (λ x in'. all_at (λ m. IsTrue (named_true value m)) named all x ((reads.same x).0 in'))),
    )

pub literal_named : (names : List (ℕ × Meaning)) (l : Lit) (m : NamedLiteral) → named_literal names l ≡ Some m → meaning_of names l.var ≡ Some m.meaning
literal_named names l m h = by (meaning_of names l.var) refl h
  where
    by : (o : Option Meaning) → meaning_of names l.var ≡ o → option_map (λ (meaning : Meaning). record { meaning = meaning; positive = l.positive }) o ≡ Some m → meaning_of names l.var ≡ Some m.meaning
    by None e is = cc
    by (Some meaning) e is = e ∙ ap (λ (x : NamedLiteral). Some x.meaning) (same_Some (record { meaning = meaning; positive = l.positive }) m is)

-- each name that is read is that of a variable
pub read_named : (names : List (ℕ × Meaning)) (clause : Clause) (read : List NamedLiteral) (m : NamedLiteral) → named_clause names clause ≡ Some read → Contains read m → (var : ℕ) × (meaning_of names var ≡ Some m.meaning)
read_named names [] read m h in' = absurd (none_in_nil m (subst (λ r. Contains r m) (sym (same_Some [] read h)) in'))
read_named names (l ∷ clause) read m h in' =
    let parts = read_of names l clause read h in
    by parts (cons_cases parts.first parts.rest m (subst (λ r. Contains r m) parts.whole in')) (read_named names clause parts.rest m parts.later)
  where
    by : (parts : IsReadOf names l clause read) → (parts.first ≡ m) ⊎ Contains parts.rest m → (Contains parts.rest m → (var : ℕ) × (meaning_of names var ≡ Some m.meaning)) → (var : ℕ) × (meaning_of names var ≡ Some m.meaning)
    by parts (inl is) later = (l.var, literal_named names l m (parts.literal ∙ ap Some is))
    by parts (inr rest) later = later rest
