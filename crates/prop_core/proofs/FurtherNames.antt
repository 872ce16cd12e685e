-- What reads by names reads by further names, among which they are.
use Rattle.std.proofs.Common.{◌≡◌, ℕ, Bool, List, [], ◌∷◌, map, Option, Some, None, option_map, refl, subst, Contains, ◌++◌}
use Rattle.std.proofs.lemmas.List.Elements.{Contains-append_left, Contains-append_right}
use Rattle.std.specs.List.{AllByRecursion}
use Rattle.des_base.proofs.Elements.{here_first, here_later, map_has, map_from, all_at, all_change, all_from, all_append}
use Rattle.prop_core.specs.Clauses.{Clause}
use Rattle.prop_core.specs.FurtherNames.{LiteralOf, lifted, IsCalled, ReadsBy}
use Rattle.prop_core.specs.VariableNames.{Meaning, NamedLiteral, ReadsAs, meaning_of, named_clause, with_literal}
use Rattle.prop_core.specs.declared.lit.Lit.{Lit}

-- each literal that is read is that of one of the clause, and the other way round
literal_read : (names : List (ℕ × Meaning)) (clause : Clause) (read : List NamedLiteral) → named_clause names clause ≡ Some read →
    AllByRecursion (λ l. (m : NamedLiteral) × Contains read m × (meaning_of names l.var ≡ Some m.meaning) × (l.positive ≡ m.positive)) clause
    × AllByRecursion (λ m. (l : Lit) × Contains clause l × (meaning_of names l.var ≡ Some m.meaning) × (l.positive ≡ m.positive)) read
literal_read names [] read h = let none : [] ≡ read = cc in (tt, subst (λ rs. AllByRecursion (λ m. (l : Lit) × Contains [] l × (meaning_of names l.var ≡ Some m.meaning) × (l.positive ≡ m.positive)) rs) none tt)
literal_read names (l ∷ clause) read h = by (meaning_of names l.var) refl (named_clause names clause) refl h (literal_read names clause)
  where
    by : (o : Option Meaning) → meaning_of names l.var ≡ o → (r : Option (List NamedLiteral)) → named_clause names clause ≡ r →
        with_literal (option_map (λ meaning. record { meaning = meaning; positive = l.positive }) o) r ≡ Some read →
        ((ls : List NamedLiteral) → named_clause names clause ≡ Some ls →
        AllByRecursion (λ k. (m : NamedLiteral) × Contains ls m × (meaning_of names k.var ≡ Some m.meaning) × (k.positive ≡ m.positive)) clause
        × AllByRecursion (λ m. (k : Lit) × Contains clause k × (meaning_of names k.var ≡ Some m.meaning) × (k.positive ≡ m.positive)) ls) →
        AllByRecursion (λ k. (m : NamedLiteral) × Contains read m × (meaning_of names k.var ≡ Some m.meaning) × (k.positive ≡ m.positive)) (l ∷ clause)
        × AllByRecursion (λ m. (k : Lit) × Contains (l ∷ clause) k × (meaning_of names k.var ≡ Some m.meaning) × (k.positive ≡ m.positive)) read
    by None e r f g rest = cc
    by (Some meaning) e None f g rest = cc
    by (Some meaning) e (Some ls) f g rest =
        let m : NamedLiteral = record { meaning = meaning; positive = l.positive } in
        let whole : m ∷ ls ≡ read = cc in
        let later = rest ls f in (
          subst (λ rs. AllByRecursion (λ k. (m' : NamedLiteral) × Contains rs m' × (meaning_of names k.var ≡ Some m'.meaning) × (k.positive ≡ m'.positive)) (l ∷ clause)) whole (
            (m, here_first m ls m refl, e, refl),
            all_change (λ k. (m' : NamedLiteral) × Contains ls m' × (meaning_of names k.var ≡ Some m'.meaning) × (k.positive ≡ m'.positive))
                (λ k. (m' : NamedLiteral) × Contains (m ∷ ls) m' × (meaning_of names k.var ≡ Some m'.meaning) × (k.positive ≡ m'.positive)) clause (λ k p. (p.0, here_later m ls p.0 p.1, p.2, p.3)) later.0,
          ),
          subst (λ rs. AllByRecursion (λ m'. (k : Lit) × Contains (l ∷ clause) k × (meaning_of names k.var ≡ Some m'.meaning) × (k.positive ≡ m'.positive)) rs) whole (
            (l, here_first l clause l refl, e, refl),
            all_change (λ m'. (k : Lit) × Contains clause k × (meaning_of names k.var ≡ Some m'.meaning) × (k.positive ≡ m'.positive))
                (λ m'. (k : Lit) × Contains (l ∷ clause) k × (meaning_of names k.var ≡ Some m'.meaning) × (k.positive ≡ m'.positive)) ls (λ m' p. (p.0, here_later l clause p.0 p.1, p.2, p.3)) later.1,
          ),
        )

-- a clause that reads by names reads by further ones, where each variable with a name has it there
pub reads_further : {X : Type 0} (into : Meaning → X) (names : List (ℕ × Meaning)) (further : List (ℕ × X)) → ((var : ℕ) (meaning : Meaning) → meaning_of names var ≡ Some meaning → Contains further (var, into meaning)) →
    (clause : Clause) (named : List NamedLiteral) → ReadsAs names clause named → ReadsBy further clause (map (lifted into) named)
reads_further {X} into names further there clause named reads = record {
  only = all_change (λ l. (m : NamedLiteral) × Contains reads.read m × (meaning_of names l.var ≡ Some m.meaning) × (l.positive ≡ m.positive))
      (λ l. (m : LiteralOf X) × Contains (map (lifted into) named) m × IsCalled further l m) clause
      (λ l p. (lifted into p.0, map_has (lifted into) named p.0 ((reads.same p.0).0 p.1), at l p.0.meaning p.0.positive p.2 p.3)) both.0;
  all = all_from (λ m. (l : Lit) × Contains clause l × IsCalled further l m) (map (lifted into) named) (λ m h.
      let from = map_from (lifted into) named m h in
      let p = all_at (λ k. (l : Lit) × Contains clause l × (meaning_of names l.var ≡ Some k.meaning) × (l.positive ≡ k.positive)) reads.read from.0 both.1 ((reads.same from.0).1 from.1) in
      (p.0, p.1, subst (λ k. IsCalled further p.0 k) from.2 (at p.0 from.0.meaning from.0.positive p.2 p.3)));
}
  where
    both : AllByRecursion (λ l. (m : NamedLiteral) × Contains (reads.read) m × (meaning_of names l.var ≡ Some m.meaning) × (l.positive ≡ m.positive)) clause
        × AllByRecursion (λ m. (l : Lit) × Contains clause l × (meaning_of names l.var ≡ Some m.meaning) × (l.positive ≡ m.positive)) (reads.read)
    both = literal_read names clause reads.read reads.by_name

    at : (l : Lit) (meaning : Meaning) (sign : Bool) → meaning_of names l.var ≡ Some meaning → l.positive ≡ sign → IsCalled further l (record { meaning = into meaning; positive = sign })
    at l meaning sign h same = record { named = there l.var meaning h; sign = same }

-- one behind another
pub reads_both : {X : Type 0} (names : List (ℕ × X)) (first second : List Lit) (named other : List (LiteralOf X)) → ReadsBy names first named → ReadsBy names second other → ReadsBy names (first ++ second) (named ++ other)
reads_both {X} names first second named other one two = record {
  only = all_append (λ l. (m : LiteralOf X) × Contains (named ++ other) m × IsCalled names l m) first second
      (all_change (λ l. (m : LiteralOf X) × Contains named m × IsCalled names l m) (λ l. (m : LiteralOf X) × Contains (named ++ other) m × IsCalled names l m) first (λ l is. (is.0, Contains-append_left named other is.0 is.1, is.2)) one.only)
      (all_change (λ l. (m : LiteralOf X) × Contains other m × IsCalled names l m) (λ l. (m : LiteralOf X) × Contains (named ++ other) m × IsCalled names l m) second (λ l is. (is.0, Contains-append_right named other is.0 is.1, is.2)) two.only);
  all = all_append (λ m. (l : Lit) × Contains (first ++ second) l × IsCalled names l m) named other
      (all_change (λ m. (l : Lit) × Contains first l × IsCalled names l m) (λ m. (l : Lit) × Contains (first ++ second) l × IsCalled names l m) named (λ m is. (is.0, Contains-append_left first second is.0 is.1, is.2)) one.all)
      (all_change (λ m. (l : Lit) × Contains second l × IsCalled names l m) (λ m. (l : Lit) × Contains (first ++ second) l × IsCalled names l m) other (λ m is. (is.0, Contains-append_right first second is.0 is.1, is.2)) two.all);
}
