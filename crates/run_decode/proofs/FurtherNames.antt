-- What reads by the names of a question reads by further names, among which they are.
use Rattle.std.proofs.Common.{◌≡◌, ◌≢◌, ℕ, List, [], ◌∷◌, ◌++◌, map, subst, Contains}
use Rattle.std.proofs.lemmas.List.Elements.{Contains-append_left as append_left}
use Rattle.des_base.proofs.Elements.{all_from, map_from, map_has, pairs_append}
use Rattle.question_clauses.proofs.LogCodes.{named_entry}
use Rattle.question_clauses.proofs.Lists.{all_at}
use Rattle.prop_core.proofs.FurtherNames.{reads_further}
use Rattle.prop_core.specs.Clauses.{Clause}
use Rattle.prop_core.specs.VariableNames.{Meaning, NamedLiteral, HasEachOnce, ReadsAs}
use Rattle.prop_core.specs.FurtherNames.{lifted, lifted_meanings, AreOnce, ReadsBy}

pub lifted_reads : {X : Type 0} (into : Meaning → X) (names : List (ℕ × Meaning)) (more : List (ℕ × X)) (clause : Clause) (named : List NamedLiteral) → ReadsAs names clause named → ReadsBy (lifted_meanings into names ++ more) clause (map (lifted into) named)
lifted_reads {X} into names more = reads_further into names (lifted_meanings into names ++ more)
    (λ var meaning h. append_left (lifted_meanings into names) more (var, into meaning) (map_has (λ (e : ℕ × Meaning). (e.0, into e.1)) names (var, meaning) (named_entry names var meaning h)))

-- no name and no variable stands twice where none of a question is among the further ones
lifted_once : {X : Type 0} (into : Meaning → X) (injective : (a b : Meaning) → into a ≡ into b → a ≡ b) (names : List (ℕ × Meaning)) → HasEachOnce names → AreOnce (lifted_meanings into names)
lifted_once into injective [] once = tt
lifted_once into injective (entry ∷ names) once = (
  all_from (λ b. (entry.0 ≢ b.0) × (into entry.1 ≢ b.1)) (lifted_meanings into names) (λ b in'.
      let of' = map_from (λ (e : ℕ × Meaning). (e.0, into e.1)) names b in' in
      let apart = all_at (λ (e : ℕ × Meaning). (entry.0 ≢ e.0) × (entry.1 ≢ e.1)) names once.0 of'.0 of'.1 in
      subst (λ b'. (entry.0 ≢ b'.0) × (into entry.1 ≢ b'.1)) of'.2 (apart.0, λ same. apart.1 (injective entry.1 of'.0.1 same))),
  lifted_once into injective names once.1,
)

pub once_further : {X : Type 0} (into : Meaning → X) (injective : (a b : Meaning) → into a ≡ into b → a ≡ b) (names : List (ℕ × Meaning)) (more : List (ℕ × X)) → HasEachOnce names → AreOnce more →
    ((a : ℕ × Meaning) (b : ℕ × X) → Contains names a → Contains more b → (a.0 ≢ b.0) × (into a.1 ≢ b.1)) → AreOnce (lifted_meanings into names ++ more)
once_further {X} into injective names more once more_once apart = pairs_append (λ (a b : ℕ × X). (a.0 ≢ b.0) × (a.1 ≢ b.1)) (lifted_meanings into names) more (lifted_once into injective names once) more_once (λ a b in' there.
    let of' = map_from (λ (e : ℕ × Meaning). (e.0, into e.1)) names a in' in
    subst (λ (x : ℕ × X). (x.0 ≢ b.0) × (x.1 ≢ b.1)) of'.2 (apart of'.0 b of'.1 there))
