-- How clauses of a family grow: by another family, and by one for each number.
use Rattle.std.proofs.Common.{◌≡◌, ℕ, suc, ◌+◌, ◌<◌, ◌⊎◌, inl, inr, true, List, [], ◌∷◌, ◌++◌, Option, Some, None, refl, ap, subst, arith, Contains, map}
use Rattle.std.proofs.lemmas.List.Elements.{Contains-append_left, Contains-append_right}
use Rattle.std.proofs.lemmas.Bool.{cases_order}
use Rattle.des_base.proofs.Elements.{all_append, all_change}
use Rattle.prop_core.specs.Clauses.{Clause}
use Rattle.prop_core.specs.VariableNames.{Meaning, NamedLiteral, named_clause, named_literal, with_literal, yes, meaning_of, ReadsAs, SameElements}
use Rattle.prop_core.specs.NamedClauses.{IsCode, IsThere}

-- ---- families that others make up

-- this clause alone
abbrev pub Alone : List NamedLiteral → List NamedLiteral → Type 0
Alone clause named = clause ≡ named

abbrev pub Either : (List NamedLiteral → Type 0) → (List NamedLiteral → Type 0) → List NamedLiteral → Type 0
Either F G named = F named ⊎ G named

abbrev pub EachBelow : ℕ → (ℕ → List NamedLiteral → Type 0) → List NamedLiteral → Type 0
EachBelow k F named = (i : ℕ) × (i < k) × F i named

module _ (names : List (ℕ × Meaning)) where
  -- an empty family
  pub code_none : (F : List NamedLiteral → Type 0) → ((named : List NamedLiteral) → F named → ⊥) → IsCode names F []
  code_none F none = record { all = λ named is. absurd (none named is); only = tt }

  pub code_one : (clause : Clause) (named : List NamedLiteral) → ReadsAs names clause named → IsCode names (Alone named) (clause ∷ [])
  code_one clause named reads = record { all = λ other same. (clause, (0, omega arith, refl), subst (ReadsAs names clause) same reads); only = ((named, refl, reads), tt) }

  pub code_append : (F G : List NamedLiteral → Type 0) (xs ys : List Clause) → IsCode names F xs → IsCode names G ys → IsCode names (Either F G) (xs ++ ys)
  code_append F G xs ys first second = record {
    all = all;
    only = all_append (λ clause. (named : List NamedLiteral) × Either F G named × ReadsAs names clause named) xs ys
        (all_change (λ clause. (named : List NamedLiteral) × F named × ReadsAs names clause named) (λ clause. (named : List NamedLiteral) × Either F G named × ReadsAs names clause named) xs (λ clause h. (h.0, inl h.1, h.2)) first.only)
        (all_change (λ clause. (named : List NamedLiteral) × G named × ReadsAs names clause named) (λ clause. (named : List NamedLiteral) × Either F G named × ReadsAs names clause named) ys (λ clause h. (h.0, inr h.1, h.2)) second.only);
  }
    where
      all : (named : List NamedLiteral) → Either F G named → IsThere names (xs ++ ys) named
      all named (inl is) = let there = first.all named is in (there.0, Contains-append_left xs ys there.0 there.1, there.2)
      all named (inr is) = let there = second.all named is in (there.0, Contains-append_right xs ys there.0 there.1, there.2)

  -- families that have the same clauses, up to the order of literals
  pub code_alike : (F G : List NamedLiteral → Type 0) (xs : List Clause) → ((named : List NamedLiteral) → F named → G named) →
      ((named : List NamedLiteral) → G named → (other : List NamedLiteral) × F other × SameElements other named) → IsCode names F xs → IsCode names G xs
  code_alike F G xs to back code = record {
    all = λ named is. let alike = back named is in let there = code.all alike.0 alike.1 in
        (there.0, there.1, record { read = there.2.read; by_name = there.2.by_name; same = λ l. ((λ h. (alike.2 l).0 ((there.2.same l).0 h)), (λ h. (there.2.same l).1 ((alike.2 l).1 h))) });
    only = all_change (λ clause. (named : List NamedLiteral) × F named × ReadsAs names clause named) (λ clause. (named : List NamedLiteral) × G named × ReadsAs names clause named) xs (λ clause h. (h.0, to h.0 h.1, h.2)) code.only;
  }

  pub code_same : (F G : List NamedLiteral → Type 0) (xs : List Clause) → ((named : List NamedLiteral) → F named → G named) → ((named : List NamedLiteral) → G named → F named) → IsCode names F xs → IsCode names G xs
  code_same F G xs to back code = code_alike F G xs to (λ named is. (named, back named is, λ l. ((λ h. h), (λ h. h)))) code

  -- a loop
  pub code_each_none : (F : ℕ → List NamedLiteral → Type 0) → IsCode names (EachBelow 0 F) []
  code_each_none F = code_none (EachBelow 0 F) (λ named is. omega (arith, is.1))

  pub code_each_more : (F : ℕ → List NamedLiteral → Type 0) (k : ℕ) (xs ys : List Clause) → IsCode names (EachBelow k F) xs → IsCode names (F k) ys → IsCode names (EachBelow (k + 1) F) (xs ++ ys)
  code_each_more F k xs ys before now = code_same (Either (EachBelow k F) (F k)) (EachBelow (k + 1) F) (xs ++ ys) to back (code_append (EachBelow k F) (F k) xs ys before now)
    where
      to : (named : List NamedLiteral) → Either (EachBelow k F) (F k) named → EachBelow (k + 1) F named
      to named (inl (i, below, is)) = (i, omega arith, is)
      to named (inr is) = (k, omega arith, is)

      back : (named : List NamedLiteral) → EachBelow (k + 1) F named → Either (EachBelow k F) (F k) named
      back named (i, below, is) = by (cases_order i k)
        where
          by : (i ≡ k) ⊎ ((i < k) ⊎ (k < i)) → Either (EachBelow k F) (F k) named
          by (inl same) = inr (subst (λ j. F j named) same is)
          by (inr (inl less)) = inl (i, less, is)
          by (inr (inr more)) = absurd (omega arith)

-- clauses that are read as they stand
pub reads_whole : (names : List (ℕ × Meaning)) (clause : Clause) (named : List NamedLiteral) → named_clause names clause ≡ Some named → ReadsAs names clause named
reads_whole names clause named h = record { read = named; by_name = h; same = λ l. ((λ x. x), (λ x. x)) }

pub read_append : (names : List (ℕ × Meaning)) (clause more : Clause) (named rest : List NamedLiteral) → named_clause names clause ≡ Some named → named_clause names more ≡ Some rest → named_clause names (clause ++ more) ≡ Some (named ++ rest)
read_append names [] more named rest first second = let same : named ≡ [] = cc in rw same second
read_append names (l ∷ clause) more named rest first second = by (named_literal names l) refl (named_clause names clause) refl first (read_append names clause more)
  where
    by : (o : Option NamedLiteral) → named_literal names l ≡ o → (r : Option (List NamedLiteral)) → named_clause names clause ≡ r → with_literal o r ≡ Some named →
        ((ns rs : List NamedLiteral) → named_clause names clause ≡ Some ns → named_clause names more ≡ Some rs → named_clause names (clause ++ more) ≡ Some (ns ++ rs)) →
        named_clause names ((l ∷ clause) ++ more) ≡ Some (named ++ rest)
    by None e r f h later = cc
    by (Some m) e None f h later = cc
    by (Some m) e (Some ns) f h later =
        let same : m ∷ ns ≡ named = cc in
        let here = later ns rest f second in
        rw (e, here) (ap (λ xs. Some (xs ++ rest)) same)

-- a literal for each number
pub read_each : (names : List (ℕ × Meaning)) (var : ℕ → ℕ) (meaning : ℕ → Meaning) (xs : List ℕ) → ((x : ℕ) → Contains xs x → meaning_of names (var x) ≡ Some (meaning x)) →
    named_clause names (map (λ x. record { var = var x; positive = true }) xs) ≡ Some (map (λ x. yes (meaning x)) xs)
read_each names var meaning [] each = refl
read_each names var meaning (x ∷ xs) each =
    let here = each x (0, omega arith, refl) in
    let rest = read_each names var meaning xs (λ y there. each y (suc there.0, omega (arith, there.1), there.2)) in
    rw (here, rest) refl
