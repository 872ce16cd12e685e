-- A clause that negates literals, one of which is put behind the others.
use Rattle.std.proofs.Common.{◌≡◌, ◌⊎◌, inl, inr, List, [], ◌∷◌, ◌++◌, Contains, refl, sym}
use Rattle.std.proofs.lemmas.List.Elements.{Contains-append_cases}
use Rattle.des_base.proofs.Elements.{cons_cases, here_first, here_later, none_in_nil}
use Rattle.prop_core.specs.declared.lit.Lit.{Lit}
use Rattle.prop_core.specs.Clauses.{Clause, NegatesOnly, negation}

pub record NegatesLast (x : Lit) (clause : Clause) : Type 0 where
  pub l : Lit
  pub there : Contains clause l
  pub is : negation l ≡ x

pub split_negates : (assumed : List Lit) (x : Lit) (clause : Clause) → NegatesOnly (assumed ++ x ∷ []) clause → NegatesOnly assumed clause ⊎ NegatesLast x clause
split_negates assumed x [] negates = inl tt
split_negates assumed x (l ∷ clause) negates = by (Contains-append_cases assumed (x ∷ []) (negation l) negates.0) (split_negates assumed x clause negates.1)
  where
    last : Contains (x ∷ []) (negation l) → negation l ≡ x
    last in' = only (cons_cases x [] (negation l) in')
      where
        only : (x ≡ negation l) ⊎ Contains [] (negation l) → negation l ≡ x
        only (inl is) = sym is
        only (inr none) = absurd (none_in_nil (negation l) none)

    by : Contains assumed (negation l) ⊎ Contains (x ∷ []) (negation l) → NegatesOnly assumed clause ⊎ NegatesLast x clause → NegatesOnly assumed (l ∷ clause) ⊎ NegatesLast x (l ∷ clause)
    by (inr is) rest = inr (record { l = l; there = here_first l clause l refl; is = last is })
    by (inl here) (inl rest) = inl (here, rest)
    by (inl here) (inr found) = inr (record { l = found.l; there = here_later l clause found.l found.there; is = found.is })
