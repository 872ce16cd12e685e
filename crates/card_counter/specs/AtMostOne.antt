-- At most one of a list of literals is true, and the clauses that say so: one for each pair of at most four, and a chain over more.
use Rattle.std.specs.Prelude.{◌≡◌, ◌↔◌, ◌⊎◌, ◌+◌, ◌-◌, ◌<◌, ◌≤◌, ℕ, suc, Bool, List, [], ◌∷◌, ◌++◌, map, flat_map, length, Some, IsTrue, nat_le, nat_lt, if◌then◌else◌}
use Rattle.des_base.specs.ChainCount.{chain_count}
use Rattle.des_base.specs.Lists.{EachPair, numbers_below}
use Rattle.prop_core.specs.declared.lit.Lit.{Lit}
use Rattle.prop_core.specs.Clauses.{Clause, negation, literal_true, AllClausesTrue, HasValues}
use Rattle.prop_core.specs.NamedClauses.{IsCode}
use Rattle.prop_core.specs.VariableNames.{Meaning, Exclusion, some_of_first, yes, meaning_of, named_clause}
use Rattle.card_counter.specs.CounterState.{positive, negative, input_at}
use Rattle.card_counter.specs.Exclusions.{IsNamedExclusion, named_exclusion}
use Rattle.prop_core.specs.Listings.{IsListed}

-- at least one of the literals x and y is false
abbrev pub AreNotBothTrue : (ℕ → Bool) → Lit → Lit → Type 0
AreNotBothTrue value x y = IsTrue (literal_true value x) → IsTrue (literal_true value y) → ⊥

-- no two inputs at different places are true
abbrev pub AtMostOneTrue : (ℕ → Bool) → List Lit → Type 0
AtMostOneTrue value inputs = EachPair (AreNotBothTrue value) inputs

-- ---- the clauses

-- the clause that excludes two literals at once
abbrev pub not_both : Lit → Lit → Clause
not_both later earlier = negation earlier ∷ negation later ∷ []

-- each later input with each of those before it
abbrev pub pairs_after : List Lit → List Lit → List Clause
pairs_after earlier [] = []
pairs_after earlier (x ∷ later) = map (not_both x) earlier ++ pairs_after (earlier ++ x ∷ []) later

-- a clause for each pair of inputs at different places: none for fewer than two inputs
abbrev pub excluded_pairs : List Lit → List Clause
excluded_pairs inputs = pairs_after [] inputs

-- The variable at place i of a chain says that one of the inputs up to place i is true: an input opens the chain at its place, the chain shuts out the next input, and goes on to the next place if there is one.
abbrev pub link_clauses : List Lit → ℕ → ℕ → List Clause
link_clauses inputs first i =
    (negation (input_at inputs i) ∷ positive (first + i) ∷ [])
    ∷ (negation (input_at inputs (suc i)) ∷ negative (first + i) ∷ [])
    ∷ (if nat_lt (suc i) (length inputs - 1) then (negative (first + i) ∷ positive (first + suc i) ∷ []) ∷ [] else [])

-- the first k places of a chain, whose variables stand in a row
abbrev pub chain_up_to : List Lit → ℕ → ℕ → List Clause
chain_up_to inputs first k = flat_map (link_clauses inputs first) (numbers_below k)

-- a whole chain: a place for each input but the last, its variables in a row from `first` on
abbrev pub chain_clauses : List Lit → ℕ → List Clause
chain_clauses inputs first = chain_up_to inputs first (length inputs - 1)

-- what is written, with this first variable of the chain if there is one
abbrev pub exclusion_clauses : List Lit → ℕ → List Clause
exclusion_clauses inputs first = if nat_le (length inputs) 4 then excluded_pairs inputs else chain_clauses inputs first

-- ---- what they say

-- the same truth for each variable but `count` of them, from `first` on
abbrev pub AgreeBut : ℕ → ℕ → (ℕ → Bool) → (ℕ → Bool) → Type 0
AgreeBut first count given assignment = (var : ℕ) → (var < first) ⊎ (first + count ≤ var) → assignment var ≡ given var

-- Of inputs that were made before the chain, an assignment extends to the clauses, by a change of the chain's variables alone, exactly if at most one input is true.
abbrev pub AllowsAtMostOne : List Lit → ℕ → List Clause → Type 0
AllowsAtMostOne inputs first clauses = HasValues first inputs → (given : ℕ → Bool) →
    ((assignment : ℕ → Bool) × AgreeBut first (chain_count (length inputs)) given assignment × AllClausesTrue assignment clauses) ↔ AtMostOneTrue given inputs

-- What is written says exactly this, for any inputs and any first variable.
abbrev pub ExclusionIsExact : Type 0
ExclusionIsExact = (inputs : List Lit) (first : ℕ) → AllowsAtMostOne inputs first (exclusion_clauses inputs first)

-- ---- by name

-- The variables of the chain are called by what they say.
abbrev pub IsNamedChain : List (ℕ × Meaning) → Exclusion → ℕ → ℕ → Type 0
IsNamedChain meanings family first count = (i : ℕ) → i < count → meaning_of meanings (first + i) ≡ Some (some_of_first family (suc i))

-- The clauses are, by name, those of an "at most one" of what the inputs read as.
abbrev pub ExclusionIsCode : Type 0
ExclusionIsCode = (meanings : List (ℕ × Meaning)) (family : Exclusion) (called : List Meaning) (inputs : List Lit) (first : ℕ) → named_clause meanings inputs ≡ Some (map yes called) →
    IsNamedChain meanings family first (chain_count (length inputs)) → IsCode meanings (IsNamedExclusion family called) (exclusion_clauses inputs first)

-- One after another they are listed so, literal by literal.
abbrev pub ExclusionIsListed : Type 0
ExclusionIsListed = (meanings : List (ℕ × Meaning)) (family : Exclusion) (called : List Meaning) (inputs : List Lit) (first : ℕ) → named_clause meanings inputs ≡ Some (map yes called) →
    IsNamedChain meanings family first (chain_count (length inputs)) → IsListed meanings (named_exclusion family called) (exclusion_clauses inputs first)
