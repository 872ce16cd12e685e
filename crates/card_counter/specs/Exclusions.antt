-- The clauses of an "at most one", by name: each pair of at most four inputs, and of more inputs a chain (after Sinz, "Towards an optimal CNF encoding of Boolean cardinality constraints", CP 2005).
use Rattle.std.specs.Prelude.{◌≡◌, ◌↔◌, ℕ, suc, ◌*◌, ◌-◌, ◌<◌, ◌≤◌, nat_le, nat_lt, Bool, true, false, List, [], ◌∷◌, map, flat_map, take, length, Option, Some, None, option_map, unwrap_or, slice_get, slice_index_or, Contains, IsTrue, if◌then◌else◌}
use Rattle.std.specs.List.{list_any, range_with_len}
use Rattle.prop_core.specs.Listings.{Listing}
use Rattle.prop_core.specs.NamedClauses.{named_clause_true}
use Rattle.prop_core.specs.VariableNames.{Meaning, in_state, happens, asked, matches, done, unmatched, closed, dropped, reaches, some_of_first, Exclusion, NamedLiteral, yes, no}

-- Two inputs exclude each other; or, of five inputs or more, input i opens the chain at i, the chain goes on, and it shuts out the next input. Inputs are counted from 0 here.
pub data ExclusionClause : Type 0 where
  two : (i j : ℕ) → (x y : Meaning) → ExclusionClause
  opens : (i : ℕ) → (x : Meaning) → ExclusionClause
  goes_on : (i : ℕ) → ExclusionClause
  shuts_out : (i : ℕ) → (x : Meaning) → ExclusionClause

-- The meaning `some_of_first family k` says that one of the first k inputs is true, for k from 1.
abbrev pub exclusion_clause : Exclusion → ExclusionClause → List NamedLiteral
exclusion_clause family (two i j x y) = no x ∷ no y ∷ []
exclusion_clause family (opens i x) = no x ∷ yes (some_of_first family (suc i)) ∷ []
exclusion_clause family (goes_on i) = no (some_of_first family (suc i)) ∷ yes (some_of_first family (suc (suc i))) ∷ []
exclusion_clause family (shuts_out i x) = no x ∷ no (some_of_first family (suc i)) ∷ []

-- for which numbers it is written, over these inputs
abbrev pub IsExclusionClause : List Meaning → ExclusionClause → Type 0
IsExclusionClause inputs (two i j x y) = (length inputs ≤ 4) × (i < j) × (slice_get inputs i ≡ Some x) × (slice_get inputs j ≡ Some y)
IsExclusionClause inputs (opens i x) = (5 ≤ length inputs) × (suc i < length inputs) × (slice_get inputs i ≡ Some x)
IsExclusionClause inputs (goes_on i) = (5 ≤ length inputs) × (suc (suc i) < length inputs)
IsExclusionClause inputs (shuts_out i x) = (5 ≤ length inputs) × (slice_get inputs (suc i) ≡ Some x)

-- what is written for one "at most one"
abbrev pub IsNamedExclusion : Exclusion → List Meaning → List NamedLiteral → Type 0
IsNamedExclusion family inputs named = (which : ExclusionClause) × IsExclusionClause inputs which × (exclusion_clause family which ≡ named)

-- ---- the same one after another, as loops write them

-- the meaning of input i, counted from 0; if there is none, a meaning that stands in its place
abbrev pub input_meaning : List Meaning → ℕ → Meaning
input_meaning inputs i = slice_index_or inputs i asked

-- the input at place j with each one before it
abbrev pub pairs_with : List Meaning → ℕ → List ExclusionClause
pairs_with inputs j = map (λ i. two i j (input_meaning inputs i) (input_meaning inputs j)) (range_with_len 0 j)

-- what is written of a place of the chain
abbrev pub link_at : List Meaning → ℕ → List ExclusionClause
link_at inputs i = opens i (input_meaning inputs i) ∷ shuts_out i (input_meaning inputs (suc i)) ∷ (if nat_lt (suc i) (length inputs - 1) then goes_on i ∷ [] else [])

-- all clauses of an "at most one" of these inputs: of pairs in the order of their later inputs, of a chain place by place
abbrev pub exclusion_list : List Meaning → List ExclusionClause
exclusion_list inputs = if nat_le (length inputs) 4 then flat_map (pairs_with inputs) (range_with_len 0 (length inputs)) else flat_map (link_at inputs) (range_with_len 0 (length inputs - 1))

-- and by name
abbrev pub named_exclusion : Exclusion → List Meaning → Listing
named_exclusion family inputs = map (exclusion_clause family) (exclusion_list inputs)

-- These are the clauses that are written, and no others; at most three for each input.
pub record AreListed (inputs : List Meaning) : Type 0 where
  pub same : (which : ExclusionClause) → Contains (exclusion_list inputs) which ↔ IsExclusionClause inputs which
  pub few : length (exclusion_list inputs) ≤ 3 * length inputs

-- This holds for all inputs.
abbrev pub ExclusionsAreListed : Type 0
ExclusionsAreListed = (inputs : List Meaning) → AreListed inputs

-- ---- what it says

-- no two of the meanings, at different places, are true
abbrev pub AtMostOneOf : (Meaning → Bool) → List Meaning → Type 0
AtMostOneOf value inputs = (i j : ℕ) (x y : Meaning) → i < j → slice_get inputs i ≡ Some x → slice_get inputs j ≡ Some y → value x ≡ true → value y ≡ true → ⊥

-- each clause that is written is true
abbrev pub ExclusionsHold : (Meaning → Bool) → Exclusion → List Meaning → Type 0
ExclusionsHold value family inputs = (which : ExclusionClause) → IsExclusionClause inputs which → IsTrue (named_clause_true value (exclusion_clause family which))

-- the meaning stands for a variable of the chain of an "at most one"
abbrev pub is_chain : Meaning → Bool
is_chain (in_state c q t) = false
is_chain (happens e t) = false
is_chain asked = false
is_chain (matches i e t) = false
is_chain (done i t) = false
is_chain (unmatched e k t) = false
is_chain (closed e k) = false
is_chain (dropped i) = false
is_chain (reaches i j) = false
is_chain (some_of_first family i) = true

-- the truth of meanings where the chain of each family that has inputs here says what it is for
abbrev pub with_chains : (Exclusion → Option (List Meaning)) → (Meaning → Bool) → Meaning → Bool
with_chains inputs value (in_state c q t) = value (in_state c q t)
with_chains inputs value (happens e t) = value (happens e t)
with_chains inputs value asked = value asked
with_chains inputs value (matches i e t) = value (matches i e t)
with_chains inputs value (done i t) = value (done i t)
with_chains inputs value (unmatched e k t) = value (unmatched e k t)
with_chains inputs value (closed e k) = value (closed e k)
with_chains inputs value (dropped i) = value (dropped i)
with_chains inputs value (reaches i j) = value (reaches i j)
with_chains inputs value (some_of_first family k) = unwrap_or (option_map (λ xs. list_any value (take k xs)) (inputs family)) (value (some_of_first family k))

-- Where the written clauses are true, at most one input is.
abbrev pub ExclusionIsSound : Type 0
ExclusionIsSound = (value : Meaning → Bool) (family : Exclusion) (inputs : List Meaning) → ExclusionsHold value family inputs → AtMostOneOf value inputs

-- Where at most one input is true, and none is itself a meaning of a chain, the chains can be chosen, for all families that have inputs here at once, so that the clauses are true and no other meaning changes.
pub record ChainsComplete (inputs : Exclusion → Option (List Meaning)) (value : Meaning → Bool) : Type 0 where
  pub others : (meaning : Meaning) → is_chain meaning ≡ false → with_chains inputs value meaning ≡ value meaning
  pub kept : (family : Exclusion) (k : ℕ) → inputs family ≡ None → with_chains inputs value (some_of_first family k) ≡ value (some_of_first family k)
  pub hold : (family : Exclusion) (xs : List Meaning) → inputs family ≡ Some xs → ((x : Meaning) → Contains xs x → is_chain x ≡ false) → AtMostOneOf value xs → ExclusionsHold (with_chains inputs value) family xs

-- This holds for all inputs of the families, by each truth of meanings.
abbrev pub ExclusionIsComplete : Type 0
ExclusionIsComplete = (inputs : Exclusion → Option (List Meaning)) (value : Meaning → Bool) → ChainsComplete inputs value
