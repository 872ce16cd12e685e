-- Worked derivations, by computation.
use Rattle.std.proofs.Common.{◌≡◌, ℕ, List, [], ◌∷◌, ◌++◌, refl, true, false}
use Rattle.prop_core.specs.declared.lit.Lit.{Lit}
use Rattle.prop_core.specs.Clauses.{Clause}
use Rattle.prop_core.specs.LiteralNumbers.{literal_number, numbered_literal}
use Rattle.prop_core.specs.Derivation.{derive, Derivation, derives, fails, unknown_clause, two_open, hints_end, clause_numbered}

abbrev yes : ℕ → Lit
yes var = record { var = var; positive = true }

abbrev no : ℕ → Lit
no var = record { var = var; positive = false }

-- all four clauses of the variables 1 and 2
abbrev all_four : List Clause
all_four = (yes 1 ∷ yes 2 ∷ []) ∷ (no 1 ∷ yes 2 ∷ []) ∷ (yes 1 ∷ no 2 ∷ []) ∷ (no 1 ∷ no 2 ∷ []) ∷ []

abbrev from_four : Clause → List ℕ → Derivation
from_four clause hints = derive (clause_numbered all_four) clause hints

-- and a fifth
abbrev from_five : Clause → Clause → List ℕ → Derivation
from_five fifth clause hints = derive (clause_numbered (all_four ++ fifth ∷ [])) clause hints

second_is_true : from_four (yes 2 ∷ []) (1 ∷ 2 ∷ []) ≡ derives
second_is_true = refl

no_ninth : from_four (yes 2 ∷ []) (9 ∷ 2 ∷ []) ≡ fails 0 unknown_clause
no_ninth = refl

no_zeroth : from_four (yes 2 ∷ []) (0 ∷ 2 ∷ []) ≡ fails 0 unknown_clause
no_zeroth = refl

both_open : from_four [] (1 ∷ 3 ∷ 4 ∷ []) ≡ fails 0 two_open
both_open = refl

one_hint_only : from_four (yes 2 ∷ []) (1 ∷ []) ≡ fails 1 hints_end
one_hint_only = refl

no_hint : from_four (yes 2 ∷ []) [] ≡ fails 0 hints_end
no_hint = refl

refuted : from_five (yes 2 ∷ []) [] (5 ∷ 3 ∷ 4 ∷ []) ≡ derives
refuted = refl

-- with the second variable false, clause 3 is true and is skipped
true_hint_is_skipped : from_four (yes 2 ∷ []) (3 ∷ 1 ∷ 2 ∷ []) ≡ derives
true_hint_is_skipped = refl

rest_is_not_looked_at : from_four (yes 2 ∷ []) (1 ∷ 2 ∷ 9 ∷ []) ≡ derives
rest_is_not_looked_at = refl

-- the open literal of clause 5 stands there twice
repeated_literal_counts_once : from_five (yes 1 ∷ yes 1 ∷ []) (no 2 ∷ []) (5 ∷ 4 ∷ []) ≡ derives
repeated_literal_counts_once = refl

-- Where the clause that is to derive has a literal and its negation, both are true and both are false: then a hint with
-- exactly these is false,
false_before_true : from_five (yes 1 ∷ no 1 ∷ []) (yes 1 ∷ no 1 ∷ []) (5 ∷ []) ≡ derives
false_before_true = refl

-- and one with an open literal beside them is skipped.
true_before_open : from_five (yes 1 ∷ yes 2 ∷ []) (yes 1 ∷ no 1 ∷ []) (5 ∷ []) ≡ fails 1 hints_end
true_before_open = refl

-- ---- literals as numbers

first_negated : literal_number (no 0) ≡ 0
first_negated = refl

first_itself : literal_number (yes 0) ≡ 1
first_itself = refl

fourth_itself : literal_number (yes 3) ≡ 7
fourth_itself = refl

seventh_number : numbered_literal 7 ≡ yes 3
seventh_number = refl

sixth_number : numbered_literal 6 ≡ no 3
sixth_number = refl
