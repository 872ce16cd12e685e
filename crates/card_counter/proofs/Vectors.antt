-- Worked rows: the clauses of a few inputs, and what they count, by computation.
use Rattle.std.proofs.Common.{◌≡◌, ℕ, Bool, true, false, List, [], ◌∷◌, refl, ◌==◌, map}
use Rattle.prop_core.specs.declared.lit.Lit.{Lit}
use Rattle.prop_core.specs.VariableNames.{reaches, happens, yes, no}
use Rattle.card_counter.specs.AtMostOne.{excluded_pairs}
use Rattle.card_counter.specs.CounterClauses.{counts_on, counts_up, count_clause}
use Rattle.card_counter.specs.CounterState.{CounterState, positive, negative, counter_clauses, counter_meanings, bound_literal, without_columns, with_column, next_clauses, next_meanings, with_input, with_inputs, inputs_clauses}
use Rattle.card_counter.specs.Counting.{true_count, with_counts}
use Rattle.card_counter.specs.Rows.{counter_of}

-- ---- pairs

none : excluded_pairs [] ≡ []
none = refl

single : excluded_pairs (positive 4 ∷ []) ≡ []
single = refl

three : excluded_pairs (positive 4 ∷ negative 5 ∷ positive 6 ∷ []) ≡ (negative 4 ∷ positive 5 ∷ []) ∷ (negative 4 ∷ negative 6 ∷ []) ∷ (positive 5 ∷ negative 6 ∷ []) ∷ []
three = refl

-- ---- a counter of two inputs, the second one negative, with columns from 5 and from 7 on

two_inputs : List Lit
two_inputs = positive 3 ∷ negative 4 ∷ []

start : CounterState
unfolding two_inputs
start = without_columns two_inputs

first_column : next_clauses start 5 ≡ (negative 3 ∷ positive 5 ∷ []) ∷ (negative 5 ∷ positive 6 ∷ []) ∷ (positive 4 ∷ positive 6 ∷ []) ∷ []
unfolding start two_inputs
first_column = refl

second_column : next_clauses (with_column start 5) 7 ≡ (negative 7 ∷ positive 8 ∷ []) ∷ (negative 5 ∷ positive 4 ∷ positive 8 ∷ []) ∷ []
unfolding start two_inputs
second_column = refl

all_clauses : counter_clauses (with_column (with_column start 5) 7)
    ≡ (negative 3 ∷ positive 5 ∷ []) ∷ (negative 5 ∷ positive 6 ∷ []) ∷ (positive 4 ∷ positive 6 ∷ []) ∷ (negative 7 ∷ positive 8 ∷ []) ∷ (negative 5 ∷ positive 4 ∷ positive 8 ∷ []) ∷ []
unfolding start two_inputs
all_clauses = refl

bounds : map (bound_literal (with_column (with_column start 5) 7)) (0 ∷ 1 ∷ []) ≡ negative 6 ∷ negative 8 ∷ []
unfolding start two_inputs
bounds = refl

names : counter_meanings (with_column (with_column start 5) 7) ≡ (5, reaches 1 1) ∷ (6, reaches 2 1) ∷ (7, reaches 1 2) ∷ (8, reaches 2 2) ∷ []
unfolding start two_inputs
names = refl

more_names : next_meanings (with_column start 5) 7 ≡ (7, reaches 1 2) ∷ (8, reaches 2 2) ∷ []
unfolding start two_inputs
more_names = refl

-- ---- the same with a third input, variable 9, that comes later: it has the variables 10 and 11

two_columns : CounterState
unfolding start two_inputs
two_columns = with_column (with_column start 5) 7

later_input : with_input two_columns (positive 9) 10 ≡ record { inputs = positive 3 ∷ negative 4 ∷ positive 9 ∷ []; columns = (5 ∷ 6 ∷ 10 ∷ []) ∷ (7 ∷ 8 ∷ 11 ∷ []) ∷ []; spare_inputs = 0 }
unfolding two_columns start two_inputs
later_input = refl

later_clauses : inputs_clauses two_columns (positive 9 ∷ []) 10 ≡ (negative 6 ∷ positive 10 ∷ []) ∷ (negative 9 ∷ positive 10 ∷ []) ∷ (negative 8 ∷ positive 11 ∷ []) ∷ (negative 6 ∷ negative 9 ∷ positive 11 ∷ []) ∷ []
unfolding two_columns start two_inputs
later_clauses = refl

later_bounds : map (bound_literal (with_inputs two_columns (positive 9 ∷ []) 10)) (0 ∷ 1 ∷ []) ≡ negative 10 ∷ negative 11 ∷ []
unfolding two_columns start two_inputs
later_bounds = refl

-- the same in memory: two columns of two inputs each, and a row of the third
in_memory : counter_of (positive 3 ∷ negative 4 ∷ positive 9 ∷ []) (0 ∷ 0 ∷ 10 ∷ []) (record { first = 5; count = 2 } ∷ record { first = 7; count = 2 } ∷ []) 0 ≡ with_input two_columns (positive 9) 10
unfolding two_columns start two_inputs
in_memory = refl

-- ---- counts

-- variable 3 alone is true, and with it the second input
only_three : ℕ → Bool
only_three var = var == 3

both_true : true_count only_three (positive 3 ∷ negative 4 ∷ []) ≡ 2
unfolding only_three
both_true = refl

repeated : true_count only_three (positive 3 ∷ positive 3 ∷ negative 3 ∷ positive 5 ∷ []) ≡ 2
unfolding only_three
repeated = refl

-- ---- by name

second_counts : count_clause (counts_up 1 1 (no (happens 7 2))) ≡ no (reaches 1 1) ∷ yes (happens 7 2) ∷ yes (reaches 2 2) ∷ []
second_counts = refl

first_counts : count_clause (counts_up 0 0 (yes (happens 7 1))) ≡ no (happens 7 1) ∷ yes (reaches 1 1) ∷ []
first_counts = refl

keeps : count_clause (counts_on 1 2) ≡ no (reaches 1 2) ∷ yes (reaches 2 2) ∷ []
keeps = refl

counted_so : with_counts (yes (happens 0 1) ∷ no (happens 1 1) ∷ []) (λ name. true) (reaches 2 1) ≡ true
counted_so = refl

counted_not : with_counts (yes (happens 0 1) ∷ no (happens 1 1) ∷ []) (λ name. true) (reaches 2 2) ≡ false
counted_not = refl
