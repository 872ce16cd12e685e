-- A counter with one more column.
use Rattle.std.proofs.Common.{◌≡◌, ℕ, zero, suc, ◌+◌, ◌<◌, ◌≤◌, ◌∙◌, ◌⊎◌, inl, inr, List, [], ◌∷◌, ◌++◌, map, flat_map, length, max, Some, refl, sym, ap, arith, Contains, length-append}
use Rattle.std.specs.List.{range_with_len}
use Rattle.std.proofs.Math.ListN.{get_or-append}
use Rattle.std.proofs.Math.Seq.{get_or-append_seam}
use Rattle.std.proofs.lemmas.Bool.{cases_order}
use Rattle.std.proofs.lemmas.List.Elements.{All-contains, All-weaker}
use Rattle.std.proofs.lemmas.List.FromFn.{get_or-range_with_len, length-range_with_len}
use Rattle.prop_core.specs.declared.lit.Lit.{Lit}
use Rattle.prop_core.specs.Clauses.{Clause, HasValues}
use Rattle.prop_core.specs.VariableNames.{Meaning, reaches}
use Rattle.card_counter.proofs.ListLemmas.{flat_same, flat_next, map_same}
use Rattle.card_counter.specs.CounterState.{CounterState, IsPlace, IsCounter, IsMade, variable, var_at, column_at, column_before, column_clauses, without_columns, with_column, next_clauses, ColumnsAddClauses, next_meanings, ColumnsAddMeanings, with_room}
use Rattle.card_counter.specs.Growing.{MayCount}
use Rattle.des_base.specs.Lists.{numbers_below}

pub one_more_column : {X : Type 0} (xs : List X) (x : X) → length (xs ++ x ∷ []) ≡ suc (length xs)
one_more_column xs x = omega (arith, length-append xs (x ∷ []))

pub at_front : (columns : List (List ℕ)) (column : List ℕ) (j : ℕ) → j < length columns → column_at (columns ++ column ∷ []) j ≡ column_at columns j
at_front columns column j h = get_or-append columns (column ∷ []) [] j h

pub at_end : (columns : List (List ℕ)) (column : List ℕ) → column_at (columns ++ column ∷ []) (length columns) ≡ column
at_end columns column = get_or-append_seam columns column [] []

pub before_front : (columns : List (List ℕ)) (column : List ℕ) (j : ℕ) → j ≤ length columns → column_before (columns ++ column ∷ []) j ≡ column_before columns j
before_front columns column zero h = refl
before_front columns column (suc j) h = ap Some (at_front columns column j (omega arith))

pub columns_add_clauses : ColumnsAddClauses
columns_add_clauses state first =
    ap (λ n. flat_map after (numbers_below n)) (one_more_column state.columns column)
    ∙ flat_next after (length state.columns)
    ∙ ap (λ xs. xs ++ after (length state.columns)) (flat_same after before (length state.columns) same)
    ∙ ap (λ xs. flat_map before (numbers_below (length state.columns)) ++ xs) last
  where
    column : List ℕ
    column = range_with_len first (length state.inputs)

    after : ℕ → List Clause
    after j = column_clauses state.inputs (column_before (state.columns ++ column ∷ []) j) (column_at (state.columns ++ column ∷ []) j)

    before : ℕ → List Clause
    before j = column_clauses state.inputs (column_before state.columns j) (column_at state.columns j)

    same : (j : ℕ) → j < length state.columns → after j ≡ before j
    same j h =
        ap (λ c. column_clauses state.inputs c (column_at (state.columns ++ column ∷ []) j)) (before_front state.columns column j (omega arith))
        ∙ ap (column_clauses state.inputs (column_before state.columns j)) (at_front state.columns column j h)

    last : after (length state.columns) ≡ next_clauses state first
    last =
        ap (λ c. column_clauses state.inputs c (column_at (state.columns ++ column ∷ []) (length state.columns))) (before_front state.columns column (length state.columns) (omega arith))
        ∙ ap (column_clauses state.inputs (column_before state.columns (length state.columns))) (at_end state.columns column)

-- ---- its places

-- a place of the longer counter is one of the shorter, or of the last column
pub place_cases : (state : CounterState) (first i j : ℕ) → IsPlace (with_column state first) i j → IsPlace state i j ⊎ ((i < length state.inputs) × (j ≡ length state.columns))
place_cases state first i j place = by (cases_order j (length state.columns))
  where
    by : (j ≡ length state.columns) ⊎ ((j < length state.columns) ⊎ (length state.columns < j)) → IsPlace state i j ⊎ ((i < length state.inputs) × (j ≡ length state.columns))
    by (inl same) = inr (place.input, same)
    by (inr (inl less)) = inl (record { input = place.input; column = less })
    by (inr (inr more)) = absurd (omega (arith, place.column, one_more_column state.columns (range_with_len first (length state.inputs))))

pub variable_before : (state : CounterState) (first i j : ℕ) → IsPlace state i j → variable (with_column state first) i j ≡ variable state i j
variable_before state first i j place = ap (λ c. var_at c i) (at_front state.columns (range_with_len first (length state.inputs)) j place.column)

pub variable_last : (state : CounterState) (first i : ℕ) → i < length state.inputs → variable (with_column state first) i (length state.columns) ≡ first + i
variable_last state first i h = ap (λ c. var_at c i) (at_end state.columns (range_with_len first (length state.inputs))) ∙ get_or-range_with_len first (length state.inputs) i 0 h

pub grown_is_counter : (state : CounterState) (first : ℕ) → IsCounter state → IsMade first state → 0 < length state.inputs → IsCounter (with_column state first)
grown_is_counter state first counter made some = record {
  filled = λ h. some;
  full = full;
  apart = λ i j k l here there same. apart i j k l (place_cases state first i j here) (place_cases state first k l there) same;
  new = λ i j input place in' same. new i j input (place_cases state first i j place) in' same;
}
  where
    column : List ℕ
    column = range_with_len first (length state.inputs)

    full : (j : ℕ) → j < length (state.columns ++ column ∷ []) → length (column_at (state.columns ++ column ∷ []) j) ≡ length state.inputs
    full j h = by (cases_order j (length state.columns))
      where
        by : (j ≡ length state.columns) ⊎ ((j < length state.columns) ⊎ (length state.columns < j)) → length (column_at (state.columns ++ column ∷ []) j) ≡ length state.inputs
        by (inl same) = ap (λ n. length (column_at (state.columns ++ column ∷ []) n)) same ∙ ap length (at_end state.columns column) ∙ length-range_with_len first (length state.inputs)
        by (inr (inl less)) = ap length (at_front state.columns column j less) ∙ counter.full j less
        by (inr (inr more)) = absurd (omega (arith, h, one_more_column state.columns column))

    apart : (i j k l : ℕ) → IsPlace state i j ⊎ ((i < length state.inputs) × (j ≡ length state.columns)) → IsPlace state k l ⊎ ((k < length state.inputs) × (l ≡ length state.columns)) →
        variable (with_column state first) i j ≡ variable (with_column state first) k l → (i ≡ k) × (j ≡ l)
    apart i j k l (inl here) (inl there) same = counter.apart i j k l here there (sym (variable_before state first i j here) ∙ same ∙ variable_before state first k l there)
    apart i j k l (inl here) (inr (inside, last)) same =
        let below = made.columns i j here in
        let old = variable_before state first i j here in
        let at = variable_last state first k inside in
        let there : variable (with_column state first) k l ≡ first + k = ap (variable (with_column state first) k) last ∙ at in
        absurd (omega (arith, below, old, there, same))
    apart i j k l (inr (inside, last)) (inl there) same =
        let below = made.columns k l there in
        let old = variable_before state first k l there in
        let at = variable_last state first i inside in
        let here : variable (with_column state first) i j ≡ first + i = ap (variable (with_column state first) i) last ∙ at in
        absurd (omega (arith, below, old, here, same))
    apart i j k l (inr (inside, last)) (inr (within, end)) same =
        let at = variable_last state first i inside in
        let other = variable_last state first k within in
        let here : variable (with_column state first) i j ≡ first + i = ap (variable (with_column state first) i) last ∙ at in
        let there : variable (with_column state first) k l ≡ first + k = ap (variable (with_column state first) k) end ∙ other in
        (omega (arith, here, there, same), omega arith)

    new : (i j : ℕ) (input : Lit) → IsPlace state i j ⊎ ((i < length state.inputs) × (j ≡ length state.columns)) → Contains state.inputs input → input.var ≡ variable (with_column state first) i j → ⊥
    new i j input (inl place) in' same = counter.new i j input place in' (same ∙ variable_before state first i j place)
    new i j input (inr (inside, last)) in' same =
        let below : input.var < first = All-contains (λ (l : Lit). l.var < first) state.inputs input made.inputs in' in
        let here : variable (with_column state first) i j ≡ first + i = ap (variable (with_column state first) i) last ∙ variable_last state first i inside in
        omega (arith, below, here, same)

pub columns_add_meanings : ColumnsAddMeanings
columns_add_meanings state first =
    ap (λ n. flat_map after (numbers_below n)) (one_more_column state.columns column)
    ∙ flat_next after (length state.columns)
    ∙ ap (λ xs. xs ++ after (length state.columns)) (flat_same after before (length state.columns) same)
    ∙ ap (λ xs. flat_map before (numbers_below (length state.columns)) ++ xs) last
  where
    column : List ℕ
    column = range_with_len first (length state.inputs)

    after : ℕ → List (ℕ × Meaning)
    after j = map (λ i. (variable (with_column state first) i j, reaches (suc i) (suc j))) (numbers_below (length state.inputs))

    before : ℕ → List (ℕ × Meaning)
    before j = map (λ i. (variable state i j, reaches (suc i) (suc j))) (numbers_below (length state.inputs))

    same : (j : ℕ) → j < length state.columns → after j ≡ before j
    same j h = ap (λ c. map (λ i. (var_at c i, reaches (suc i) (suc j))) (numbers_below (length state.inputs))) (at_front state.columns column j h)

    last : after (length state.columns) ≡ next_meanings state first
    last = map_same (λ i. (variable (with_column state first) i (length state.columns), reaches (suc i) (suc (length state.columns))))
        (λ i. (first + i, reaches (suc i) (suc (length state.columns)))) (length state.inputs)
        (λ i h. ap (λ v. (v, reaches (suc i) (suc (length state.columns)))) (variable_last state first i h))

-- what was made stays so
pub made_later : (n m : ℕ) (state : CounterState) → n ≤ m → IsMade n state → IsMade m state
made_later n m state h made = record {
  inputs = All-weaker (λ (l : Lit). l.var < n) (λ (l : Lit). l.var < m) (λ l below. omega arith) state.inputs made.inputs;
  columns = λ i j place. let below = made.columns i j place in omega arith;
}

pub grown_is_made : (state : CounterState) (first : ℕ) → IsMade first state → IsMade (first + length state.inputs) (with_column state first)
grown_is_made state first made = record {
  inputs = (made_later first (first + length state.inputs) state (omega arith) made).inputs;
  columns = λ i j place. by i j (place_cases state first i j place);
}
  where
    by : (i j : ℕ) → IsPlace state i j ⊎ ((i < length state.inputs) × (j ≡ length state.columns)) → variable (with_column state first) i j < first + length state.inputs
    by i j (inl here) = let below = made.columns i j here in let old = variable_before state first i j here in omega arith
    by i j (inr (inside, last)) = let here : variable (with_column state first) i j ≡ first + i = ap (variable (with_column state first) i) last ∙ variable_last state first i inside in omega arith

-- a counter without columns
pub none_is_counter : (inputs : List Lit) → IsCounter (without_columns inputs)
none_is_counter inputs = record {
  filled = λ h. absurd (omega arith);
  full = λ j h. absurd (omega arith);
  apart = λ i j k l here. absurd (let h = here.column in omega arith);
  new = λ i j input here. absurd (let h = here.column in omega arith);
}

pub none_is_made : (count : ℕ) (inputs : List Lit) → HasValues count inputs → IsMade count (without_columns inputs)
none_is_made count inputs below = record { inputs = below; columns = λ i j here. absurd (let h = here.column in omega arith) }

-- ---- the room alone

pub spare_is_free : (inputs : List Lit) (columns : List (List ℕ)) (spare other : ℕ) → IsCounter (record { inputs = inputs; columns = columns; spare_inputs = spare }) → IsCounter (record { inputs = inputs; columns = columns; spare_inputs = other })
spare_is_free inputs columns spare other counter = record {
  filled = counter.filled;
  full = counter.full;
  apart = λ i j k l here there same. counter.apart i j k l (record { input = here.input; column = here.column }) (record { input = there.input; column = there.column }) same;
  new = λ i j input place in' same. counter.new i j input (record { input = place.input; column = place.column }) in' same;
}

pub room_is_counter : (state : CounterState) (more : ℕ) → IsCounter state → IsCounter (with_room state more)
room_is_counter state more counter = spare_is_free state.inputs state.columns state.spare_inputs (max state.spare_inputs more) counter

pub room_is_made : (count : ℕ) (state : CounterState) (more : ℕ) → IsMade count state → IsMade count (with_room state more)
room_is_made count state more made = record { inputs = made.inputs; columns = λ i j place. made.columns i j (record { input = place.input; column = place.column }) }

-- ---- literals that may become inputs

-- a literal of a later variable may
pub later_may_count : (made count : ℕ) (state : CounterState) (input : Lit) → IsMade made state → made ≤ input.var → input.var < count → MayCount count state input
later_may_count made count state input is later below = record { known = below; outside = λ i j place same. let low = is.columns i j place in omega (arith, low, later, same) }
