-- A counter with one more input.
use Rattle.std.proofs.Common.{◌≡◌, ℕ, zero, suc, ◌+◌, ◌<◌, ◌≤◌, ◌∙◌, ◌⊎◌, inl, inr, List, [], ◌∷◌, ◌++◌, length, refl, sym, ap, subst, arith, Contains, length-append, get_or}
use Rattle.std.proofs.Math.ListN.{get_or-append}
use Rattle.std.proofs.Math.Seq.{get_or-append_seam}
use Rattle.std.proofs.lemmas.Bool.{cases_lt}
use Rattle.std.proofs.lemmas.List.Elements.{All-contains, All-append, Contains-append_cases}
use Rattle.prop_core.specs.declared.lit.Lit.{Lit}
use Rattle.prop_core.specs.Clauses.{Clause, negation}
use Rattle.card_counter.proofs.ListLemmas.{flat_contains, flat_of}
use Rattle.card_counter.proofs.States.{made_later}
use Rattle.card_counter.specs.CounterState.{CounterState, IsPlace, IsCounter, IsMade, reached_in, reached_before, told_by, under, positive, variable, var_at, column_at, column_before, input_at, place_clauses, column_clauses, counter_clauses, longer, with_input, input_clauses, IsFull, IsOutside, InputsGrow, InputsAddClauses}
use Rattle.prop_core.specs.Trail.{no_literal}

-- ---- longer columns

pub longer_size : (first : ℕ) (columns : List (List ℕ)) → length (longer first columns) ≡ length columns
longer_size first [] = refl
longer_size first (column ∷ columns) = ap suc (longer_size (suc first) columns)

longer_at : (first : ℕ) (columns : List (List ℕ)) (j : ℕ) → j < length columns → column_at (longer first columns) j ≡ column_at columns j ++ (first + j) ∷ []
longer_at first [] j h = absurd (omega arith)
longer_at first (column ∷ columns) zero h = let same : first ≡ first + 0 = omega arith in ap (λ v. column ++ v ∷ []) same
longer_at first (column ∷ columns) (suc j) h = let same : suc first + j ≡ first + suc j = omega arith in longer_at (suc first) columns j (omega arith) ∙ ap (λ v. column_at columns j ++ v ∷ []) same

module _ (state : CounterState) (input : Lit) (first : ℕ) (full : IsFull state) where
  pub variable_before : (i j : ℕ) → i < length state.inputs → j < length state.columns → variable (with_input state input first) i j ≡ variable state i j
  variable_before i j inside h =
      ap (λ c. var_at c i) (longer_at first state.columns j h)
      ∙ get_or-append (column_at state.columns j) ((first + j) ∷ []) 0 i (let size = full j h in omega (arith, size))

  pub variable_new : (j : ℕ) → j < length state.columns → variable (with_input state input first) (length state.inputs) j ≡ first + j
  variable_new j h =
      ap (λ c. var_at c (length state.inputs)) (longer_at first state.columns j h)
      ∙ ap (var_at (column_at state.columns j ++ (first + j) ∷ [])) (sym (full j h))
      ∙ get_or-append_seam (column_at state.columns j) (first + j) [] 0

  inputs_size : length (state.inputs ++ input ∷ []) ≡ suc (length state.inputs)
  inputs_size = omega (arith, length-append state.inputs (input ∷ []))

  -- a place is an old one, or one of the new input
  pub place_cases : (i j : ℕ) → IsPlace (with_input state input first) i j → IsPlace state i j ⊎ ((i ≡ length state.inputs) × (j < length state.columns))
  place_cases i j place = by (cases_lt i (length state.inputs))
    where
      column : j < length state.columns
      column = let below = place.column in omega (arith, below, longer_size first state.columns)

      by : (i < length state.inputs) ⊎ (length state.inputs ≤ i) → IsPlace state i j ⊎ ((i ≡ length state.inputs) × (j < length state.columns))
      by (inl less) = inl (record { input = less; column = column })
      by (inr more) = inr (let below = place.input in omega (arith, below, inputs_size), column)

  -- ---- its clauses

  reached_same : (j i : ℕ) → i ≤ length state.inputs → j < length state.columns → reached_in (column_at (longer first state.columns) j) i ≡ reached_in (column_at state.columns j) i
  reached_same j zero inside h = refl
  reached_same j (suc i) inside h = ap told_by (variable_before i j (omega arith) h)

  before_same : (j i : ℕ) → i ≤ length state.inputs → j < length state.columns → reached_before (column_before (longer first state.columns) j) i ≡ reached_before (column_before state.columns j) i
  before_same zero i inside h = refl
  before_same (suc j) i inside h = reached_same j i inside (omega arith)

  input_same : (i : ℕ) → i < length state.inputs → input_at (state.inputs ++ input ∷ []) i ≡ input_at state.inputs i
  input_same i h = get_or-append state.inputs (input ∷ []) no_literal i h

  place_same : (j i : ℕ) → i < length state.inputs → j < length state.columns →
      place_clauses (input_at (state.inputs ++ input ∷ []) i) (column_before (longer first state.columns) j) (column_at (longer first state.columns) j) i
      ≡ place_clauses (input_at state.inputs i) (column_before state.columns j) (column_at state.columns j) i
  place_same j i inside h = λ k.
      under (reached_same j i (omega arith) h k) (positive (variable_before i j inside h k) ∷ [])
      ++ under (before_same j i (omega arith) h k) (negation (input_same i inside k) ∷ positive (variable_before i j inside h k) ∷ [])

  abbrev old_at : ℕ → ℕ → List Clause
  old_at j i = place_clauses (input_at state.inputs i) (column_before state.columns j) (column_at state.columns j) i

  abbrev new_at : ℕ → ℕ → List Clause
  new_at j i = place_clauses (input_at (state.inputs ++ input ∷ []) i) (column_before (longer first state.columns) j) (column_at (longer first state.columns) j) i

  last_input : input_at (state.inputs ++ input ∷ []) (length state.inputs) ≡ input
  last_input = get_or-append_seam state.inputs input [] no_literal

  last_same : (j : ℕ) → new_at j (length state.inputs) ≡ place_clauses input (column_before (longer first state.columns) j) (column_at (longer first state.columns) j) (length state.inputs)
  last_same j = ap (λ l. place_clauses l (column_before (longer first state.columns) j) (column_at (longer first state.columns) j) (length state.inputs)) last_input

  clause_from : (clause : Clause) → Contains (counter_clauses (with_input state input first)) clause → Contains (counter_clauses state) clause ⊎ Contains (input_clauses state input first) clause
  clause_from clause in' =
      let column = flat_of (λ j. column_clauses (state.inputs ++ input ∷ []) (column_before (longer first state.columns) j) (column_at (longer first state.columns) j)) (length (longer first state.columns)) clause in' in
      let inside : column.0 < length state.columns = (let below = column.1 in omega (arith, below, longer_size first state.columns)) in
      let place = flat_of (new_at column.0) (length (state.inputs ++ input ∷ [])) clause column.2 in
      by column.0 place.0 inside place.1 place.2 (cases_lt place.0 (length state.inputs))
    where
      by : (j i : ℕ) → j < length state.columns → i < length (state.inputs ++ input ∷ []) → Contains (new_at j i) clause → (i < length state.inputs) ⊎ (length state.inputs ≤ i) →
          Contains (counter_clauses state) clause ⊎ Contains (input_clauses state input first) clause
      by j i column inside here (inl less) =
          inl (flat_contains (λ k. column_clauses state.inputs (column_before state.columns k) (column_at state.columns k)) (length state.columns) j clause column
          (flat_contains (old_at j) (length state.inputs) i clause less (subst (λ cs. Contains cs clause) (place_same j i less column) here)))
      by j i column inside here (inr more) =
          let same : i ≡ length state.inputs = omega (arith, inside, more, inputs_size) in
          inr (flat_contains (λ k. place_clauses input (column_before (longer first state.columns) k) (column_at (longer first state.columns) k) (length state.inputs)) (length state.columns) j clause column
          (subst (λ cs. Contains cs clause) (last_same j) (subst (λ k. Contains (new_at j k) clause) same here)))

  clause_to : (clause : Clause) → Contains (counter_clauses state) clause ⊎ Contains (input_clauses state input first) clause → Contains (counter_clauses (with_input state input first)) clause
  clause_to clause (inl in') =
      let column = flat_of (λ j. column_clauses state.inputs (column_before state.columns j) (column_at state.columns j)) (length state.columns) clause in' in
      let place = flat_of (old_at column.0) (length state.inputs) clause column.2 in
      let inside = place.1 in
      flat_contains (λ j. column_clauses (state.inputs ++ input ∷ []) (column_before (longer first state.columns) j) (column_at (longer first state.columns) j)) (length (longer first state.columns)) column.0 clause
      (let below = column.1 in omega (arith, below, longer_size first state.columns))
      (flat_contains (new_at column.0) (length (state.inputs ++ input ∷ [])) place.0 clause (omega (arith, inside, inputs_size))
      (subst (λ cs. Contains cs clause) (sym (place_same column.0 place.0 inside column.1)) place.2))
  clause_to clause (inr in') =
      let column = flat_of (λ j. place_clauses input (column_before (longer first state.columns) j) (column_at (longer first state.columns) j) (length state.inputs)) (length state.columns) clause in' in
      flat_contains (λ j. column_clauses (state.inputs ++ input ∷ []) (column_before (longer first state.columns) j) (column_at (longer first state.columns) j)) (length (longer first state.columns)) column.0 clause
      (let below = column.1 in omega (arith, below, longer_size first state.columns))
      (flat_contains (new_at column.0) (length (state.inputs ++ input ∷ [])) (length state.inputs) clause (omega (arith, inputs_size))
      (subst (λ cs. Contains cs clause) (sym (last_same column.0)) column.2))

pub inputs_add_clauses : InputsAddClauses
inputs_add_clauses state input first full clause = (clause_from state input first full clause, clause_to state input first full clause)

-- each column has a variable for the new input too
pub full_stays : (state : CounterState) (input : Lit) (first : ℕ) → IsFull state → IsFull (with_input state input first)
full_stays state input first full j h =
    let inside : j < length state.columns = omega (arith, h, longer_size first state.columns) in
    let size = full j inside in
    let more = length-append (column_at state.columns j) ((first + j) ∷ []) in
    let inputs = length-append state.inputs (input ∷ []) in
    ap length (longer_at first state.columns j inside) ∙ omega (arith, size, more, inputs)

-- ---- it is a counter

module _ (state : CounterState) (input : Lit) (first : ℕ) (counter : IsCounter state) (made : IsMade first state) (below : input.var < first) (outside : IsOutside state input) where
  abbrev Place : ℕ → ℕ → Type 0
  Place i j = IsPlace state i j ⊎ ((i ≡ length state.inputs) × (j < length state.columns))

  told : (i j : ℕ) → Place i j → ((variable (with_input state input first) i j ≡ variable state i j) × IsPlace state i j) ⊎ ((variable (with_input state input first) i j ≡ first + j) × (i ≡ length state.inputs))
  told i j (inl place) = inl (variable_before state input first counter.full i j place.input place.column, place)
  told i j (inr (same, column)) = inr (ap (λ k. variable (with_input state input first) k j) same ∙ variable_new state input first counter.full j column, same)

  apart : (i j k l : ℕ) → Place i j → Place k l → variable (with_input state input first) i j ≡ variable (with_input state input first) k l → (i ≡ k) × (j ≡ l)
  apart i j k l here there same = by (told i j here) (told k l there)
    where
      by : ((variable (with_input state input first) i j ≡ variable state i j) × IsPlace state i j) ⊎ ((variable (with_input state input first) i j ≡ first + j) × (i ≡ length state.inputs)) →
          ((variable (with_input state input first) k l ≡ variable state k l) × IsPlace state k l) ⊎ ((variable (with_input state input first) k l ≡ first + l) × (k ≡ length state.inputs)) → (i ≡ k) × (j ≡ l)
      by (inl (a, p)) (inl (b, q)) = counter.apart i j k l p q (sym a ∙ same ∙ b)
      by (inl (a, p)) (inr (b, q)) = absurd (let low = made.columns i j p in omega (arith, low, a, b, same))
      by (inr (a, p)) (inl (b, q)) = absurd (let low = made.columns k l q in omega (arith, low, a, b, same))
      by (inr (a, p)) (inr (b, q)) = (p ∙ sym q, omega (arith, a, b, same))

  others : (l : Lit) → Contains (state.inputs ++ input ∷ []) l → (Contains state.inputs l) ⊎ (input ≡ l)
  others l in' = by (Contains-append_cases state.inputs (input ∷ []) l in')
    where
      by : Contains state.inputs l ⊎ Contains (input ∷ []) l → Contains state.inputs l ⊎ (input ≡ l)
      by (inl old) = inl old
      by (inr (zero, inside, is)) = inr is
      by (inr (suc k, inside, is)) = absurd (omega arith)

  new_apart : (i j : ℕ) (l : Lit) → Place i j → Contains state.inputs l ⊎ (input ≡ l) → l.var ≡ variable (with_input state input first) i j → ⊥
  new_apart i j l place which same = by (told i j place) which
    where
      by : ((variable (with_input state input first) i j ≡ variable state i j) × IsPlace state i j) ⊎ ((variable (with_input state input first) i j ≡ first + j) × (i ≡ length state.inputs)) →
          Contains state.inputs l ⊎ (input ≡ l) → ⊥
      by (inl (a, p)) (inl old) = counter.new i j l p old (same ∙ a)
      by (inl (a, p)) (inr is) = outside i j p (ap (λ (x : Lit). x.var) is ∙ same ∙ a)
      by (inr (a, p)) (inl old) = let low : l.var < first = All-contains (λ (x : Lit). x.var < first) state.inputs l made.inputs old in omega (arith, low, a, same)
      by (inr (a, p)) (inr is) = let var = ap (λ (x : Lit). x.var) is in omega (arith, below, a, same, var)

  is_made : IsMade (first + length state.columns) (with_input state input first)
  is_made = record {
    inputs = All-append (λ (l : Lit). l.var < first + length state.columns) state.inputs (input ∷ []) (made_later first (first + length state.columns) state (omega arith) made).inputs
        (λ k d inside. single k d inside);
    columns = λ i j place. by i j (told i j (place_cases state input first counter.full i j place)) (place_cases state input first counter.full i j place);
  }
    where
      single : (k : ℕ) (d : Lit) → k < length (input ∷ []) → (get_or (input ∷ []) k d).var < first + length state.columns
      single zero d inside = omega (arith, below)
      single (suc k) d inside = absurd (omega arith)

      by : (i j : ℕ) → ((variable (with_input state input first) i j ≡ variable state i j) × IsPlace state i j) ⊎ ((variable (with_input state input first) i j ≡ first + j) × (i ≡ length state.inputs)) →
          Place i j → variable (with_input state input first) i j < first + length state.columns
      by i j (inl (a, p)) place = let low = made.columns i j p in omega (arith, low, a)
      by i j (inr (a, p)) (inl q) = let inside = q.column in omega (arith, a, inside)
      by i j (inr (a, p)) (inr (same, inside)) = omega (arith, a, inside)

pub inputs_grow : InputsGrow
inputs_grow state input first counter made below outside = record {
  counter = record {
    filled = λ h. omega (arith, length-append state.inputs (input ∷ []));
    full = full_stays state input first counter.full;
    apart = λ i j k l here there same. apart state input first counter made below outside i j k l (place_cases state input first counter.full i j here) (place_cases state input first counter.full k l there) same;
    new = λ i j l place in' same. new_apart state input first counter made below outside i j l (place_cases state input first counter.full i j place) (others state input first counter made below outside l in') same;
  };
  made = is_made state input first counter made below outside;
  before = λ i j place. variable_before state input first counter.full i j place.input place.column;
  last = λ j h. variable_new state input first counter.full j h;
}
