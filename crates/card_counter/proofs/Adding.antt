-- Inputs that are added one after another.
use Rattle.std.proofs.Common.{◌≡◌, ◌⊎◌, inl, inr, ℕ, suc, ◌+◌, ◌-◌, ◌*◌, ◌<◌, ◌≤◌, ◌∙◌, List, [], ◌∷◌, ◌++◌, drop, length, refl, sym, ap, subst, arith, append_assoc, append-nil, get_or, All, Contains}
use Rattle.std.proofs.Math.Nat.{suc-mul}
use Rattle.std.proofs.lemmas.List.{at_drop_more}
use Rattle.std.proofs.lemmas.List.Elements.{Contains-append_cases, Contains-append_left, Contains-append_right}
use Rattle.prop_core.specs.declared.lit.Lit.{Lit}
use Rattle.prop_core.specs.ClauseStore.{ClauseStore}
use Rattle.prop_core.specs.Clauses.{Clause}
use Rattle.card_counter.proofs.Inputs.{inputs_add_clauses, place_cases, variable_before, variable_new, longer_size, full_stays}
use Rattle.card_counter.specs.Growing.{HasRoom, MayCount, AddsInput, AddsInputs}
use Rattle.card_counter.specs.CounterState.{CounterState, IsPlace, IsCounter, IsMade, IsOutside, HasMoreInputs, ManyInputsAdd, IsFull, variable, counter_clauses, with_input, with_inputs, input_clauses, inputs_clauses}

-- ---- one more input keeps the others outside

pub outside_still : (state : CounterState) (input other : Lit) (first : ℕ) → IsFull state → other.var < first → IsOutside state other → IsOutside (with_input state input first) other
outside_still state input other first full low outside i j place same = by (place_cases state input first full i j place)
  where
    by : IsPlace state i j ⊎ ((i ≡ length state.inputs) × (j < length state.columns)) → ⊥
    by (inl old) = outside i j old (same ∙ variable_before state input first full i j old.input old.column)
    by (inr (last, column)) =
        let here : variable (with_input state input first) i j ≡ first + j = ap (λ k. variable (with_input state input first) k j) last ∙ variable_new state input first full j column in
        omega (arith, low, same, here)

-- ---- the loop

-- The first `done` inputs are added: the others lead from this state to the whole, and there is room for them.
pub record AreAdded (old : CounterState) (inputs : List Lit) (first : ℕ) (written : List Clause) (done : ℕ) (state : CounterState) (vars : ℕ) (store : ClauseStore) : Type 0 where
  pub leads : with_inputs state (drop done inputs) vars ≡ with_inputs old inputs first
  pub writes : store.clauses ++ inputs_clauses state (drop done inputs) vars ≡ written ++ inputs_clauses old inputs first
  pub columns : length state.columns ≡ length old.columns
  pub count : vars + (length inputs - done) * length old.columns ≡ first + length inputs * length old.columns
  pub reserved : length inputs ≤ state.spare_inputs + done
  pub counter : IsCounter state
  pub made : IsMade vars state
  pub others : All (MayCount vars state) inputs
  pub room : HasRoom store (2 * ((length inputs - done) * length old.columns)) (5 * ((length inputs - done) * length old.columns))

module _ (old : CounterState) (inputs : List Lit) (first : ℕ) (written : List Clause) (done : ℕ) (state : CounterState) (vars : ℕ) (store : ClauseStore) (are : AreAdded old inputs first written done state vars store) (less : done < length inputs) where
  one_less : (length inputs - done) * length old.columns ≡ length old.columns + (length inputs - (done + 1)) * length old.columns
  one_less =
      let rest : length inputs - done ≡ suc (length inputs - (done + 1)) = omega (arith, less) in
      let step = suc-mul (length inputs - (done + 1)) (length old.columns) in
      ap (λ k. k * length old.columns) rest ∙ omega (arith, step)

  pub next_added : (d : Lit) (after : CounterState) (next : ℕ) (new : ClauseStore) → AddsInput (get_or inputs done d) state vars store after next new → IsCounter after →
      AreAdded old inputs first written (done + 1) after next new
  next_added d after next new adds counter = record {
    leads =
        ap (λ (s : CounterState). with_inputs s (drop (done + 1) inputs) next) adds.counter
        ∙ ap (with_inputs (with_input state input vars) (drop (done + 1) inputs)) adds.vars
        ∙ sym (at_drop_more (λ xs. with_inputs state xs vars) inputs done d less)
        ∙ are.leads;
    writes =
        ap (λ (s : CounterState). new.clauses ++ inputs_clauses s (drop (done + 1) inputs) next) adds.counter
        ∙ ap (λ n. new.clauses ++ inputs_clauses (with_input state input vars) (drop (done + 1) inputs) n) adds.vars
        ∙ ap (λ xs. xs ++ inputs_clauses (with_input state input vars) (drop (done + 1) inputs) (vars + length state.columns)) adds.written.added
        ∙ append_assoc store.clauses (input_clauses state input vars) (inputs_clauses (with_input state input vars) (drop (done + 1) inputs) (vars + length state.columns))
        ∙ ap (λ xs. store.clauses ++ xs) (sym (at_drop_more (λ xs. inputs_clauses state xs vars) inputs done d less))
        ∙ are.writes;
    columns = ap (λ (s : CounterState). length s.columns) adds.counter ∙ longer_size vars state.columns ∙ are.columns;
    count = let columns = are.columns in let is = are.count in let made = adds.vars in omega (arith, columns, is, made, one_less);
    reserved = let reserved = are.reserved in let spare = ap (λ (s : CounterState). s.spare_inputs) adds.counter in omega (arith, reserved, spare, less);
    counter = counter;
    made = adds.made;
    others = λ k e inside. record {
      known = let low = (are.others k e inside).known in let made = adds.vars in omega (arith, low, made);
      outside = subst (λ (s : CounterState). IsOutside s (get_or inputs k e)) (sym adds.counter)
          (outside_still state input (get_or inputs k e) vars are.counter.full (are.others k e inside).known (are.others k e inside).outside);
    };
    room = record {
      clauses = let columns = are.columns in let before = are.room.clauses in let room = adds.written.clauses in omega (arith, columns, before, room, one_less);
      literals = let columns = are.columns in let before = are.room.literals in let room = adds.written.literals in omega (arith, columns, before, room, one_less);
    };
  }
    where
      input : Lit
      input = get_or inputs done d

-- ---- the law

no_clauses_more : (state : CounterState) (clause : Clause) → Contains (counter_clauses state) clause ⊎ Contains [] clause → Contains (counter_clauses state) clause
no_clauses_more state clause (inl in') = in'
no_clauses_more state clause (inr none) = absurd (let inside = none.1 in omega (arith, inside))

one_then_others : (state : CounterState) (input : Lit) (more : List Lit) (first : ℕ) → IsFull state → HasMoreInputs (with_input state input first) more (first + length state.columns) → HasMoreInputs state (input ∷ more) first
one_then_others state input more first full rest = record {
  inputs = rest.inputs ∙ append_assoc state.inputs (input ∷ []) more;
  columns = rest.columns ∙ longer_size first state.columns;
  clauses = λ clause. (to clause, from clause);
}
  where
    then : CounterState
    then = with_input state input first

    to : (clause : Clause) → Contains (counter_clauses (with_inputs state (input ∷ more) first)) clause → Contains (counter_clauses state) clause ⊎ Contains (inputs_clauses state (input ∷ more) first) clause
    to clause in' = by ((rest.clauses clause).0 in')
      where
        first_by : Contains (counter_clauses state) clause ⊎ Contains (input_clauses state input first) clause → Contains (counter_clauses state) clause ⊎ Contains (inputs_clauses state (input ∷ more) first) clause
        first_by (inl old) = inl old
        first_by (inr new) = inr (Contains-append_left (input_clauses state input first) (inputs_clauses then more (first + length state.columns)) clause new)

        by : Contains (counter_clauses then) clause ⊎ Contains (inputs_clauses then more (first + length state.columns)) clause → Contains (counter_clauses state) clause ⊎ Contains (inputs_clauses state (input ∷ more) first) clause
        by (inl one) = first_by ((inputs_add_clauses state input first full clause).0 one)
        by (inr others) = inr (Contains-append_right (input_clauses state input first) (inputs_clauses then more (first + length state.columns)) clause others)

    from : (clause : Clause) → Contains (counter_clauses state) clause ⊎ Contains (inputs_clauses state (input ∷ more) first) clause → Contains (counter_clauses (with_inputs state (input ∷ more) first)) clause
    from clause which = (rest.clauses clause).1 (by which)
      where
        new_by : Contains (input_clauses state input first) clause ⊎ Contains (inputs_clauses then more (first + length state.columns)) clause → Contains (counter_clauses then) clause ⊎ Contains (inputs_clauses then more (first + length state.columns)) clause
        new_by (inl one) = inl ((inputs_add_clauses state input first full clause).1 (inr one))
        new_by (inr others) = inr others

        by : Contains (counter_clauses state) clause ⊎ Contains (inputs_clauses state (input ∷ more) first) clause → Contains (counter_clauses then) clause ⊎ Contains (inputs_clauses then more (first + length state.columns)) clause
        by (inl old) = inl ((inputs_add_clauses state input first full clause).1 (inl old))
        by (inr new) = new_by (Contains-append_cases (input_clauses state input first) (inputs_clauses then more (first + length state.columns)) clause new)

pub many_inputs_add : ManyInputsAdd
many_inputs_add state [] first full = record {
  inputs = sym (append-nil state.inputs);
  columns = refl;
  clauses = λ clause. (λ in'. inl in', no_clauses_more state clause);
}
many_inputs_add state (input ∷ more) first full =
    one_then_others state input more first full (many_inputs_add (with_input state input first) more (first + length state.columns) (full_stays state input first full))

-- further inputs leave as many columns
pub columns_stay : (inputs : List Lit) (old : CounterState) (first : ℕ) (written : List Clause) (new : CounterState) (next : ℕ) (all : List Clause) → AddsInputs inputs old first written new next all → IsFull old → length new.columns ≡ length old.columns
columns_stay inputs old first written new next all adds full = ap (λ (state : CounterState). length state.columns) adds.counter ∙ (many_inputs_add old inputs first full).columns
