-- How a counter's columns stand in memory: look-ups, a further column, a further input.
use Rattle.std.proofs.Common.{◌≡◌, ℕ, zero, suc, ◌+◌, ◌-◌, ◌<◌, ◌≤◌, ◌∙◌, List, [], ◌∷◌, ◌++◌, map, drop, length, refl, sym, ap, subst, arith, append_assoc, append-nil, length-append, get_or, ◌*◌}
use Rattle.std.specs.List.{range_with_len, AllByRecursion}
use Rattle.std.proofs.Math.ListN.{get_or-append}
use Rattle.std.proofs.lemmas.List.{drop_all, drop-append-le, get_or-append_right, get_or-map, get_or-drop, length-drop, map-append}
use Rattle.std.proofs.lemmas.List.FromFn.{get_or-range_with_len, length-range_with_len}
use Rattle.des_base.proofs.Elements.{all_change, all_push}
use Rattle.des_base.specs.declared.TheConstants.{MOST_COLUMNS, VAR_LIMIT}
use Rattle.prop_core.specs.declared.lit.Lit.{Lit}
use Rattle.prop_core.specs.Clauses.{Clause}
use Rattle.card_counter.specs.declared.counter.Column.{Column}
use Rattle.card_counter.proofs.Inputs.{inputs_grow, longer_size}
use Rattle.card_counter.proofs.States.{grown_is_counter, grown_is_made}
use Rattle.card_counter.specs.CounterState.{CounterState, IsPlace, IsCounter, IsMade, HasInput, var_at, column_at, with_column, next_clauses, longer, with_input, clauses_of_column, clauses_of_input, variable}
use Rattle.card_counter.specs.Rows.{column_of, columns_of, counter_of, var_of, IsLaidOut}
use Rattle.prop_core.specs.ClauseStore.{ClauseStore}
use Rattle.card_counter.proofs.PlaceLemmas.{last_column, last_input}
use Rattle.card_counter.specs.Growing.{HasRoom, AddsWithin, AddsColumn, AddsInput, MayCount}

-- ---- look-ups

own_at : (rows : List ℕ) (j : ℕ) (column : Column) (i : ℕ) → i < column.count → var_at (column_of rows j column) i ≡ column.first + i
own_at rows j column i h =
    let size = length-range_with_len column.first column.count in
    get_or-append (range_with_len column.first column.count) (map (λ first. first + j) (drop column.count rows)) 0 i (omega (arith, size, h))
    ∙ get_or-range_with_len column.first column.count i 0 h

later_at : (rows : List ℕ) (j : ℕ) (column : Column) (i d : ℕ) → column.count ≤ i → i < length rows → var_at (column_of rows j column) i ≡ get_or rows i d + j
later_at rows j column i d h inside =
    let size = length-range_with_len column.first column.count in
    let rest = length-drop column.count rows in
    let there : column.count + (i - column.count) ≡ i = omega (arith, h) in
    get_or-append_right (range_with_len column.first column.count) (map (λ first. first + j) (drop column.count rows)) column.count i 0 size h
    ∙ get_or-map (λ first. first + j) (drop column.count rows) (i - column.count) d 0 (omega (arith, rest, h, inside))
    ∙ ap (λ n. n + j) (get_or-drop column.count rows (i - column.count) d ∙ ap (λ k. get_or rows k d) there)

column_at_of : (rows : List ℕ) (start : ℕ) (columns : List Column) (j : ℕ) (d : Column) → j < length columns → column_at (columns_of rows start columns) j ≡ column_of rows (start + j) (get_or columns j d)
column_at_of rows start [] j d h = absurd (omega arith)
column_at_of rows start (column ∷ columns) zero d h = let same : start ≡ start + 0 = omega arith in ap (λ k. column_of rows k column) same
column_at_of rows start (column ∷ columns) (suc j) d h = let same : suc start + j ≡ start + suc j = omega arith in column_at_of rows (suc start) columns j d (omega arith) ∙ ap (λ k. column_of rows k (get_or columns j d)) same

pub var_own : (rows : List ℕ) (columns : List Column) (i j : ℕ) (d : Column) → j < length columns → i < (get_or columns j d).count → var_of rows columns i j ≡ (get_or columns j d).first + i
var_own rows columns i j d h own = ap (λ c. var_at c i) (column_at_of rows 0 columns j d h) ∙ own_at rows (0 + j) (get_or columns j d) i own

pub var_later : (rows : List ℕ) (columns : List Column) (i j d : ℕ) (e : Column) → j < length columns → (get_or columns j e).count ≤ i → i < length rows → var_of rows columns i j ≡ get_or rows i d + j
var_later rows columns i j d e h later inside = ap (λ c. var_at c i) (column_at_of rows 0 columns j e h) ∙ later_at rows (0 + j) (get_or columns j e) i d later inside ∙ ap (λ k. get_or rows i d + k) same
  where
    same : 0 + j ≡ j
    same = omega arith

columns_size : (rows : List ℕ) (j : ℕ) (columns : List Column) → length (columns_of rows j columns) ≡ length columns
columns_size rows j [] = refl
columns_size rows j (column ∷ columns) = ap suc (columns_size rows (suc j) columns)

-- ---- the variable of a place

-- what memory has at this place of the counter
module _ (state : CounterState) (inputs : List Lit) (rows : List ℕ) (columns : List Column) (spare i j : ℕ) (view : counter_of inputs rows columns spare ≡ state) (laid : IsLaidOut inputs rows columns) (place : IsPlace state i j) where
  pub input_there : i < length inputs
  input_there = let inside = place.input in let size = ap (λ (s : CounterState). length s.inputs) view in omega (arith, inside, size)

  pub row_there : i < length rows
  row_there = let each = laid.each in let inside = input_there in omega (arith, each, inside)

  pub column_there : j < length columns
  column_there = let inside = place.column in let size = columns_size rows 0 columns in let same = ap (λ (s : CounterState). length s.columns) view in omega (arith, inside, size, same)

  is_variable : var_of rows columns i j ≡ variable state i j
  is_variable = ap (λ (s : CounterState). variable s i j) view

  pub is_own : (own : Column) → own ≡ get_or columns j own → i < own.count → own.first + i ≡ variable state i j
  is_own own is less =
      let count = ap (λ (c : Column). c.count) is in
      ap (λ (c : Column). c.first + i) is ∙ sym (var_own rows columns i j own column_there (omega (arith, less, count))) ∙ is_variable

  pub is_later : (own : Column) (row : ℕ) → own ≡ get_or columns j own → row ≡ get_or rows i row → own.count ≤ i → row + j ≡ variable state i j
  is_later own row is there later =
      let count = ap (λ (c : Column). c.count) is in
      ap (λ r. r + j) there ∙ sym (var_later rows columns i j row own column_there (omega (arith, later, count)) row_there) ∙ is_variable

  pub is_small : variable state i j < VAR_LIMIT
  is_small = let low = laid.small i j input_there column_there in let same = is_variable in omega (arith, low, same)

-- ---- a further column

columns_put : (rows : List ℕ) (j : ℕ) (columns : List Column) (column : Column) → columns_of rows j (columns ++ column ∷ []) ≡ columns_of rows j columns ++ column_of rows (j + length columns) column ∷ []
columns_put rows j [] column = let same : j ≡ j + 0 = omega arith in ap (λ k. column_of rows k column ∷ []) same
columns_put rows j (c ∷ columns) column =
    let same : suc j + length columns ≡ j + suc (length columns) = omega arith in
    ap (λ cs. column_of rows j c ∷ cs) (columns_put rows (suc j) columns column ∙ ap (λ k. columns_of rows (suc j) columns ++ column_of rows k column ∷ []) same)

new_column : (rows : List ℕ) (j : ℕ) (column : Column) → length rows ≤ column.count → column_of rows j column ≡ range_with_len column.first column.count
new_column rows j column h = ap (λ xs. range_with_len column.first column.count ++ map (λ first. first + j) xs) (drop_all column.count rows h) ∙ append-nil (range_with_len column.first column.count)

-- what is known where the column was added: the state before, and the fields after
pub record IsAdded (old : CounterState) (vars : ℕ) (inputs : List Lit) (rows : List ℕ) (columns later : List Column) (spare : ℕ) (column : Column) : Type 0 where
  pub view : counter_of inputs rows columns spare ≡ old
  pub laid : IsLaidOut inputs rows columns
  pub pushed : later ≡ columns ++ column ∷ []
  pub start : column.first ≡ vars
  pub size : column.count ≡ length inputs
  pub some : 1 ≤ length old.inputs
  pub made : IsMade vars old
  pub few : length old.columns < MOST_COLUMNS
  pub within : vars + length old.inputs ≤ VAR_LIMIT

module _ (old : CounterState) (vars : ℕ) (inputs : List Lit) (rows : List ℕ) (columns later : List Column) (spare : ℕ) (column : Column) (added : IsAdded old vars inputs rows columns later spare column) where
  columns_same : length columns ≡ length old.columns
  columns_same = sym (columns_size rows 0 columns) ∙ ap (λ (state : CounterState). length state.columns) added.view

  row_here : columns_of rows 0 later ≡ columns_of rows 0 columns ++ range_with_len column.first (length inputs) ∷ []
  row_here =
      let size = added.size in let rows_size = added.laid.each in
      ap (columns_of rows 0) added.pushed
      ∙ columns_put rows 0 columns column
      ∙ ap (λ c. columns_of rows 0 columns ++ c ∷ []) (new_column rows (0 + length columns) column (omega (arith, size, rows_size)) ∙ ap (range_with_len column.first) size)

  pub added_state : counter_of inputs rows later spare ≡ with_column old vars
  added_state =
      ap (λ (cs : List (List ℕ)). let state : CounterState = record { inputs = inputs; columns = cs; spare_inputs = spare } in state) row_here
      ∙ ap (λ (state : CounterState). with_column state column.first) added.view
      ∙ ap (with_column old) added.start

  pub added_counter : IsCounter (counter_of inputs rows columns spare) → IsCounter (counter_of inputs rows later spare)
  added_counter counter = subst IsCounter (sym added_state) (grown_is_counter old vars (subst IsCounter added.view counter) added.made added.some)

  pub added_made : (more : ℕ) → more ≡ vars + length old.inputs → IsMade more (counter_of inputs rows later spare)
  added_made more is = subst (IsMade more) (sym added_state) (subst (λ n. IsMade n (with_column old vars)) (sym is) (grown_is_made old vars added.made))

  later_size : length later ≡ suc (length columns)
  later_size = omega (arith, ap length added.pushed, length-append columns (column ∷ []))

  pub added_laid : IsLaidOut inputs rows later
  added_laid = record {
    each = added.laid.each;
    counts = subst (AllByRecursion (λ (c : Column). c.count ≤ length rows)) (sym added.pushed)
        (all_push (λ (c : Column). c.count ≤ length rows) columns column added.laid.counts (omega (arith, added.size, added.laid.each)));
    small = small;
    few = omega (arith, later_size, columns_same, added.few);
  }
    where
      small : (i j : ℕ) → i < length inputs → j < length later → var_of rows later i j < VAR_LIMIT
      small i j input column_inside =
          let place : IsPlace (counter_of inputs rows later spare) i j = record { input = input; column = omega (arith, column_inside, columns_size rows 0 later) } in
          let low = (added_made (vars + length old.inputs) refl).columns i j place in
          let within = added.within in
          omega (arith, low, within)

  pub added_some : 1 ≤ length (counter_of inputs rows later spare).columns
  added_some = omega (arith, later_size, columns_size rows 0 later)

  pub added_whole : (before after : ClauseStore) (written : List Clause) (next : ℕ) → before.clauses ≡ written → next ≡ vars + length old.inputs →
      AddsWithin before (clauses_of_column (counter_of inputs rows later spare) (length (counter_of inputs rows later spare).columns - 1)) (2 * length inputs) (5 * length inputs) after →
      AddsColumn old vars written (counter_of inputs rows later spare) next after.clauses
  added_whole before after written next same is adds = record {
    counter = added_state;
    clauses = (subst (λ (s : CounterState). AddsWithin before (clauses_of_column s (length s.columns - 1)) (2 * length inputs) (5 * length inputs) after) added_state adds).added ∙ ap (λ xs. before.clauses ++ xs) (last_column old vars) ∙ ap (λ xs. xs ++ next_clauses old vars) same;
    vars = is;
    made = added_made next is;
  }

-- ---- a further input

column_longer : (rows : List ℕ) (j : ℕ) (column : Column) (row : ℕ) → column.count ≤ length rows → column_of (rows ++ row ∷ []) j column ≡ column_of rows j column ++ (row + j) ∷ []
column_longer rows j column row h =
    ap (λ xs. range_with_len column.first column.count ++ map (λ first. first + j) xs) (drop-append-le column.count rows (row ∷ []) h)
    ∙ ap (λ xs. range_with_len column.first column.count ++ xs) (map-append (λ first. first + j) (drop column.count rows) (row ∷ []))
    ∙ sym (append_assoc (range_with_len column.first column.count) (map (λ first. first + j) (drop column.count rows)) ((row + j) ∷ []))

columns_longer : (rows : List ℕ) (j : ℕ) (columns : List Column) (row first : ℕ) → first ≡ row + j → AllByRecursion (λ (c : Column). c.count ≤ length rows) columns →
    columns_of (rows ++ row ∷ []) j columns ≡ longer first (columns_of rows j columns)
columns_longer rows j [] row first is all = refl
columns_longer rows j (column ∷ columns) row first is all =
    ap (λ c. c ∷ columns_of (rows ++ row ∷ []) (suc j) columns) (column_longer rows j column row all.0 ∙ ap (λ v. column_of rows j column ++ v ∷ []) (sym is))
    ∙ ap (λ cs. (column_of rows j column ++ first ∷ []) ∷ cs) (columns_longer rows (suc j) columns row (suc first) (omega (arith, is)) all.1)

-- what is known where the input was added: the state before, and the fields after
pub record IsPut (old : CounterState) (vars : ℕ) (input : Lit) (inputs all : List Lit) (rows every : List ℕ) (columns : List Column) (spare less : ℕ) : Type 0 where
  pub view : counter_of inputs rows columns spare ≡ old
  pub laid : IsLaidOut inputs rows columns
  pub counter : IsCounter (counter_of inputs rows columns spare)
  pub input_put : all ≡ inputs ++ input ∷ []
  pub row_put : every ≡ rows ++ vars ∷ []
  pub fewer : less ≡ spare - 1
  pub made : IsMade vars old
  pub may : MayCount vars old input
  pub within : vars + length old.columns ≤ VAR_LIMIT

module _ (old : CounterState) (vars : ℕ) (input : Lit) (inputs all : List Lit) (rows every : List ℕ) (columns : List Column) (spare less : ℕ) (put : IsPut old vars input inputs all rows every columns spare less) where
  put_columns : columns_of every 0 columns ≡ longer vars (columns_of rows 0 columns)
  put_columns = ap (λ r. columns_of r 0 columns) put.row_put ∙ columns_longer rows 0 columns vars vars (omega arith) put.laid.counts

  pub put_state : counter_of all every columns less ≡ with_input old input vars
  put_state =
      ap (λ (xs : List Lit). counter_of xs every columns less) put.input_put
      ∙ ap (λ (cs : List (List ℕ)). let state : CounterState = record { inputs = inputs ++ input ∷ []; columns = cs; spare_inputs = less } in state) put_columns
      ∙ ap (λ (n : ℕ). let state : CounterState = record { inputs = inputs ++ input ∷ []; columns = longer vars (columns_of rows 0 columns); spare_inputs = n } in state) put.fewer
      ∙ ap (λ (state : CounterState). with_input state input vars) put.view

  pub grown : HasInput old input vars
  grown = inputs_grow old input vars (subst IsCounter put.view put.counter) put.made put.may.known put.may.outside

  pub put_counter : IsCounter (counter_of all every columns less)
  put_counter = subst IsCounter (sym put_state) grown.counter

  pub put_laid : IsLaidOut all every columns
  put_laid = record {
    each = omega (arith, ap length put.row_put, ap length put.input_put, length-append rows (vars ∷ []), length-append inputs (input ∷ []), put.laid.each);
    counts = all_change (λ (c : Column). c.count ≤ length rows) (λ (c : Column). c.count ≤ length every) columns (λ c low. omega (arith, low, ap length put.row_put, length-append rows (vars ∷ []))) put.laid.counts;
    small = small;
    few = put.laid.few;
  }
    where
      small : (i j : ℕ) → i < length all → j < length columns → var_of every columns i j < VAR_LIMIT
      small i j inside column =
          let place : IsPlace (counter_of all every columns less) i j = record { input = inside; column = omega (arith, column, columns_size every 0 columns) } in
          let low = (subst (IsMade (vars + length old.columns)) (sym put_state) grown.made).columns i j place in
          let within = put.within in
          omega (arith, low, within)

  pub put_room : (store : ClauseStore) → HasRoom store (2 * length old.columns) (5 * length old.columns) → HasRoom store (2 * length (counter_of all every columns less).columns) (5 * length (counter_of all every columns less).columns)
  put_room store room = subst (λ n. HasRoom store (2 * n) (5 * n)) (sym (longer_size vars old.columns) ∙ ap (λ (s : CounterState). length s.columns) (sym put_state)) room

  pub put_adds : (before after : ClauseStore) (next : ℕ) → next ≡ vars + length old.columns →
      AddsWithin before (clauses_of_input (counter_of all every columns less) (length all - 1)) (2 * length (counter_of all every columns less).columns) (5 * length (counter_of all every columns less).columns) after →
      AddsInput input old vars before (counter_of all every columns less) next after
  put_adds before after next is adds =
      let here = subst (λ (s : CounterState). AddsWithin before (clauses_of_input s (length s.inputs - 1)) (2 * length s.columns) (5 * length s.columns) after) put_state adds in
      let size = longer_size vars old.columns in
      record {
        counter = put_state;
        written = record {
          added = here.added ∙ ap (λ xs. before.clauses ++ xs) (last_input old input vars);
          clauses = let room = here.clauses in omega (arith, room, size);
          literals = let room = here.literals in omega (arith, room, size);
        };
        vars = is;
        made = subst (IsMade next) (sym put_state) (subst (λ n. IsMade n (with_input old input vars)) (sym is) grown.made);
      }

-- ---- how many columns there are

pub size_here : (old : CounterState) (inputs : List Lit) (rows : List ℕ) (columns : List Column) (spare : ℕ) → counter_of inputs rows columns spare ≡ old → length columns ≡ length old.columns
size_here old inputs rows columns spare view = sym (columns_size rows 0 columns) ∙ ap (λ (state : CounterState). length state.columns) view
