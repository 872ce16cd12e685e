-- What a counter gets with a column, and with inputs that come later: its variables and clauses, and which literals may come.
use Rattle.std.specs.Prelude.{◌≡◌, ℕ, ◌+◌, ◌*◌, ◌<◌, ◌≤◌, List, ◌++◌, length}
use Rattle.prop_core.specs.declared.lit.Lit.{Lit}
use Rattle.prop_core.specs.ClauseStore.{ClauseStore}
use Rattle.prop_core.specs.Clauses.{Clause}
use Rattle.card_counter.specs.CounterState.{CounterState, IsMade, IsOutside, with_column, with_input, with_inputs, next_clauses, input_clauses, inputs_clauses}

-- ---- room

-- There is room for `count` clauses, with `literal_count` literals in all.
pub record HasRoom (store : ClauseStore) (count literal_count : ℕ) : Type 0 where
  pub clauses : count ≤ store.spare_clauses
  pub literals : literal_count ≤ store.spare_literals

-- These clauses were added, and took no more room than for `count` clauses and `literal_count` literals.
pub record AddsWithin (old : ClauseStore) (more : List Clause) (count literal_count : ℕ) (new : ClauseStore) : Type 0 where
  pub added : new.clauses ≡ old.clauses ++ more
  pub clauses : old.spare_clauses ≤ new.spare_clauses + count
  pub literals : old.spare_literals ≤ new.spare_literals + literal_count

-- ---- a further column

-- The counter has a further column, on variables from the first on, and its clauses come behind those that were written. All variables of the counter were made.
pub record AddsColumn (old : CounterState) (first : ℕ) (written : List Clause) (new : CounterState) (next : ℕ) (all : List Clause) : Type 0 where
  pub counter : new ≡ with_column old first
  pub clauses : all ≡ written ++ next_clauses old first
  pub vars : next ≡ first + length old.inputs
  pub made : IsMade next new

-- ---- further inputs

-- The literal may become an input: its variable was made, and is none of the counter's own.
pub record MayCount (count : ℕ) (state : CounterState) (input : Lit) : Type 0 where
  pub known : input.var < count
  pub outside : IsOutside state input

-- The counter has these inputs too, on variables from the first on, and what its columns say of them comes behind the clauses that were written. All variables of the counter were made.
pub record AddsInputs (inputs : List Lit) (old : CounterState) (first : ℕ) (written : List Clause) (new : CounterState) (next : ℕ) (all : List Clause) : Type 0 where
  pub counter : new ≡ with_inputs old inputs first
  pub clauses : all ≡ written ++ inputs_clauses old inputs first
  pub vars : next ≡ first + length inputs * length old.columns
  pub made : IsMade next new

-- The same for one input, in the room that it takes.
pub record AddsInput (input : Lit) (old : CounterState) (first : ℕ) (before : ClauseStore) (new : CounterState) (next : ℕ) (after : ClauseStore) : Type 0 where
  pub counter : new ≡ with_input old input first
  pub written : AddsWithin before (input_clauses old input first) (2 * length old.columns) (5 * length old.columns) after
  pub vars : next ≡ first + length old.columns
  pub made : IsMade next new
