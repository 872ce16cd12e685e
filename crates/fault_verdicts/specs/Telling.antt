-- A question with what was made for verdicts beside it asks which explanations have the event, and which haven't.
use Rattle.std.specs.Prelude.{◌≡◌, ◌≢◌, ℕ, suc, ◌<◌, true, None, List, [], ◌∷◌, ◌++◌, length, Some, Contains}
use Rattle.card_counter.specs.CounterState.{positive}
use Rattle.des_base.specs.Lists.{EachPair}
use Rattle.std.specs.List.{AllByRecursion}
use Rattle.des_net.specs.Network.{Net, IsNetwork, is_fault}
use Rattle.fault_verdicts.specs.Asked.{IsPosedOf, without, with_event, some_step_clauses, no_step_literals}
use Rattle.log_order.specs.Log.{Log, IsValidLog}
use Rattle.prop_core.specs.Clauses.{Clause}
use Rattle.prop_core.specs.declared.grid.Grid.{Grid}
use Rattle.prop_core.specs.declared.lit.Lit.{Lit}
use Rattle.prop_core.specs.Grids.{grid_variable}
use Rattle.prop_core.specs.VariableNames.{Meaning, happens, meaning_of}
use Rattle.run_decode.specs.Question.{Asks}
use Rattle.run_decode.specs.Tells.{AreBoth}

-- by these meanings the grid's variables are those of the events in n steps
abbrev pub IsEventGrid : List (ℕ × Meaning) → Net → ℕ → Grid → Type 0
IsEventGrid meanings net n grid = (grid.steps ≡ n) × ((e t : ℕ) → e < length net.events → t < n → meaning_of meanings (grid_variable grid e (suc t)) ≡ Some (happens e (suc t)))

-- The variables that were made, each for a fault event: none stands twice, and none is of the question.
pub record AreMade (meanings : List (ℕ × Meaning)) (net : Net) (made : List (ℕ × ℕ)) : Type 0 where
  pub once : EachPair (λ a b. a.0 ≢ b.0) made
  pub new : AllByRecursion (λ entry. meaning_of meanings entry.0 ≡ None) made
  pub events : AllByRecursion (λ entry. entry.1 < length net.events) made
  pub faults : AllByRecursion (λ entry. is_fault net entry.1 ≡ true) made

-- The clauses that ask within k faults, and those of the variables that were made, in whatever order.
pub record AsksBeside (net : Net) (log : Log) (n k : ℕ) (meanings : List (ℕ × Meaning)) (grid : Grid) (made : List (ℕ × ℕ)) (whole : List Clause) (assumed : List Lit) : Type 0 where
  pub clauses : List Clause
  pub asks : Asks net log n (Some k) meanings clauses assumed
  pub gridded : IsEventGrid meanings net n grid
  pub made_new : AreMade meanings net made
  pub both : AreBoth whole clauses (some_step_clauses grid made)

-- They ask what explains without an event, and with it, by the assumptions for it.
pub record PosesEvents (net : Net) (log : Log) (n k : ℕ) (grid : Grid) (made : List (ℕ × ℕ)) (whole : List Clause) (assumed : List Lit) : Type 0 where
  pub without_event : (e : ℕ) → e < length net.events → IsPosedOf whole (assumed ++ no_step_literals grid e) net log n k e without
  pub with_event : (var e : ℕ) → Contains made (var, e) → IsPosedOf whole (assumed ++ positive var ∷ []) net log n k e (with_event var)

-- This holds for each network and valid log.
abbrev pub EventsArePosed : Type 0
EventsArePosed = (net : Net) (log : Log) (n k : ℕ) (meanings : List (ℕ × Meaning)) (grid : Grid) (made : List (ℕ × ℕ)) (whole : List Clause) (assumed : List Lit) →
    IsNetwork net → IsValidLog log → AsksBeside net log n k meanings grid made whole assumed → PosesEvents net log n k grid made whole assumed
