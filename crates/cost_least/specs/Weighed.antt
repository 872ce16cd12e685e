-- The parts of a question with a scale beside them that weighs its faults, as they stand beside their book.
use Rattle.std.specs.Prelude.{◌≡◌, ℕ, ◌+◌, ◌*◌, ◌<◌, ◌≤◌, true, false, List, ◌++◌, map, filter, flat_map, length, Option}
use Rattle.card_counter.specs.CounterState.{CounterState}
use Rattle.des_base.specs.Lists.{numbers_below}
use Rattle.des_net.specs.Network.{Net, IsNetwork, is_fault}
use Rattle.event_costs.specs.StoredCosts.{GivesCosts}
use Rattle.event_costs.specs.declared.TheConstants.{MOST_COST}
use Rattle.least_faults.specs.Parts.{AreParts}
use Rattle.least_faults.specs.declared.parts.Parts.{Parts}
use Rattle.question_clauses.specs.LogClauses.{guard_literals}
use Rattle.log_encode.specs.CodedLog.{CodedLog, read_meanings, log_guards}
use Rattle.log_order.specs.Log.{Log, IsValidLog}
use Rattle.prop_core.specs.VariableNames.{ReadsAs}
use Rattle.proof_ledger.specs.Book.{BookEntry, axioms_of, clauses_of}
use Rattle.prop_core.specs.Clauses.{Clause}
use Rattle.prop_core.specs.declared.grid.Grid.{Grid}
use Rattle.prop_core.specs.declared.lit.Lit.{Lit}
use Rattle.run_decode.specs.RunNaming.{AreFalseLiterals}
use Rattle.sat_order.specs.Rank.{IsRanked}
use Rattle.sat_solve.specs.Searching.{HasAxiomVars}
use Rattle.step_encode.specs.Coded.{CodedSteps, code_grid}
use Rattle.step_encode.specs.FaultInputs.{event_literal, fault_events}
use Rattle.weight_counter.specs.Scales.{IsWithinVars, place_variable, scale_clauses}
use Rattle.weight_counter.specs.declared.scale.Scale.{Scale}
use Rattle.weight_counter.specs.declared.weighted.Weighted.{Weighted}
use Rattle.cost_least.specs.Pricing.{cost_limit, TellsCosts}

-- ---- the inputs

-- event e in each step, with this weight
abbrev pub event_weights : Grid → ℕ → ℕ → List Weighted
event_weights grid weight e = map (λ t. record { input = event_literal grid e t; weight = weight }) (numbers_below grid.steps)

-- the fault events in all steps, each with its cost
abbrev pub fault_weights : Net → Grid → (ℕ → ℕ) → List Weighted
fault_weights net grid cost = flat_map (λ e. event_weights grid (cost e) e) (fault_events net)

-- a literal that weighs 1
abbrev pub weighs_one : Lit → Weighted
weighs_one l = record { input = l; weight = 1 }

-- the faults of the steps, each with its cost, and then that alarms of the log are false
pub record AreWeightedInputs (steps : CodedSteps) (code : CodedLog) (cost : ℕ → ℕ) (inputs : List Weighted) : Type 0 where
  pub false_lits : List Lit
  pub whole : inputs ≡ fault_weights steps.net (code_grid steps) cost ++ map weighs_one false_lits
  pub read : AreFalseLiterals code false_lits

-- what is no fault event costs 1 by it, so that there is one such function for what a closure answers on the fault events
abbrev pub IsOneElsewhere : Net → (ℕ → ℕ) → Type 0
IsOneElsewhere net cost = (e : ℕ) → is_fault net e ≡ false → cost e ≡ 1

-- The inputs are those with some costs that a stored closure answers.
pub record HasInputs {C : Type 0} (answers : C → ℕ → ℕ → Type 0) (stored : C) (net : Net) (steps : CodedSteps) (code : CodedLog) (inputs : List Weighted) : Type 0 where
  pub cost : ℕ → ℕ
  pub answered : GivesCosts answers stored net cost
  pub others : IsOneElsewhere net cost
  pub weighted : AreWeightedInputs steps code cost inputs

-- Fault events below a number were put, each in all steps, with costs that a stored closure answers.
pub record HasPushed {C : Type 0} (answers : C → ℕ → ℕ → Type 0) (stored : C) (net : Net) (grid : Grid) (number : ℕ) (old new : List Weighted) : Type 0 where
  pub cost : ℕ → ℕ
  pub answered : (e : ℕ) → e < number → is_fault net e ≡ true → answers stored e (cost e)
  pub others : IsOneElsewhere net cost
  pub whole : new ≡ old ++ flat_map (λ e. event_weights grid (cost e) e) (filter (is_fault net) (numbers_below number))

-- ---- the parts

-- Steps, log and counter are parts of a question, with the first variables and axioms; behind these stand the variables and clauses of a scale of 1,001 amounts, over the faults of the question, each with its cost.
pub record AreWeighedParts (cost : ℕ → ℕ) (steps : CodedSteps) (code : CodedLog) (counter : CounterState) (vars : ℕ) (axioms : List Clause) (scale : Scale) : Type 0 where
  pub own : List Clause
  pub coded : AreParts steps code counter scale.first own
  pub inputs : List Weighted
  pub weighted : AreWeightedInputs steps code cost inputs
  pub counted : scale.inputs ≡ length inputs
  pub amounts : scale.amounts ≡ 1 + MOST_COST
  pub vars_are : vars ≡ scale.first + scale.inputs * scale.amounts
  pub within : IsWithinVars scale
  pub whole : axioms ≡ own ++ scale_clauses (place_variable scale) scale.amounts inputs

-- So they are with a book: its axioms are those, in which all variables of its clauses occur, the solver has adopted all its clauses, and has their variables at least. The stored ranks are what was answered.
pub record AreWeighed {R : Type 0} (may : R → ℕ → Type 0) (gives : R → ℕ → ℕ → Type 0) (cost : ℕ → ℕ) (parts : Parts R) (scale : Scale) (book : List BookEntry) : Type 0 where
  pub coded : AreWeighedParts cost parts.step parts.code.coded parts.counter parts.vars (axioms_of book) scale
  pub known : HasAxiomVars book
  pub adopted_all : parts.solver.adopted ≡ clauses_of book
  pub enough : parts.vars ≤ parts.solver.vars
  pub ranked : IsRanked may gives parts.solver.order

-- steps, log and counter stay, and what ranks the variables
pub record KeepsCode {R : Type 0} (old new : Parts R) : Type 0 where
  pub step : new.step ≡ old.step
  pub code : new.code ≡ old.code
  pub counter : new.counter ≡ old.counter
  pub rank : new.solver.order.rank ≡ old.solver.order.rank

-- ---- what is assumed

-- the guards, and the literal that the total is at most the bound
abbrev pub assumed_at : CodedLog → Scale → Option ℕ → List Lit
assumed_at code scale bound = log_guards code ++ cost_limit scale bound

-- ---- what they tell

-- Parts with a scale pose, with the guards of the log, what explains the log within each total.
abbrev pub ScaledPartsTell : Type 0
ScaledPartsTell = (cost : ℕ → ℕ) (steps : CodedSteps) (code : CodedLog) (counter : CounterState) (vars : ℕ) (axioms : List Clause) (scale : Scale) (log : Log) → AreWeighedParts cost steps code counter vars axioms scale →
    IsNetwork steps.net → IsValidLog log → code.log ≡ log → ReadsAs (read_meanings code) (log_guards code) (guard_literals code.net code.log) → TellsCosts steps.net cost log steps.steps scale axioms (log_guards code)
