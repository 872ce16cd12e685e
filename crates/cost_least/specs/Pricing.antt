-- A question with a counter of costs beside it tells what explains within a bound on the total, and is drawn from the families of both.
use Rattle.std.specs.Prelude.{◌≡◌, ℕ, suc, ◌+◌, ◌-◌, ◌<◌, ◌≤◌, true, Bool, List, [], ◌∷◌, ◌++◌, length, map, flat_map, Option, Some, None, if◌then◌else◌, sum_by}
use Rattle.std.specs.List.{AllZip}
use Rattle.card_counter.specs.CounterState.{negative}
use Rattle.des_base.specs.Lists.{numbers_below}
use Rattle.des_net.specs.Network.{Net, IsNetwork}
use Rattle.des_net.specs.Width.{joined}
use Rattle.event_costs.specs.declared.TheConstants.{MOST_COST}
use Rattle.question_clauses.specs.LogClauses.{doubtful_alarms}
use Rattle.question_clauses.specs.LogLaws.{HasFalse}
use Rattle.log_order.specs.Log.{Log, IsValidLog}
use Rattle.prop_core.specs.Clauses.{Clause}
use Rattle.prop_core.specs.FurtherNames.{AreDrawnBy}
use Rattle.prop_core.specs.VariableNames.{Meaning, happens, dropped, meaning_of}
use Rattle.prop_core.specs.declared.lit.Lit.{Lit}
use Rattle.replay.specs.Explanation.{Entry, Explains}
use Rattle.question_clauses.specs.Steps.{AreSteps}
use Rattle.run_decode.specs.Question.{Asks}
use Rattle.run_decode.specs.Tells.{Property, Tells, AreBoth}
use Rattle.step_encode.specs.FaultInputs.{fault_events}
use Rattle.weight_counter.specs.Scales.{place_variable}
use Rattle.weight_counter.specs.Weighing.{AreWeightClauses}
use Rattle.weight_counter.specs.declared.scale.Scale.{Scale}
use Rattle.weight_counter.specs.declared.weighted.Weighted.{Weighted}
use Rattle.cost_least.specs.Costs.{total}
use Rattle.cost_least.specs.Drawn.{CostMeaning, IsCostClause, cost_literals}

-- what explains the log with a total of at most b; None sets no bound
abbrev pub ExplainsAt : Net → (ℕ → ℕ) → Log → ℕ → Option ℕ → Property
ExplainsAt net cost log n None word order = Explains net log n word order
ExplainsAt net cost log n (Some b) word order = Explains net log n word order × (total net cost word order ≤ b)

-- ---- the inputs

-- the meanings of the counter's inputs, each with what it weighs: that a fault event happens in a step, its cost, and that a doubtful alarm is false, 1
abbrev pub named_weights : Net → (ℕ → ℕ) → Log → ℕ → List (Meaning × ℕ)
named_weights net cost log n = flat_map (λ e. map (λ t. (happens e (suc t), cost e)) (numbers_below n)) (fault_events net) ++ map (λ i. (dropped i, 1)) (doubtful_alarms log)

-- what a meaning weighs: where it is true, its weight
abbrev pub weight_by : (Meaning → Bool) → Meaning × ℕ → ℕ
weight_by value x = if value x.0 then x.1 else 0

-- what the true meanings weigh together
abbrev pub weight_named : (Meaning → Bool) → List (Meaning × ℕ) → ℕ
weight_named value named = sum_by (weight_by value) named

-- The events of the steps, each step in whatever order, with an order of alarms cost what the true meanings weigh.
abbrev pub CostsAreWeights : Type 0
CostsAreWeights = (net : Net) (cost : ℕ → ℕ) (log : Log) (n : ℕ) (value : Meaning → Bool) (pieces : List (List ℕ)) (order : List Entry) → AreSteps net n value pieces → HasFalse log value order →
    total net cost (joined pieces) order ≡ weight_named value (named_weights net cost log n)

-- the input is the variable of this meaning, with this weight
pub record IsInput (meanings : List (ℕ × Meaning)) (x : Weighted) (named : Meaning × ℕ) : Type 0 where
  pub positive : x.input.positive ≡ true
  pub called : meaning_of meanings x.input.var ≡ Some named.0
  pub weight : x.weight ≡ named.1

-- ---- the question

-- Clauses of a question without a bound, and clauses that weigh its inputs on variables that have no meaning in it, in whatever order.
pub record AsksCosts (net : Net) (cost : ℕ → ℕ) (log : Log) (n : ℕ) (meanings : List (ℕ × Meaning)) (scale : Scale) (whole : List Clause) (assumed : List Lit) : Type 0 where
  pub clauses : List Clause
  pub asks : Asks net log n None meanings clauses assumed
  pub inputs : List Weighted
  pub input_names : AllZip (IsInput meanings) inputs (named_weights net cost log n)
  pub counted : scale.inputs ≡ length inputs
  pub amounts : scale.amounts ≡ 1 + MOST_COST
  pub nameless : (var : ℕ) → scale.first ≤ var → meaning_of meanings var ≡ None
  pub weighing : List Clause
  pub weights : AreWeightClauses (place_variable scale) inputs scale.amounts weighing
  pub both : AreBoth whole clauses weighing

-- the assumption that the total is at most b
abbrev pub cost_limit : Scale → Option ℕ → List Lit
cost_limit scale None = []
cost_limit scale (Some b) = negative (place_variable scale (scale.inputs - 1) b) ∷ []

-- Clauses and assumptions pose the question what explains the log with a total of at most the bound: they tell it, and by some meanings each clause is one of a question or of the counter that weighs its faults by what they cost, and what is assumed are, as a set, the guards and that the faults weigh no more than the bound.
pub record PosesCosts (net : Net) (cost : ℕ → ℕ) (log : Log) (n : ℕ) (bound : Option ℕ) (clauses : List Clause) (assumed : List Lit) : Type 0 where
  pub tells : Tells clauses assumed (ExplainsAt net cost log n bound)
  pub meanings : List (ℕ × CostMeaning)
  pub drawn : AreDrawnBy meanings clauses assumed (IsCostClause net log n (named_weights net cost log n) (1 + MOST_COST)) (cost_literals net log (length (named_weights net cost log n)) bound)

-- they ask what explains, and, where the scale has an input, what explains with a total of at most b
pub record TellsCosts (net : Net) (cost : ℕ → ℕ) (log : Log) (n : ℕ) (scale : Scale) (whole : List Clause) (assumed : List Lit) : Type 0 where
  pub unbounded : PosesCosts net cost log n None whole (assumed ++ cost_limit scale None)
  pub bounded : (b : ℕ) → b < scale.amounts → 0 < scale.inputs → PosesCosts net cost log n (Some b) whole (assumed ++ cost_limit scale (Some b))

-- A question with a counter of costs asks this.
abbrev pub CostsAreTold : Type 0
CostsAreTold = (net : Net) (cost : ℕ → ℕ) (log : Log) (n : ℕ) (meanings : List (ℕ × Meaning)) (scale : Scale) (whole : List Clause) (assumed : List Lit) →
    IsNetwork net → IsValidLog log → AsksCosts net cost log n meanings scale whole assumed → TellsCosts net cost log n scale whole assumed
