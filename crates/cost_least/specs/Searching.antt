-- A search by halving: what it has found when it asks, and what it needs.
use Rattle.std.specs.Prelude.{◌≡◌, ◌⊎◌, ℕ, ◌+◌, ◌<◌, Bool, List, [], ◌∷◌, ◌++◌, Option}
use Rattle.des_net.specs.Network.{Net}
use Rattle.event_costs.specs.StoredCosts.{GivesCosts}
use Rattle.event_costs.specs.declared.TheConstants.{MOST_COST}
use Rattle.sat_solve.specs.Leaving.{IsSearching, PutsFinals, LeavesBare}
use Rattle.least_faults.specs.declared.parts.Parts.{Parts}
use Rattle.log_order.specs.Log.{Log}
use Rattle.proof_ledger.specs.Book.{BookEntry, mark, axioms_of}
use Rattle.prop_core.specs.Clauses.{Clause, NegatesOnly, value_in}
use Rattle.weight_counter.specs.Weighing.{weight_true}
use Rattle.weight_counter.specs.declared.scale.Scale.{Scale}
use Rattle.weight_counter.specs.declared.weighted.Weighted.{Weighted}
use Rattle.prop_core.specs.declared.lit.Lit.{Lit}
use Rattle.run_decode.specs.Decided.{Entails}
use Rattle.sat_solve.specs.Searching.{IsAnswer, IsPutFor}
use Rattle.sat_solve.specs.declared.answer.Answer.{Answer}
use Rattle.cost_least.specs.Asking.{RulesOut}
use Rattle.cost_least.specs.Answers.{CostAsked, PoseCostQuestion, IsCheapFound, HasConflictOf, IsCostAnswered, IsCostLeftOpen, NegatesCost}
use Rattle.cost_least.specs.Weighed.{IsOneElsewhere, AreWeighed, AreWeighedParts, AreWeightedInputs, KeepsCode}
use Rattle.answers.specs.declared.cheap.Cheap.{Cheap}

-- a total of at most b can be asked for: there is something to weigh, and b is an amount of the scale
pub record MayBound (scale : Scale) (b : ℕ) : Type 0 where
  pub some : 0 < scale.inputs
  pub few : b < scale.amounts

-- what is asked about, by the parts
abbrev pub asked_of : {R : Type 0} → Net → (ℕ → ℕ) → Log → Parts R → CostAsked
asked_of net cost log parts = record { net = net; cost = cost; log = log; steps = parts.step.steps }

-- The parts have the scale of some costs that a stored closure answers.
pub record AreAsked {R C : Type 0} (may : R → ℕ → Type 0) (gives : R → ℕ → ℕ → Type 0) (answers : C → ℕ → ℕ → Type 0) (stored : C) (net : Net) (parts : Parts R) (scale : Scale) (book : List BookEntry) : Type 0 where
  pub cost : ℕ → ℕ
  pub answered : GivesCosts answers stored net cost
  pub others : IsOneElsewhere net cost
  pub weighed : AreWeighed may gives cost parts scale book

-- with whatever costs the parts have the scale, they have it still
abbrev pub StayWeighed : {R : Type 0} → (R → ℕ → Type 0) → (R → ℕ → ℕ → Type 0) → Parts R → Parts R → Scale → List BookEntry → List BookEntry → Type 0
StayWeighed may gives old new scale old_book new_book = (cost : ℕ → ℕ) → AreWeighed may gives cost old scale old_book → AreWeighed may gives cost new scale new_book

-- A search goes on: the parts keep their code and their scale. No marks were put, and as many learnt entries as were paid for, each of them fresh.
pub record GoesOnWeighed {R : Type 0} (may : R → ℕ → Type 0) (gives : R → ℕ → ℕ → Type 0) (old new : Parts R) (scale : Scale) (old_book new_book : List BookEntry) (left_old left_new : ℕ) : Type 0 where
  pub still : StayWeighed may gives old new scale old_book new_book
  pub kept : KeepsCode old new
  pub searching : IsSearching old_book new_book left_old left_new

-- The solver was asked under what is assumed, and put and says this.
pub record IsSolvedUnder (assumed : List Lit) (values : List Bool) (old new : List BookEntry) (left_old left_new : ℕ) (answer : Answer) : Type 0 where
  pub searching : IsSearching old new left_old left_new
  pub put : IsPutFor answer searching.since
  pub says : IsAnswer values new assumed left_new answer

-- it is what the true inputs weigh, whatever inputs the parts have with these costs
abbrev pub IsTotalOf : {R : Type 0} → (ℕ → ℕ) → Parts R → ℕ → Type 0
IsTotalOf cost parts total = (inputs : List Weighted) → AreWeightedInputs parts.step parts.code.coded cost inputs → total ≡ weight_true (value_in parts.solver.assignment) inputs

-- The entries that were put show what was found, and no more clauses were learnt than the budget says, each of them fresh. Each final entry negates what is assumed for some total, or without one, and there is at most one for each total.
pub record HasFoundCost (q : CostAsked) (budget : ℕ) (old new : List BookEntry) (answer : Cheap) : Type 0 where
  pub put : LeavesBare (NegatesCost q (axioms_of new)) (1 + MOST_COST) budget old new
  pub found : IsCheapFound q (axioms_of new) put.since budget answer
  pub conflict : HasConflictOf q new answer

-- By some costs that the stored closure answers, which are what it answers on each fault event, the answer means this. The axioms of the book are those of the question and of a scale that weighs its faults with these costs.
pub record HasAnsweredCosts {R C : Type 0} (answers : C → ℕ → ℕ → Type 0) (stored : C) (net : Net) (log : Log) (parts : Parts R) (budget : ℕ) (old new : List BookEntry) (cheap : Cheap) : Type 0 where
  pub cost : ℕ → ℕ
  pub answered : GivesCosts answers stored net cost
  pub others : IsOneElsewhere net cost
  pub means : IsCostAnswered (asked_of net cost log parts) budget old new cheap
  pub scale : Scale
  pub weighed : AreWeighedParts cost parts.step parts.code.coded parts.counter parts.vars (axioms_of new) scale

-- ---- what a refutation decides

-- If axioms tell what explains within a bound, a clause of negated assumptions that they entail rules that out: nothing explains, or all that does has a greater total.
abbrev pub CostsAreRuledOut : Type 0
CostsAreRuledOut = (q : CostAsked) (bound : Option ℕ) (axioms : List Clause) (assumed : List Lit) (clause : Clause) → PoseCostQuestion q bound axioms assumed → Entails axioms clause → NegatesOnly assumed clause → RulesOut q bound

-- ---- without an answer

-- A search ended without one: each final entry that it put negates what is assumed for some total, and there is at most one for each.
abbrev pub HasRefusedCosts : CostAsked → List BookEntry → List BookEntry → Type 0
HasRefusedCosts q old new = PutsFinals (NegatesCost q (axioms_of new)) (1 + MOST_COST) old new

-- By some costs that the stored closure answers the question is left open, behind the clauses of a scale that weighs its faults with these costs.
pub record IsLeftWeighed {R C : Type 0} (answers : C → ℕ → ℕ → Type 0) (stored : C) (net : Net) (log : Log) (parts : Parts R) (budget : ℕ) (old new : List BookEntry) : Type 0 where
  pub cost : ℕ → ℕ
  pub answered : GivesCosts answers stored net cost
  pub others : IsOneElsewhere net cost
  pub unanswered : IsCostLeftOpen (asked_of net cost log parts) budget old new
  pub scale : Scale
  pub weighed : AreWeighedParts cost parts.step parts.code.coded parts.counter parts.vars (axioms_of new) scale

-- Out of memory the book is as it was, or got the opening mark and nothing behind it, or the question is left open behind its scale.
abbrev pub LeavesUnpriced : {R C : Type 0} → (C → ℕ → ℕ → Type 0) → C → Net → Log → Parts R → ℕ → List BookEntry → List BookEntry → Type 0
LeavesUnpriced answers stored net log parts budget old new = (new ≡ old) ⊎ ((new ≡ old ++ mark 0 ∷ []) ⊎ IsLeftWeighed answers stored net log parts budget old new)
