-- One question of costs: what it leaves in the book, and what its answer means.
use Rattle.std.specs.Prelude.{◌≡◌, ℕ, suc, ◌<◌, List, Option, Some, None, ⊤}
use Rattle.sat_solve.specs.Leaving.{IsSearching}
use Rattle.log_encode.specs.CodedLog.{CodedLog}
use Rattle.proof_ledger.specs.Book.{BookEntry, clauses_of}
use Rattle.prop_core.specs.Clauses.{NegatesOnly}
use Rattle.prop_core.specs.Trail.{Clashes}
use Rattle.prop_core.specs.declared.lit.Lit.{Lit}
use Rattle.replay.specs.Explanation.{IsAbsent}
use Rattle.run_decode.specs.Faithful.{IsWithin}
use Rattle.sat_solve.specs.Searching.{AreLearnt, IsClosedByFinal}
use Rattle.weight_counter.specs.declared.scale.Scale.{Scale}
use Rattle.cost_least.specs.Answers.{CostAsked, IsPriced, Needs}
use Rattle.cost_least.specs.Weighed.{assumed_at}
use Rattle.answers.specs.declared.cheap.Priced.{Priced}
use Rattle.cost_least.specs.declared.asking.CostAnswer.{CostAnswer}
use Rattle.cost_least.specs.declared.asking.CostAnswer.TheVariants.{Explained, Refuted, Spent}

-- without a bound nothing explains the log; with one all that does has a greater total
abbrev pub RulesOut : CostAsked → Option ℕ → Type 0
RulesOut q None = IsAbsent q.net q.log q.steps
RulesOut q (Some b) = Needs q (suc b)

-- where a run is given, it is one that explains, with its total
abbrev pub IsGiven : CostAsked → CostAnswer → Type 0
IsGiven q (Explained priced) = IsPriced q priced
IsGiven q Refuted = ⊤
IsGiven q Spent = ⊤

-- a run that explains the log within the bound, whose costs are inputs of the scale
pub record IsFoundWithin (q : CostAsked) (scale : Scale) (bound : Option ℕ) (since : List BookEntry) (priced : Priced) : Type 0 where
  pub given : IsPriced q priced
  pub within : IsWithin bound priced.cost
  pub counted : 0 < priced.cost → 0 < scale.inputs
  pub learnt : AreLearnt since

-- what was asked for is ruled out, by a final entry of negated assumptions behind learnt ones
pub record IsRuledOut (q : CostAsked) (bound : Option ℕ) (assumed : List Lit) (since : List BookEntry) : Type 0 where
  pub out : RulesOut q bound
  pub ends : IsClosedByFinal since
  pub negates : NegatesOnly assumed ends.clause

-- nothing is left at a further conflict
pub record HasNothingLeft (assumed : List Lit) (since book : List BookEntry) (budget : ℕ) : Type 0 where
  pub nothing : budget ≡ 0
  pub clashes : Clashes (clauses_of book) assumed
  pub learnt : AreLearnt since

-- what an answer means
abbrev pub IsTrueCostAnswer : CostAsked → Scale → Option ℕ → List Lit → List BookEntry → List BookEntry → ℕ → CostAnswer → Type 0
IsTrueCostAnswer q scale bound assumed since book budget (Explained priced) = IsFoundWithin q scale bound since priced
IsTrueCostAnswer q scale bound assumed since book budget Refuted = IsRuledOut q bound assumed since
IsTrueCostAnswer q scale bound assumed since book budget Spent = HasNothingLeft assumed since book budget

-- Derived entries alone were put, each learnt clause was paid for and fresh, and the answer means this.
pub record HasAskedCost (q : CostAsked) (code : CodedLog) (scale : Scale) (bound : Option ℕ) (old new : List BookEntry) (budget_old budget_new : ℕ) (asked : CostAnswer) : Type 0 where
  pub searching : IsSearching old new budget_old budget_new
  pub means : IsTrueCostAnswer q scale bound (assumed_at code scale bound) searching.since new budget_new asked
