-- What each status of `cheapest` tells, by the words and the bytes that the shelf holds under the names of its files.
use Rattle.std.specs.Prelude.{◌≡◌, ℕ, ◌<◌, List, [], ◌∷◌, Option, IfSome}
use Rattle.cost_least.specs.Answers.{CostAsked, HasConflictAt, IsPriced, IsRunAt}
use Rattle.cost_least.specs.Costs.{IsCheapest, IsDear, NeedsCost}
use Rattle.answers.specs.declared.cheap.Cheap.TheVariants.{Found, Dear, Undecided}
use Rattle.answers.specs.declared.cheap.Priced.{Priced}
use Rattle.des_base.specs.Outside.{Took}
use Rattle.event_costs.specs.CostText.{cost_of}
use Rattle.pricing.specs.LeastCost.{HasCostQuestion}
use Rattle.log_csv.specs.LogText.{log_of}
use Rattle.model_text.specs.ModelFaults.{network_of}
use Rattle.proof_ledger.specs.Fresh.{AreFresh}
use Rattle.replay.specs.Explanation.{IsAbsent}
use Rattle.replay.specs.declared.run.RunStep.{RunStep}
use Rattle.report.specs.Replies.{text_of_cheap}
use Rattle.diagnose_cli.specs.Commands.{cheapest as cheapest_command}
use Rattle.diagnose_cli.specs.Tasks.{one}
use Rattle.diagnose_cli.specs.Outcomes.{Outcome}
use Rattle.diagnose_cli.specs.Rows.{CallsWith, Row}

-- what is asked about the three texts: the network of the model, the costs that its fault events have, the log, and n steps
abbrev pub cost_asked : List ℕ → List ℕ → List ℕ → ℕ → CostAsked
cost_asked text alarms prices n = record { net = network_of text; cost = cost_of (network_of text) prices; log = log_of alarms; steps = n }

-- the run that is printed explains the log, and nothing that explains it has a lower total
pub record TellsCheapest (o : Outcome) (q : CostAsked) : Type 0 where
  pub priced : Priced
  pub given : IsPriced q priced
  pub cheapest : IsCheapest q.net q.cost q.log q.steps priced.cost
  pub put : Took o.before o.now (text_of_cheap q.net q.steps (Found priced) ∷ [])

-- the run that is printed explains the log, and all that explains it has a total above 1,000
pub record TellsDear (o : Outcome) (q : CostAsked) : Type 0 where
  pub run : List RunStep
  pub total : ℕ
  pub given : IsRunAt q run total
  pub dear : IsDear q.net q.cost q.log q.steps
  pub put : Took o.before o.now (text_of_cheap q.net q.steps (Dear run) ∷ [])

-- As many clauses were learnt as the budget allows, each of them fresh, and there is a further conflict: without a bound if no run is printed, and else within a total between both. All that explains the log has total lo at least, and a run that is printed explains it with more.
pub record TellsUnpriced (o : Outcome) (q : CostAsked) (budget : ℕ) : Type 0 where
  pub lo : ℕ
  pub best : Option Priced
  pub question : HasCostQuestion q.net q.cost q.log q.steps o.book
  pub spent : AreFresh [] o.book budget
  pub conflict : HasConflictAt q o.book lo best
  pub above : NeedsCost q.net q.cost q.log q.steps lo
  pub known : IfSome best (λ priced. IsPriced q priced × (lo < priced.cost))
  pub put : Took o.before o.now (text_of_cheap q.net q.steps (Undecided lo best) ∷ [])

-- By the status, over whatever three texts the shelf tells.
pub record CheapRows (o : Outcome) : Type 0 where
  pub answered : (n budget : ℕ) (text alarms prices : List ℕ) → Row o cheapest_command (record { steps = n; budget = budget }) (text ∷ alarms ∷ prices ∷ [])
  pub cheapest : (n budget : ℕ) (text alarms prices : List ℕ) → CallsWith o (one cheapest_command) (record { steps = n; budget = budget }) (text ∷ alarms ∷ prices ∷ []) → o.status ≡ 0 → TellsCheapest o (cost_asked text alarms prices n)
  pub absent : (n budget : ℕ) (text alarms prices : List ℕ) → CallsWith o (one cheapest_command) (record { steps = n; budget = budget }) (text ∷ alarms ∷ prices ∷ []) → o.status ≡ 10 → IsAbsent (network_of text) (log_of alarms) n
  pub dear : (n budget : ℕ) (text alarms prices : List ℕ) → CallsWith o (one cheapest_command) (record { steps = n; budget = budget }) (text ∷ alarms ∷ prices ∷ []) → o.status ≡ 12 → TellsDear o (cost_asked text alarms prices n)
  pub undecided : (n budget : ℕ) (text alarms prices : List ℕ) → CallsWith o (one cheapest_command) (record { steps = n; budget = budget }) (text ∷ alarms ∷ prices ∷ []) → o.status ≡ 11 → TellsUnpriced o (cost_asked text alarms prices n) budget
