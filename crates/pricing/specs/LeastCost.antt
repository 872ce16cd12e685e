-- A question of costs: what is found of the least total, and what stays of it in the book.
use Rattle.std.specs.Prelude.{◌≡◌, ◌⊎◌, ◌<◌, ◌≤◌, ◌+◌, ◌*◌, ℕ, List, [], ◌∷◌, ◌++◌, length, map, Option, if◌then◌else◌}
use Rattle.cost_least.specs.Answers.{IsCostAnswered, IsCostLeftOpen}
use Rattle.cost_least.specs.Costs.{cost_size}
use Rattle.cost_least.specs.Weighed.{AreWeighedParts}
use Rattle.answers.specs.declared.cheap.Cheap.{Cheap}
use Rattle.des_base.specs.declared.TheConstants.{MOST_STEPS}
use Rattle.des_net.specs.Network.{Net, is_fault}
use Rattle.des_net.specs.QuestionSize.{fault_event_count}
use Rattle.event_costs.specs.Prices.{cost_at}
use Rattle.event_costs.specs.declared.TheConstants.{MOST_COST}
use Rattle.inquiries.specs.Begun.{unasked_book}
use Rattle.least_faults.specs.Bounds.{question_variables}
use Rattle.least_faults.specs.Parts.{IsWithinLimits}
use Rattle.least_faults.specs.declared.TheConstants.{MOST_SIZE}
use Rattle.log_order.specs.Log.{Log}
use Rattle.proof_ledger.specs.Book.{BookEntry, IsValidBook, axiomatic, axioms_of, mark}
use Rattle.replay.specs.QuestionSize.{doubtful_count}
use Rattle.run_decode.specs.Decoding.{BelongTogether}
use Rattle.run_decode.specs.QuestionAxioms.{question_axioms, question_built}
use Rattle.weight_counter.specs.declared.scale.Scale.{Scale}

-- not too many steps, and the question of costs is not too large
pub record IsWithinCosts (net : Net) (log : Log) (n : ℕ) : Type 0 where
  pub steps : n ≤ MOST_STEPS
  pub size : cost_size net log n ≤ MOST_SIZE

-- so the question itself isn't, and the table has a place for each event
pub record MayPrice (table : List (Option ℕ)) (net : Net) (log : Log) (n : ℕ) : Type 0 where
  pub limits : IsWithinLimits net log n
  pub costs : IsWithinCosts net log n
  pub long : length table ≡ length net.events

-- what fault events cost by a table; what is none counts as 1, whatever the table has there, and no total depends on it
abbrev pub fault_costs : Net → List (Option ℕ) → ℕ → ℕ
fault_costs net table e = if is_fault net e then cost_at table e else 1

-- a stored closure answers on the number of each event what a table holds for it
abbrev pub AnswersTable : {C : Type 0} → (C → ℕ → ℕ → Type 0) → C → Net → List (Option ℕ) → Type 0
AnswersTable answers stored net table = (e answer : ℕ) → e < length net.events → answers stored e answer → answer ≡ cost_at table e

-- The axioms of the book are those of the question without columns, and then the clauses of a scale over its faults, each with its cost.
pub record HasCostQuestion (net : Net) (cost : ℕ → ℕ) (log : Log) (n : ℕ) (book : List BookEntry) : Type 0 where
  pub belong : BelongTogether net log (question_built net log n 0).steps (question_built net log n 0).code
  pub of_steps : (question_built net log n 0).steps.steps ≡ n
  pub vars : ℕ
  pub scale : Scale
  pub weighed : AreWeighedParts cost (question_built net log n 0).steps (question_built net log n 0).code (question_built net log n 0).counter vars (axioms_of book) scale

-- how many variables a question of costs has at most: those of the question, with all columns of its counter, and one for each input of its scale and each of 1,001 amounts
abbrev pub cost_variables : Net → Log → ℕ → ℕ
cost_variables net log n = question_variables net log n + (n * fault_event_count net + doubtful_count log) * (1 + MOST_COST)

-- The book is valid. It has the axioms of the question first, then what weighs its faults, and then what shows the answer.
pub record IsPricedBy (net : Net) (cost : ℕ → ℕ) (log : Log) (n budget : ℕ) (book : List BookEntry) (answer : Cheap) : Type 0 where
  pub answered : IsCostAnswered (record { net = net; cost = cost; log = log; steps = n }) budget (map axiomatic (question_axioms net log n 0)) book answer
  pub question : HasCostQuestion net cost log n book
  pub valid : IsValidBook book

-- The book is valid. It has the axioms of the question first, then what weighs its faults, and then what a search put that has no answer.
pub record IsLeftUnpriced (net : Net) (cost : ℕ → ℕ) (log : Log) (n budget : ℕ) (book : List BookEntry) : Type 0 where
  pub unanswered : IsCostLeftOpen (record { net = net; cost = cost; log = log; steps = n }) budget (unasked_book net log n) book
  pub question : HasCostQuestion net cost log n book
  pub valid : IsValidBook book

-- the question stands in the book and has no answer: its axioms alone, or with the opening mark, or what a search put
abbrev pub StaysUnpriced : Net → (ℕ → ℕ) → Log → (n budget : ℕ) → List BookEntry → Type 0
StaysUnpriced net cost log n budget book = (book ≡ unasked_book net log n) ⊎ ((book ≡ unasked_book net log n ++ mark 0 ∷ []) ⊎ IsLeftUnpriced net cost log n budget book)

-- the book is empty, or the question stands in it, with an answer or without one
abbrev pub LeavesCosts : Net → (ℕ → ℕ) → Log → (n budget : ℕ) → List BookEntry → Type 0
LeavesCosts net cost log n budget book = (book ≡ []) ⊎ (StaysUnpriced net cost log n budget book ⊎ ((answer : Cheap) × IsPricedBy net cost log n budget book answer))
