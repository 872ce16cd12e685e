-- The least total cost of an explanation, where each fault event has a cost, and a false alarm costs 1.
use Rattle.std.specs.Prelude.{◌≡◌, ℕ, ◌+◌, ◌*◌, ◌≤◌, List, sum_by, if◌then◌else◌}
use Rattle.des_net.specs.Network.{Net, is_fault}
use Rattle.des_net.specs.QuestionSize.{fault_event_count}
use Rattle.log_order.specs.Log.{Log}
use Rattle.replay.specs.Explanation.{Entry, Explains, false_count}
use Rattle.replay.specs.QuestionSize.{doubtful_count, question_size}
use Rattle.event_costs.specs.declared.TheConstants.{MOST_COST}

-- what an event costs where it happens: nothing where it isn't a fault
abbrev pub event_cost : Net → (ℕ → ℕ) → ℕ → ℕ
event_cost net cost e = if is_fault net e then cost e else 0

-- what the places of a word cost together
abbrev pub word_cost : Net → (ℕ → ℕ) → List ℕ → ℕ
word_cost net cost word = sum_by (event_cost net cost) word

-- what a word costs with an order of the alarms: each fault event its cost, at each of its places, and each false alarm 1
abbrev pub total : Net → (ℕ → ℕ) → List ℕ → List Entry → ℕ
total net cost word order = word_cost net cost word + false_count order

-- some explanation has total c
pub record IsExplainedAt (net : Net) (cost : ℕ → ℕ) (log : Log) (n c : ℕ) : Type 0 where
  pub word : List ℕ
  pub order : List Entry
  pub explains : Explains net log n word order
  pub total_is : total net cost word order ≡ c

-- each explanation has a total of at least c
abbrev pub NeedsCost : Net → (ℕ → ℕ) → Log → ℕ → ℕ → Type 0
NeedsCost net cost log n c = (word : List ℕ) (order : List Entry) → Explains net log n word order → c ≤ total net cost word order

-- c is the least total of an explanation
pub record IsCheapest (net : Net) (cost : ℕ → ℕ) (log : Log) (n c : ℕ) : Type 0 where
  pub reached : IsExplainedAt net cost log n c
  pub least : NeedsCost net cost log n c

-- something explains the log, and all that does has a total above the greatest that is asked for
pub record IsDear (net : Net) (cost : ℕ → ℕ) (log : Log) (n : ℕ) : Type 0 where
  pub total : ℕ
  pub explained : IsExplainedAt net cost log n total
  pub above : NeedsCost net cost log n (1 + MOST_COST)

-- how large a question of costs is: that of the question, and for each input of the counter of costs the greatest total
abbrev pub cost_size : Net → Log → ℕ → ℕ
cost_size net log n = question_size net log n + MOST_COST * (n * fault_event_count net + doubtful_count log)
