-- The clauses of a log say what explanations are.
use Rattle.std.specs.Prelude.{◌≡◌, ◌↔◌, ℕ, suc, ◌<◌, ◌≤◌, Bool, true, false, List, length, count_by, IsTrue, Some, is_some, Contains}
use Rattle.des_base.specs.Lists.{numbers_below}
use Rattle.des_net.specs.Network.{Net, label_of}
use Rattle.des_net.specs.Width.{joined}
use Rattle.log_order.specs.Log.{Log, ListsOnce, Keeps, IsValidLog}
use Rattle.question_clauses.specs.Coded.{opened}
use Rattle.question_clauses.specs.Decoded.{arranged, whole_order, is_false_alarm, comes, alarm_at, alarm_event}
use Rattle.question_clauses.specs.LogTruth.{LogClausesHold, GuardsHold, DifferInLog, AgreeOnLog}
use Rattle.prop_core.specs.VariableNames.{Meaning, happens, matches}
use Rattle.replay.specs.Explanation.{Linearises, Entry, false_count, is_matching}
use Rattle.question_clauses.specs.Steps.{AreSteps}

-- Without the guards every truth of the events goes with the clauses of each log, all at once.
abbrev pub LogIsOpen : Type 0
LogIsOpen = (value : Meaning → Bool) →
    DifferInLog value (opened value)
    × ((net : Net) (log : Log) (n : ℕ) → LogClausesHold net log n (opened value))

-- by a truth of meanings as many doubtful alarms are false as in an order
abbrev pub HasFalse : Log → (Meaning → Bool) → List Entry → Type 0
HasFalse log value order = false_count order ≡ count_by (is_false_alarm log value) (numbers_below (length log.alarms))

-- the pieces and the order that a truth of meanings gives are its steps, and linearise the log with as many false alarms
pub record IsArranged (net : Net) (log : Log) (n : ℕ) (value : Meaning → Bool) (alarms : List ℕ) (pieces : List (List ℕ)) : Type 0 where
  pub steps : AreSteps net n value (arranged net log value alarms 0 pieces)
  pub linear : Linearises net log (joined (arranged net log value alarms 0 pieces)) (whole_order log value alarms pieces)
  pub false_alarms : HasFalse log value (whole_order log value alarms pieces)

-- If clauses and guards are true, the sets of the steps, arranged by any order of the alarms that keeps the pairs, linearise the log.
abbrev pub LogIsSound : Type 0
LogIsSound = (net : Net) (log : Log) (n : ℕ) (value : Meaning → Bool) (pieces : List (List ℕ)) (alarms : List ℕ) →
    IsValidLog log → ListsOnce (length log.alarms) alarms → Keeps alarms log.pairs →
    AreSteps net n value pieces → LogClausesHold net log n value → GuardsHold net log value → IsArranged net log n value alarms pieces

-- If the sets of the steps in some order linearise the log, the meanings of the log have a truth that makes clauses and guards true, with as many false alarms, whatever all other meanings are.
abbrev pub LogIsComplete : Type 0
LogIsComplete = (net : Net) (log : Log) (n : ℕ) (given : Meaning → Bool) (pieces : List (List ℕ)) (order : List Entry) →
    AreSteps net n given pieces → Linearises net log (joined pieces) order →
    (value : Meaning → Bool) × DifferInLog given value × LogClausesHold net log n value × GuardsHold net log value × HasFalse log value order

-- alarm i gets done in one step, or is done from the start
pub record HasOneStep (n : ℕ) (value : Meaning → Bool) (i : ℕ) : Type 0 where
  pub step : ℕ
  pub within : step ≤ n
  pub is : comes value i step ≡ true
  pub only : (t : ℕ) → t ≤ n → comes value i t ≡ true → t ≡ step

-- alarm i stands for one event in one step, in which it gets done
pub record HasOneMatch (net : Net) (log : Log) (n : ℕ) (value : Meaning → Bool) (i : ℕ) : Type 0 where
  pub event : ℕ
  pub step : ℕ
  pub within : step < n
  pub matching : IsTrue (is_matching net log event i)
  pub is : value (matches i event (suc step)) ≡ true
  pub comes_there : comes value i (suc step) ≡ true
  pub only : (e t : ℕ) → t < n → IsTrue (is_matching net log e i) → value (matches i e (suc t)) ≡ true → (e ≡ event) × (t ≡ step)

-- one alarm stands for event e in the step after t steps
pub record HasOneAlarm (net : Net) (log : Log) (value : Meaning → Bool) (e t : ℕ) : Type 0 where
  pub alarm : ℕ
  pub found : alarm_at net log value e (suc t) ≡ Some alarm
  pub matching : IsTrue (is_matching net log e alarm)
  pub is : value (matches alarm e (suc t)) ≡ true
  pub only : (i : ℕ) → IsTrue (is_matching net log e i) → value (matches i e (suc t)) ≡ true → i ≡ alarm

-- alarm i has a label of event e, stands for it in the step after t steps, and e happens there
pub record IsMatchedTo (net : Net) (log : Log) (value : Meaning → Bool) (e t i : ℕ) : Type 0 where
  pub matching : IsTrue (is_matching net log e i)
  pub is : value (matches i e (suc t)) ≡ true
  pub there : value (happens e (suc t)) ≡ true

-- Each alarm has one step. The true alarms go with the events that happen and can be seen one by one, and a false alarm with none. Pairs don't step back.
pub record AreMatched (net : Net) (log : Log) (n : ℕ) (value : Meaning → Bool) : Type 0 where
  pub steps : (i : ℕ) → i < length log.alarms → HasOneStep n value i
  pub alarms : (i : ℕ) → i < length log.alarms → is_false_alarm log value i ≡ false → HasOneMatch net log n value i
  pub real : (i e t : ℕ) → t < n → IsTrue (is_matching net log e i) → value (matches i e (suc t)) ≡ true → is_false_alarm log value i ≡ false
  pub events : (e t : ℕ) → t < n → IsTrue (is_some (label_of net e)) → value (happens e (suc t)) ≡ true → HasOneAlarm net log value e t
  pub found : (e t i : ℕ) → t < n → alarm_at net log value e (suc t) ≡ Some i → IsMatchedTo net log value e t i
  pub kept : (i j s t : ℕ) → i < length log.alarms → Contains log.pairs (i, j) → s ≤ n → t ≤ n → comes value i s ≡ true → comes value j t ≡ true → s ≤ t

-- This holds where clauses and guards are true.
abbrev pub MatchesAreExact : Type 0
MatchesAreExact = (net : Net) (log : Log) (n : ℕ) (value : Meaning → Bool) → LogClausesHold net log n value → GuardsHold net log value → AreMatched net log n value

-- The alarm of an event in a step is the one whose event it is.
abbrev pub EventsAndAlarms : Type 0
EventsAndAlarms = (net : Net) (log : Log) (n : ℕ) (value : Meaning → Bool) → LogClausesHold net log n value → GuardsHold net log value →
    (i e t : ℕ) → t < n → alarm_at net log value e (suc t) ≡ Some i ↔ alarm_event net log value t i ≡ Some e

-- The clauses of a log and its guards read no meanings but those of the log and of events.
abbrev pub OnlyLogMatters : Type 0
OnlyLogMatters = (net : Net) (log : Log) (n : ℕ) (value other : Meaning → Bool) → AgreeOnLog value other →
    (LogClausesHold net log n value → LogClausesHold net log n other) × (GuardsHold net log value → GuardsHold net log other)
