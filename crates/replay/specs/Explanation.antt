-- What explains an alarm log, and the least number of faults (Sampath et al., "Diagnosability of discrete-event systems", 1995; Grastien et al., "Diagnosis of discrete-event systems using satisfiability algorithms", 2007).
use Rattle.std.specs.Prelude.{◌≡◌, ℕ, ◌+◌, ◌<◌, ◌≤◌, Bool, false, not, ◌||◌, List, length, Contains, map, filter, count_by, is_some, IsSomeAnd, IsTrue, bytes_eq}
use Rattle.std.specs.List.{AllByRecursion, AllZip, list_any}
use Rattle.std.specs.Option.{option_map_or}
use Rattle.des_base.specs.declared.TheConstants.{MOST_COLUMNS}
use Rattle.des_net.specs.Network.{Net, label_of}
use Rattle.des_net.specs.Run.{IsRun, fault_count}
use Rattle.des_net.specs.Width.{Fits}
use Rattle.log_order.specs.Log.{Log, ListsOnce, Keeps, labels_of, is_doubtful}
use Rattle.replay.specs.declared.TheConstants.{MOST_FAULTS}

-- the events of a word that can be seen, in order
abbrev pub observables : Net → List ℕ → List ℕ
observables net word = filter (λ e. is_some (label_of net e)) word

-- the event can be seen, and its label is among those of the alarm
abbrev pub Shows : Net → Log → ℕ → ℕ → Type 0
Shows net log e alarm = IsSomeAnd (label_of net e) (Contains (labels_of log alarm))

-- the alarm may have this label, by a test
abbrev pub has_label : Log → ℕ → List ℕ → Bool
has_label log alarm label = list_any (bytes_eq label) (labels_of log alarm)

-- event e can be seen, and its label is one of these
abbrev pub has_any_label : Net → List (List ℕ) → ℕ → Bool
has_any_label net labels e = option_map_or (λ label. list_any (bytes_eq label) labels) (label_of net e) false

-- event e shows the alarm, by a test: it can be seen, and the alarm may have its label
abbrev pub is_matching : Net → Log → ℕ → ℕ → Bool
is_matching net log e alarm = has_any_label net (labels_of log alarm) e

-- an alarm in its place, and whether it is true: a false one stands for no event
pub record Entry : Type 0 where
  pub alarm : ℕ
  pub real : Bool

-- the alarms in their order
abbrev pub alarms_of : List Entry → List ℕ
alarms_of order = map (λ entry. entry.alarm) order

-- the true ones among them
abbrev pub real_alarms : List Entry → List ℕ
real_alarms order = alarms_of (filter (λ entry. entry.real) order)

-- how many are false
abbrev pub false_count : List Entry → ℕ
false_count order = count_by (λ entry. not entry.real) order

-- an entry may stand where its alarm is true, or doubtful in the log
abbrev pub may_stand : Log → Entry → Bool
may_stand log entry = entry.real || is_doubtful log entry.alarm

-- The order has each alarm once, and a false one is doubtful. The true ones are as many as the events of the word that can be seen, and each of these shows the alarm at its place. The first alarm of each pair, true or false, stands before the second.
pub record Linearises (net : Net) (log : Log) (word : List ℕ) (order : List Entry) : Type 0 where
  pub complete : ListsOnce (length log.alarms) (alarms_of order)
  pub doubted : AllByRecursion (λ entry. IsTrue (may_stand log entry)) order
  pub shown : AllZip (Shows net log) (observables net word) (real_alarms order)
  pub kept : Keeps (alarms_of order) log.pairs

-- a run of n pieces whose events that can be seen are, in this order, all true alarms
pub record Explains (net : Net) (log : Log) (n : ℕ) (word : List ℕ) (order : List Entry) : Type 0 where
  pub run : IsRun net word
  pub fits : Fits net word n
  pub linear : Linearises net log word order

-- the fault events of a word, by occurrence, and the false alarms, each of which is one fault
abbrev pub faults_of : Net → List ℕ → List Entry → ℕ
faults_of net word order = fault_count net word + false_count order

-- ---- answers

-- some explanation has k faults
pub record IsExplained (net : Net) (log : Log) (n k : ℕ) : Type 0 where
  pub word : List ℕ
  pub order : List Entry
  pub explains : Explains net log n word order
  pub faults : faults_of net word order ≡ k

-- each explanation has at least k faults
abbrev pub NeedsFaults : Net → Log → ℕ → ℕ → Type 0
NeedsFaults net log n k = (word : List ℕ) (order : List Entry) → Explains net log n word order → k ≤ faults_of net word order

-- k is the least number of faults of an explanation
pub record IsLeast (net : Net) (log : Log) (n k : ℕ) : Type 0 where
  pub reached : IsExplained net log n k
  pub least : NeedsFaults net log n k

-- nothing explains the log
abbrev pub IsAbsent : Net → Log → ℕ → Type 0
IsAbsent net log n = (word : List ℕ) (order : List Entry) → Explains net log n word order → ⊥

-- something explains the log, and all that does has as many faults as the counter has columns, or more
pub record IsMany (net : Net) (log : Log) (n : ℕ) : Type 0 where
  pub faults : ℕ
  pub explained : IsExplained net log n faults
  pub above : NeedsFaults net log n MOST_COLUMNS

-- ---- how the answers hang together

-- one number is least at most
abbrev pub LeastIsOne : Type 0
LeastIsOne = (net : Net) (log : Log) (n k j : ℕ) → IsLeast net log n k → IsLeast net log n j → k ≡ j

-- neither of the other answers holds: no number of faults is least, and there aren't many
pub record ExcludesOthers (net : Net) (log : Log) (n : ℕ) : Type 0 where
  pub not_least : (k : ℕ) → IsLeast net log n k → ⊥
  pub not_many : IsMany net log n → ⊥

-- where nothing explains the log, neither of the other answers holds
abbrev pub AbsentExcludes : Type 0
AbsentExcludes = (net : Net) (log : Log) (n : ℕ) → IsAbsent net log n → ExcludesOthers net log n

-- where there are many faults, a least number is above 255
abbrev pub ManyIsAbove : Type 0
ManyIsAbove = (net : Net) (log : Log) (n k : ℕ) → IsLeast net log n k → IsMany net log n → MOST_FAULTS < k
