-- Alarm logs, and the orders of their alarms that keep one.
use Rattle.std.specs.Prelude.{◌≡◌, ℕ, ⊤, ◌<◌, Bool, false, ◌&&◌, ◌||◌, ◌==◌, List, [], ◌∷◌, length, Contains, ◌≢◌, slice_get, option_map, unwrap_or}
use Rattle.std.specs.List.{list_any, position_or_len, AllByRecursion}
use Rattle.des_base.specs.Lists.{EachPair}

-- an alarm, the labels that it may stand for, and whether it is doubtful: perhaps false, so that it stands for no event
pub record Alarm : Type 0 where
  pub name : List ℕ
  pub labels : List (List ℕ)
  pub doubtful : Bool

-- Alarms are numbered by their places. A pair says that its first alarm comes before its second.
pub record Log : Type 0 where
  pub alarms : List Alarm
  pub pairs : List (ℕ × ℕ)

-- An alarm of these parts. Most alarms and logs are made by this and `a_log`, so that a further field changes few definitions.
abbrev pub an_alarm : List ℕ → List (List ℕ) → Bool → Alarm
an_alarm name labels doubtful = record { name = name; labels = labels; doubtful = doubtful }

-- a log of these alarms, numbered as they stand, and these pairs
abbrev pub a_log : List Alarm → List (ℕ × ℕ) → Log
a_log alarms pairs = record { alarms = alarms; pairs = pairs }

-- the empty log: no alarms and no pairs
abbrev pub no_log : Log
no_log = a_log [] []

-- the id of alarm i, or the empty text if there is none
abbrev pub id_of : List Alarm → ℕ → List ℕ
id_of alarms i = unwrap_or (option_map (λ alarm. alarm.name) (slice_get alarms i)) []

-- the labels that alarm i may stand for
abbrev pub labels_of : Log → ℕ → List (List ℕ)
labels_of log i = unwrap_or (option_map (λ alarm. alarm.labels) (slice_get log.alarms i)) []

-- alarm i is perhaps false
abbrev pub is_doubtful : Log → ℕ → Bool
is_doubtful log i = unwrap_or (option_map (λ alarm. alarm.doubtful) (slice_get log.alarms i)) false

-- ---- orders

-- a list of the numbers below m, each once
pub record ListsOnce (m : ℕ) (order : List ℕ) : Type 0 where
  pub below : AllByRecursion (λ i. i < m) order
  pub each : (i : ℕ) → i < m → Contains order i
  pub once : EachPair (λ i j. i ≢ j) order

-- where i stands in the list first, or the length of the list if it doesn't
abbrev pub place_in : List ℕ → ℕ → ℕ
place_in order i = position_or_len (λ j. j == i) order

-- i stands before j for each pair (i, j)
abbrev pub Keeps : List ℕ → List (ℕ × ℕ) → Type 0
Keeps order pairs = AllByRecursion (λ pair. place_in order pair.0 < place_in order pair.1) pairs

-- the pairs are of numbers below m
abbrev pub AreKnown : ℕ → List (ℕ × ℕ) → Type 0
AreKnown m pairs = AllByRecursion (λ pair. (pair.0 < m) × (pair.1 < m)) pairs

-- all numbers are in range, and some order of all of them keeps every pair
pub record AreOrdered (m : ℕ) (pairs : List (ℕ × ℕ)) : Type 0 where
  pub known : AreKnown m pairs
  pub order : List ℕ
  pub complete : ListsOnce m order
  pub kept : Keeps order pairs

-- the pairs are of its alarms, and some order of all alarms, each once, keeps every pair: so they have no cycle
abbrev pub IsValidLog : Log → Type 0
IsValidLog log = AreOrdered (length log.alarms) log.pairs

-- ---- what follows what

-- the pair (i, j) is among the pairs
abbrev pub has_pair : List (ℕ × ℕ) → ℕ → ℕ → Bool
has_pair pairs i j = list_any (λ pair. pair.0 == i && pair.1 == j) pairs

-- no pair stands twice
abbrev pub StandOnce : List (ℕ × ℕ) → Type 0
StandOnce [] = ⊤
StandOnce (pair ∷ pairs) = (has_pair pairs pair.0 pair.1 ≡ false) × StandOnce pairs

-- j is i, or is reached from i by pairs, each going on where the one before it ends: without the first pair, or by it once
abbrev pub reaches : List (ℕ × ℕ) → ℕ → ℕ → Bool
reaches [] i j = i == j
reaches (pair ∷ pairs) i j = reaches pairs i j || (reaches pairs i pair.0 && reaches pairs pair.1 j)

-- the pair (i, j) closes a cycle
abbrev pub closes_cycle : List (ℕ × ℕ) → ℕ → ℕ → Bool
closes_cycle pairs i j = reaches pairs j i
