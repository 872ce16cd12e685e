-- What all explanations with the least number of faults say of a fault event.
use Rattle.std.specs.Prelude.{◌≡◌, ℕ, List, Contains}
use Rattle.des_net.specs.Network.{Net}
use Rattle.log_order.specs.Log.{Log}
use Rattle.replay.specs.Explanation.{Entry, Explains, IsLeast, faults_of}

-- an explanation with k faults, where no explanation has fewer; a false alarm is a fault too
pub record IsBest (net : Net) (log : Log) (n k : ℕ) (word : List ℕ) (order : List Entry) : Type 0 where
  pub least : IsLeast net log n k
  pub explains : Explains net log n word order
  pub faults : faults_of net word order ≡ k

-- each best explanation has the event
abbrev pub IsCertain : Net → Log → ℕ → ℕ → Type 0
IsCertain net log n e = (k : ℕ) (word : List ℕ) (order : List Entry) → IsBest net log n k word order → Contains word e

-- none has it
abbrev pub IsExcluded : Net → Log → ℕ → ℕ → Type 0
IsExcluded net log n e = (k : ℕ) (word : List ℕ) (order : List Entry) → IsBest net log n k word order → Contains word e → ⊥

-- some best explanation has it
pub record IsInSome (net : Net) (log : Log) (n e : ℕ) : Type 0 where
  pub k : ℕ
  pub word : List ℕ
  pub order : List Entry
  pub best : IsBest net log n k word order
  pub has : Contains word e

-- some hasn't
pub record IsNotInSome (net : Net) (log : Log) (n e : ℕ) : Type 0 where
  pub k : ℕ
  pub word : List ℕ
  pub order : List Entry
  pub best : IsBest net log n k word order
  pub without : Contains word e → ⊥

-- neither certain nor excluded, which two best explanations show
pub record IsPossible (net : Net) (log : Log) (n e : ℕ) : Type 0 where
  pub somewhere : IsInSome net log n e
  pub not_everywhere : IsNotInSome net log n e

-- ---- how the verdicts hang together

-- Where there is a best explanation, at most one of the three holds.
pub record AreApartVerdicts (net : Net) (log : Log) (n e : ℕ) : Type 0 where
  pub possible_not_certain : IsPossible net log n e → IsCertain net log n e → ⊥
  pub possible_not_excluded : IsPossible net log n e → IsExcluded net log n e → ⊥
  pub certain_not_excluded : (k : ℕ) (word : List ℕ) (order : List Entry) → IsBest net log n k word order → IsCertain net log n e → IsExcluded net log n e → ⊥

-- This holds for each event.
abbrev pub VerdictsAreApart : Type 0
VerdictsAreApart = (net : Net) (log : Log) (n e : ℕ) → AreApartVerdicts net log n e
