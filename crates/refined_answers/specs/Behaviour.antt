-- Two networks that behave alike: their events are the same, and so are the words that they can perform.
use Rattle.std.specs.Prelude.{◌≡◌, ◌↔◌, ℕ, List, length}
use Rattle.des_net.specs.Network.{Net, label_of, is_fault}
use Rattle.des_net.specs.Run.{IsRun, fault_count}
use Rattle.des_net.specs.Width.{AreApart, IsPiece, Fits, need}

-- They have as many events, of the same names. Each is seen by the same label, or in neither network, and is a fault in both or in neither; two of them touch a common component of the one exactly if they do of the other. And the same words are runs.
pub record BehaveAlike (net other : Net) : Type 0 where
  pub event_names : other.event_names ≡ net.event_names
  pub events : length other.events ≡ length net.events
  pub labels : (e : ℕ) → label_of other e ≡ label_of net e
  pub faults : (e : ℕ) → is_fault other e ≡ is_fault net e
  pub apart : (e f : ℕ) → AreApart other e f ↔ AreApart net e f
  pub runs : (word : List ℕ) → IsRun other word ↔ IsRun net word

-- The same events may stand in one piece, the same words fit n pieces, each word needs as many, and it has as many faults.
pub record HaveSamePieces (net other : Net) : Type 0 where
  pub pieces : (piece : List ℕ) → IsPiece other piece ↔ IsPiece net piece
  pub fits : (word : List ℕ) (n : ℕ) → Fits other word n ↔ Fits net word n
  pub needs : (word : List ℕ) → need other word ≡ need net word
  pub fault_counts : (word : List ℕ) → fault_count other word ≡ fault_count net word
