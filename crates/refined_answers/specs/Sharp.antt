-- A component that follows another tells exactly whether that one is in the set, if this depends on nothing but whether it was.
use Rattle.std.specs.Prelude.{◌≡◌, ℕ, ◌<◌, Bool, List, length, slice_index_or}
use Rattle.des_net.specs.Network.{Net}
use Rattle.des_net.specs.Run.{IsStart, Leads}
use Rattle.refinement.specs.Refinement.{CanGo, CanStart, Follows, IsRefinementOf, told}

-- Component c starts always in the set or never, and whether it is in the set after an event follows from whether it was.
pub record IsSharp (net : Net) (members : ℕ → Bool) (c : ℕ) : Type 0 where
  pub starts : (q r : ℕ) → CanStart net c q → CanStart net c r → members q ≡ members r
  pub goes : (e q r s t : ℕ) → members q ≡ members s → CanGo net c e q r → CanGo net c e s t → members r ≡ members t

-- After each run the component that follows is in "yes" exactly if the other one is in the set.
abbrev pub SharpFollowersTell : Type 0
SharpFollowersTell = (net fine : Net) (members : ℕ → Bool) (c d : ℕ) → IsRefinementOf fine net → c < length net.components → d < length fine.components → Follows net fine members c d → IsSharp net members c →
    (before word after : List ℕ) → IsStart fine before → Leads fine before word after → slice_index_or after d 0 ≡ told (members (slice_index_or after c 0))
