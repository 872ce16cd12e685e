-- What is compared of two networks.
use Rattle.std.specs.Prelude.{◌≡◌, ℕ, ◌<◌, ◌≤◌, List, ◌++◌, length, slice_get}
use Rattle.std.specs.List.{AllByRecursion}
use Rattle.des_net.specs.declared.parts.Part.{Part}
use Rattle.des_net.specs.Network.{Net, component_at, event_at}
use Rattle.refinement.specs.Refinement.{FollowsSome, HasFurtherParts}

-- the lists have the same at each place below n
abbrev pub AgreeBelow : {X : Type 0} → ℕ → List X → List X → Type 0
AgreeBelow n xs ys = (i : ℕ) → i < n → slice_get xs i ≡ slice_get ys i

-- the components come first in the other network, as they are and under their names
pub record HasComponents (fine net : Net) : Type 0 where
  pub few : length net.components ≤ length fine.components
  pub names : AgreeBelow (length net.components) fine.component_names net.component_names
  pub same : (c : ℕ) → c < length net.components → component_at fine c ≡ component_at net c

-- the events are the same ones, with further parts
pub record HasEvents (fine net : Net) : Type 0 where
  pub count : length fine.events ≡ length net.events
  pub names : AgreeBelow (length net.events) fine.event_names net.event_names
  pub each : (e : ℕ) → e < length net.events → HasFurtherParts (length net.components) (event_at net e) (event_at fine e)

-- each component from the old ones up to number n follows an old one
abbrev pub FollowUpTo : ℕ → Net → Net → Type 0
FollowUpTo n fine net = (d : ℕ) → length net.components ≤ d → d < n → FollowsSome net fine d

-- the parts come first, and those behind them are of components from number k on
pub record HaveFurther (k : ℕ) (old fine : List Part) : Type 0 where
  pub further : List Part
  pub is : fine ≡ old ++ further
  pub new : AllByRecursion (λ part. k ≤ part.comp) further
