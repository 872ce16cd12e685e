-- A network that has more components, each of which follows one of the old ones: it is in "yes" while that one may be in some set of its states, and else in "no". (An abstraction of a component by a partition of its states in two: Clarke, Grumberg and Long, "Model checking and abstraction", 1994.)
use Rattle.std.specs.Prelude.{◌≡◌, ◌≤◌, ◌<◌, ◌++◌, ℕ, Bool, true, List, length, Some, slice_get, Contains, if◌then◌else◌}
use Rattle.std.specs.List.{AllByRecursion, AllZip}
use Rattle.des_net.specs.declared.parts.Part.{Part}
use Rattle.des_net.specs.Network.{Component, Event, Net, component_at, parts_of, action_at, touches}
use Rattle.des_net.specs.Run.{next_states}

-- the state of a component that follows another: "no" comes first and then "yes"
abbrev pub told : Bool → ℕ
told inside = if inside then 1 else 0

-- component c can start in this state
abbrev pub CanStart : Net → ℕ → ℕ → Type 0
CanStart net c q = slice_get (component_at net c).initial q ≡ Some true

-- when event e happens, component c can go from state q to state r; if the event doesn't touch it, it stays
abbrev pub CanGo : Net → ℕ → ℕ → ℕ → ℕ → Type 0
CanGo net c e q r = Contains (next_states (component_at net c) (action_at (parts_of net e) c) q) r

-- Component d follows a set of the states of component c. Where c can start and go, d can start and go as it tells; the other way round, d starts only so, and if an event touches d, the event touches c, and d goes only so.
pub record Follows (net fine : Net) (members : ℕ → Bool) (c d : ℕ) : Type 0 where
  pub starts : (q : ℕ) → CanStart net c q → CanStart fine d (told (members q))
  pub goes : (e q r : ℕ) → CanGo net c e q r → CanGo fine d e (told (members q)) (told (members r))
  pub beside : (e : ℕ) → touches fine e d ≡ true → touches net e c ≡ true
  pub starts_only : (s : ℕ) → CanStart fine d s → (q : ℕ) × (told (members q) ≡ s) × CanStart net c q
  pub goes_only : (e s t : ℕ) → touches fine e d ≡ true → CanGo fine d e s t → (q : ℕ) × (r : ℕ) × (told (members q) ≡ s) × (told (members r) ≡ t) × CanGo net c e q r

-- component d follows some set of states of some component of the network
pub record FollowsSome (net fine : Net) (d : ℕ) : Type 0 where
  pub members : ℕ → Bool
  pub component : ℕ
  pub known : component < length net.components
  pub follows : Follows net fine members component d

-- the event is as it was, and any further parts are of components from number k on
pub record HasFurtherParts (k : ℕ) (event fine : Event) : Type 0 where
  pub label : fine.label ≡ event.label
  pub fault : fine.fault ≡ event.fault
  pub further : List Part
  pub parts : fine.parts ≡ event.parts ++ further
  pub new : AllByRecursion (λ part. k ≤ part.comp) further

-- The components come first, as they were, and so do the names of all events. Each event is as it was, with further parts of new components; and each new component follows an old one.
pub record IsRefinementOf (fine net : Net) : Type 0 where
  pub components : (added : List Component) × (fine.components ≡ net.components ++ added)
  pub component_names : (added : List (List ℕ)) × (fine.component_names ≡ net.component_names ++ added)
  pub event_names : fine.event_names ≡ net.event_names
  pub events : AllZip (HasFurtherParts (length net.components)) net.events fine.events
  pub new : (d : ℕ) → length net.components ≤ d → d < length fine.components → FollowsSome net fine d
