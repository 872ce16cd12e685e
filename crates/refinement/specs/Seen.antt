-- What is seen of a component by one who is told only whether it is in one of its states.
use Rattle.std.specs.Prelude.{◌≡◌, ⊤, ℕ, Bool, true, false, not, ◌&&◌, ◌==◌, ◌<◌, List, length, Option, Some, None, slice_get}
use Rattle.std.specs.List.{list_any}
use Rattle.des_net.specs.declared.parts.Trans.{Trans}
use Rattle.des_net.specs.Network.{Net, action_at, component_at, parts_of}
use Rattle.refinement.specs.declared.effect.Effect.{Effect}
use Rattle.refinement.specs.Refinement.{CanStart}

-- component c can start in the state, if it is to be inside, or else in another one
abbrev pub StartsSo : Net → ℕ → ℕ → Bool → Type 0
StartsSo net c state inside = (q : ℕ) × ((q == state) ≡ inside) × CanStart net c q

-- what is tested is as it is to be
abbrev pub is_so : Bool → Bool → Bool
is_so true test = test
is_so false test = not test

-- the transition takes the action, begins inside or outside of the state, and ends inside or outside of it
abbrev pub changes_so : ℕ → ℕ → (before after : Bool) → Trans → Bool
changes_so state action before after t = t.action == action && (is_so before (t.from == state) && is_so after (t.to == state))

-- how an action changes whether the component is in the state, over all these transitions
abbrev pub effect_of : ℕ → List Trans → ℕ → Effect
effect_of state transitions action = record {
  stays_out = list_any (changes_so state action false false) transitions;
  enters = list_any (changes_so state action false true) transitions;
  leaves = list_any (changes_so state action true false) transitions;
  stays_in = list_any (changes_so state action true true) transitions;
}

-- these are the effects of the actions of component c, by number
abbrev pub AreEffects : Net → ℕ → ℕ → List Effect → Type 0
AreEffects net c state effects = (action : ℕ) (effect : Effect) → slice_get effects action ≡ Some effect → effect ≡ effect_of state (component_at net c).transitions action

-- An event that has the first action (if any) for one component, and the second (if any) for another, does the same to both, as far as is seen: without a second action, it does nothing.
abbrev pub MovesAlike : List Effect → List Effect → Option ℕ → Option ℕ → Type 0
MovesAlike old new None None = ⊤
MovesAlike old new None (Some b) = ⊥
MovesAlike old new (Some a) None = (effect : Effect) × (slice_get old a ≡ Some effect) × (effect.enters ≡ false) × (effect.leaves ≡ false)
MovesAlike old new (Some a) (Some b) = (effect : Effect) × (slice_get old a ≡ Some effect) × (slice_get new b ≡ Some effect)

-- each event does the same to component c of the one network and component d of the other, as far as is seen by the one of c's states and by the state "yes" of d
abbrev pub MoveAlike : Net → Net → ℕ → ℕ → ℕ → Type 0
MoveAlike net fine c state d =
    (old : List Effect) × (new : List Effect) × AreEffects net c state old × AreEffects fine d 1 new
    × ((e : ℕ) → e < length net.events → MovesAlike old new (action_at (parts_of net e) c) (action_at (parts_of fine e) d))
