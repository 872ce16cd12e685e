-- What a component and a builder are seen as.
use Rattle.std.specs.Prelude.{◌≡◌, ◌||◌, ℕ, List}
use Rattle.std.specs.List.{list_any}
use Rattle.des_net.specs.Network.{Component, Net}
use Rattle.des_net.specs.Building.{IsDraft, is_trans, trans_count}
use Rattle.des_net.specs.declared.component.Comp.TheInside.{Inside as CompInside}
use Rattle.des_net.specs.declared.builder.Builder.TheInside.{Inside}
use Rattle.des_net.specs.declared.parts.Trans.{Trans}

-- a component as it is built, as the lists of its names, marks and transitions
abbrev pub component_view : CompInside → Component
component_view a = record { state_names = a.state_names; initial = a.initial.items; transitions = a.transitions.items; action_names = a.action_names }

-- the same transitions are in both lists, in whatever order
pub record HaveSameTransitions (keys transitions : List Trans) : Type 0 where
  pub found : (from action to : ℕ) → list_any (is_trans from action to) keys ≡ list_any (is_trans from action to) transitions

-- this transition is in the list now, and which others are is as it was
pub record HasOneMore (trans : Trans) (old new : List Trans) : Type 0 where
  pub found : (from action to : ℕ) → list_any (is_trans from action to) new ≡ (list_any (is_trans from action to) old || is_trans from action to trans)

-- a builder, as the network that was built so far
abbrev pub builder_view : Inside → Net
builder_view a = record { component_names = a.component_names; components = a.components.items; event_names = a.event_names; events = a.events.items }

-- the lists are a network's, and the count of its transitions is right
pub record IsBuilder (a : Inside) : Type 0 where
  pub plant : IsDraft (builder_view a)
  pub counted : a.transition_count ≡ trans_count a.components.items
