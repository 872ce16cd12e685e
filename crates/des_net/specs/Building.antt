-- What each call of the builder refuses, what it adds, and what stays true of the network that is built.
use Rattle.std.specs.Prelude.{◌≡◌, ℕ, ◌≤◌, Bool, true, false, nat_le, nat_lt, ◌&&◌, ◌||◌, ◌==◌, not, List, [], ◌∷◌, ◌++◌, length, slice_get, slice_set, Option, Some, None, is_some, unwrap_or, if◌then◌else◌, sum_by, All}
use Rattle.std.specs.List.{list_all, list_any}
use Rattle.std.specs.Option.{option_map_or}
use Rattle.des_base.specs.Names.{place_of, AreNames}
use Rattle.des_net.specs.declared.parts.Part.{Part}
use Rattle.des_net.specs.declared.parts.Trans.{Trans}
use Rattle.des_net.specs.declared.refusal.BuildRefusal.{BuildRefusal}
use Rattle.des_net.specs.declared.refusal.BuildRefusal.TheVariants.{Double, Unknown, Limit}
use Rattle.des_net.specs.Limits.{most_components, most_states, most_transitions, most_events, most_parts}
use Rattle.des_net.specs.Network.{Component, Event, Net, no_component, IsTransOf}

-- ---- a component

-- a component is refused if one has its name, or if there are as many as there may be
abbrev pub component_refusal : Net → List ℕ → Option BuildRefusal
component_refusal net name =
    if is_some (place_of name net.component_names) then Some Double
    else if nat_le most_components (length net.components) then Some Limit
    else None

-- it is added last, with no states
abbrev pub with_component : Net → List ℕ → Net
with_component net name = record net { component_names = net.component_names ++ name ∷ []; components = net.components ++ no_component ∷ [] }

-- ---- what is added to one of the components

-- the component at a place is changed; if none is there, all stay
unfoldable pub change_at : ℕ → (Component → Component) → List Component → List Component
change_at place change components = option_map_or (λ c. slice_set components place (change c)) (slice_get components place) components

-- and the rest of the network stays
abbrev pub change_component : ℕ → (Component → Component) → Net → Net
change_component place change net = record net { components = change_at place change net.components }

-- ---- a state

-- a state is refused if the component has one of its name, if there is no such component, or if it has as many as it may have
unfoldable pub state_refusal : List Component → ℕ → List ℕ → Option BuildRefusal
state_refusal components comp name = option_map_or (λ c.
    if is_some (place_of name c.state_names) then Some Double
    else if nat_le most_states (length c.state_names) then Some Limit
    else None) (slice_get components comp) (Some Unknown)

-- it is added last, with its mark
abbrev pub with_state : List ℕ → Bool → Component → Component
with_state name init c = record c { state_names = c.state_names ++ name ∷ []; initial = c.initial ++ init ∷ [] }

-- how many states a component has, or none if there is no such component
unfoldable pub state_count : List Component → ℕ → ℕ
state_count components comp = option_map_or (λ c. length c.state_names) (slice_get components comp) 0

-- ---- a transition

-- an action's number: that of its name, or the next one
abbrev pub action_place : List (List ℕ) → List ℕ → ℕ
action_place actions action = unwrap_or (place_of action actions) (length actions)

-- the actions, and this one last if it is new
abbrev pub with_action : List ℕ → List (List ℕ) → List (List ℕ)
with_action action actions = if is_some (place_of action actions) then actions else actions ++ action ∷ []

-- it goes from this state by this action to that one
abbrev pub is_trans : ℕ → ℕ → ℕ → Trans → Bool
is_trans from action to t = t.from == from && t.action == action && t.to == to

-- the component has the transition
abbrev pub has_trans : Component → ℕ → List ℕ → ℕ → Bool
has_trans c from action to = option_map_or (λ a. list_any (is_trans from a to) c.transitions) (place_of action c.action_names) false

-- how many transitions the components have together
unfoldable pub trans_count : List Component → ℕ
trans_count components = sum_by (λ c. length c.transitions) components

-- a transition is refused if the component has it, if there is no such component or state, or if the network has as many as it may have
unfoldable pub trans_refusal : List Component → ℕ → ℕ → List ℕ → ℕ → Option BuildRefusal
trans_refusal components comp from action to = option_map_or (λ c.
    if has_trans c from action to then Some Double
    else if nat_lt from (length c.state_names) && nat_lt to (length c.state_names) then
    if nat_le most_transitions (trans_count components) then Some Limit else None
    else Some Unknown) (slice_get components comp) (Some Unknown)

-- it is added last, and its action too if that is new
abbrev pub with_trans : ℕ → List ℕ → ℕ → Component → Component
with_trans from action to c = record c {
  transitions = c.transitions ++ record { from = from; action = action_place c.action_names action; to = to } ∷ [];
  action_names = with_action action c.action_names;
}

-- ---- an event

-- two parts have one component
unfoldable pub repeats : List Part → Bool
repeats [] = false
repeats (p ∷ ps) = list_any (λ q. q.comp == p.comp) ps || repeats ps

-- the part's component is there, and has its action
unfoldable pub is_known : List Component → Part → Bool
is_known components p = option_map_or (λ c. nat_lt p.action (length c.action_names)) (slice_get components p.comp) false

-- an event is refused if one has its name or two parts have one component, if a component or an action isn't there, or if there are too many events or parts
unfoldable pub event_refusal : Net → List ℕ → List Part → Option BuildRefusal
event_refusal net name parts =
    if is_some (place_of name net.event_names) || repeats parts then Some Double
    else if list_all (is_known net.components) parts then
    if nat_le most_events (length net.events) || nat_lt most_parts (length parts) then Some Limit else None
    else Some Unknown

-- it is added last
abbrev pub with_event : Net → List ℕ → List Part → Option (List ℕ) → Bool → Net
with_event net name parts label fault = record net {
  event_names = net.event_names ++ name ∷ [];
  events = net.events ++ record { parts = parts; label = label; fault = fault } ∷ [];
}

-- ---- the end

-- no state is initial
abbrev pub lacks_init : Component → Bool
lacks_init c = not (list_any (λ b. b) c.initial)

-- ---- what is true of a network, also while it is built

-- each state has a name of its own and a mark, and each action a name of its own; transitions are among these, and no fewer than the actions
pub record IsDraftComponent (c : Component) : Type 0 where
  pub states : AreNames c.state_names
  pub actions : AreNames c.action_names
  pub marked : length c.initial ≡ length c.state_names
  pub few_states : length c.state_names ≤ most_states
  pub few_actions : length c.action_names ≤ length c.transitions
  pub trans : All (IsTransOf (length c.state_names) (length c.action_names)) c.transitions

-- an event has at least one part and no more than it may, of different components, which have the actions
pub record IsDraftEvent (components : List Component) (e : Event) : Type 0 where
  pub some : 1 ≤ length e.parts
  pub few : length e.parts ≤ most_parts
  pub once : repeats e.parts ≡ false
  pub known : list_all (is_known components) e.parts ≡ true

-- each event is one over these components, within its limit
pub record AreDraftEvents (components : List Component) (events : List Event) : Type 0 where
  pub each : All (IsDraftEvent components) events

-- each component is one, save that it may still lack an initial state
pub record AreDraftComponents (components : List Component) : Type 0 where
  pub each : All IsDraftComponent components

-- components and events are well in themselves, each has a name of its own, and no limit is passed
pub record IsDraft (net : Net) : Type 0 where
  pub named : length net.component_names ≡ length net.components
  pub called : length net.event_names ≡ length net.events
  pub component_names : AreNames net.component_names
  pub event_names : AreNames net.event_names
  pub few_comps : length net.components ≤ most_components
  pub few_events : length net.events ≤ most_events
  pub few_trans : trans_count net.components ≤ most_transitions
  pub events : AreDraftEvents net.components net.events
  pub components : AreDraftComponents net.components
