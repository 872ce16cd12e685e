-- What one more line makes of the network of the lines before it: the builder's addition, where the line is accepted.
use Rattle.std.specs.Prelude.{ℕ, ◌-◌, Bool, List, ◌∷◌, map, length, option_map, option_and_then, Option, Some, None, if◌then◌else◌}
use Rattle.std.specs.List.{list_all}
use Rattle.std.specs.Option.{option_to_list}
use Rattle.des_base.specs.Names.{is_name_text, place_of}
use Rattle.des_net.specs.declared.parts.Part.{Part}
use Rattle.des_net.specs.declared.refusal.BuildRefusal.{BuildRefusal}
use Rattle.des_net.specs.Network.{Net, component_at}
use Rattle.des_net.specs.Building.{component_refusal, with_component, state_refusal, with_state, change_component, trans_refusal, with_trans, event_refusal, with_event}
use Rattle.model_text.specs.ModelLines.{ModelLine, component, state, transition, event, NamedPart, all_some}

-- the network, unless it is refused
abbrev pub unless : Option BuildRefusal → Net → Option Net
unless None net = Some net
unless (Some refusal) net = None

-- the component that was begun last
abbrev pub last_place : Net → ℕ
last_place net = length net.components - 1

-- the names of the states of the component that was begun last, or none if there is no component
abbrev pub last_states : Net → List (List ℕ)
last_states net = (component_at net (last_place net)).state_names

-- a part by numbers, where the network has its component and the component has its action
abbrev pub part_of : Net → NamedPart → Option Part
part_of net part =
    option_and_then (λ c. option_map (λ a. record { comp = c; action = a }) (place_of part.action (component_at net c).action_names))
    (place_of part.component net.component_names)

-- the parts of an event by numbers, if each of them is known
abbrev pub parts_by_name : Net → List NamedPart → Option (List Part)
parts_by_name net parts = all_some (map (part_of net) parts)

-- the network with a transition of its last component, between states at these places, if both are there and the builder accepts it
abbrev pub grown_by_transition : Net → List ℕ → Option ℕ → Option ℕ → Option Net
grown_by_transition net action None to = None
grown_by_transition net action (Some from) None = None
grown_by_transition net action (Some from) (Some to) =
    unless (trans_refusal net.components (last_place net) from action to) (change_component (last_place net) (with_trans from action to) net)

-- the network with an event of these parts, where all of them were found and the builder accepts it
abbrev pub grown_by_event : Net → List ℕ → Option (List ℕ) → Bool → Option (List Part) → Option Net
grown_by_event net name label fault None = None
grown_by_event net name label fault (Some parts) = unless (event_refusal net name parts) (with_event net name parts label fault)

-- the network with what the line adds, or nothing where the line is refused
abbrev pub grown : Net → ModelLine → Option Net
grown net (component name) = if is_name_text name then unless (component_refusal net name) (with_component net name) else None
grown net (state name initial) =
    if is_name_text name
    then unless (state_refusal net.components (last_place net) name) (change_component (last_place net) (with_state name initial) net)
    else None
grown net (transition from action to) =
    if is_name_text action then grown_by_transition net action (place_of from (last_states net)) (place_of to (last_states net)) else None
grown net (event name label fault parts) =
    if list_all is_name_text (name ∷ option_to_list label) then grown_by_event net name label fault (parts_by_name net parts) else None

-- the same by the tokens of a line
abbrev pub grown_by_tokens : Net → Option ModelLine → Option Net
grown_by_tokens net line = option_and_then (grown net) line
