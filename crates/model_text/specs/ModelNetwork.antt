-- The network of a model text, by selection of its lines.
use Rattle.std.specs.Prelude.{ℕ, Bool, true, false, List, [], ◌∷◌, ◌++◌, map, filter_map, length, unwrap_or, Option, Some, None, if◌then◌else◌, is_some}
use Rattle.des_base.specs.Names.{place_of}
use Rattle.des_base.specs.CountedLines.{NumberedLine, tokens_of}
use Rattle.des_net.specs.declared.parts.Part.{Part}
use Rattle.des_net.specs.declared.parts.Trans.{Trans}
use Rattle.des_net.specs.Network.{Component as Automaton, Event as Happening, Net, no_component}
use Rattle.std.specs.Prelude.{slice_index_or}
use Rattle.model_text.specs.ModelLines.{ModelLine, component, state, transition, event, NamedPart, model_line}

-- it is a `component` line
abbrev pub begins_component : ModelLine → Bool
begins_component (component name) = true
begins_component (state name initial) = false
begins_component (transition from action to) = false
begins_component (event name label fault parts) = false

-- the lines before the next one that begins a component
abbrev pub before_component : List ModelLine → List ModelLine
before_component [] = []
before_component (line ∷ lines) = if begins_component line then [] else line ∷ before_component lines

-- a component's name, and the lines from there up to the next component
pub record Section : Type 0 where
  pub name : List ℕ
  pub lines : List ModelLine

-- a section for each `component` line, in order; lines before the first belong to none
abbrev pub sections : List ModelLine → List Section
sections [] = []
sections (component name ∷ lines) = record { name = name; lines = before_component lines } ∷ sections lines
sections (state name initial ∷ lines) = sections lines
sections (transition from action to ∷ lines) = sections lines
sections (event name label fault parts ∷ lines) = sections lines

-- the lines that belong to the component that was begun last
abbrev pub last_lines : List Section → List ModelLine
last_lines [] = []
last_lines (section ∷ []) = section.lines
last_lines (section ∷ next ∷ more) = last_lines (next ∷ more)

-- the lines behind the last `component` line, or none if there is no such line
abbrev pub current : List ModelLine → List ModelLine
current lines = last_lines (sections lines)

-- a state as its line declares it: its name, and whether it is initial
pub record NamedState : Type 0 where
  pub name : List ℕ
  pub initial : Bool

-- the state that a line declares, if it is a `state` line
abbrev pub declared_state : ModelLine → Option NamedState
declared_state (component name) = None
declared_state (state name initial) = Some (record { name = name; initial = initial })
declared_state (transition from action to) = None
declared_state (event name label fault parts) = None

-- the states that the lines declare, in order
abbrev pub states_in : List ModelLine → List NamedState
states_in lines = filter_map declared_state lines

-- the names of the states that the lines declare, in order
abbrev pub state_names_in : List ModelLine → List (List ℕ)
state_names_in lines = map (λ s. s.name) (states_in lines)

-- a transition as its line declares it, its states and its action by name
pub record NamedTransition : Type 0 where
  pub from : List ℕ
  pub action : List ℕ
  pub to : List ℕ

-- the transition that a line declares, if it is a `trans` line
abbrev pub declared_transition : ModelLine → Option NamedTransition
declared_transition (component name) = None
declared_transition (state name initial) = None
declared_transition (transition from action to) = Some (record { from = from; action = action; to = to })
declared_transition (event name label fault parts) = None

-- the transitions that the lines declare, in order
abbrev pub transitions_in : List ModelLine → List NamedTransition
transitions_in lines = filter_map declared_transition lines

-- an event as its line declares it, its parts by name
pub record NamedEvent : Type 0 where
  pub name : List ℕ
  pub label : Option (List ℕ)
  pub fault : Bool
  pub parts : List NamedPart

-- the event that a line declares, if it is an `event` line
abbrev pub declared_event : ModelLine → Option NamedEvent
declared_event (component name) = None
declared_event (state name initial) = None
declared_event (transition from action to) = None
declared_event (event name label fault parts) = Some (record { name = name; label = label; fault = fault; parts = parts })

-- the events that the lines declare, in order
abbrev pub events_in : List ModelLine → List NamedEvent
events_in lines = filter_map declared_event lines

-- these texts, and then each further one where it stands first
abbrev pub each_once : List (List ℕ) → List (List ℕ) → List (List ℕ)
each_once known [] = known
each_once known (text ∷ texts) = each_once (if is_some (place_of text known) then known else known ++ text ∷ []) texts

-- an action is known once a transition of its component has it
abbrev pub actions_in : List ModelLine → List (List ℕ)
actions_in lines = each_once [] (map (λ t. t.action) (transitions_in lines))

-- the number of a name: its place in the list, or the list's length if it isn't there
abbrev pub number : List (List ℕ) → List ℕ → ℕ
number names text = unwrap_or (place_of text names) (length names)

-- a transition by the numbers of its states and its action among these names
abbrev pub numbered_transition : List (List ℕ) → List (List ℕ) → NamedTransition → Trans
numbered_transition states actions t = record { from = number states t.from; action = number actions t.action; to = number states t.to }

-- the component that the lines of a section declare; the `event` lines among them add nothing to it
abbrev pub component_of : List ModelLine → Automaton
component_of lines = record {
  state_names = state_names_in lines;
  initial = map (λ s. s.initial) (states_in lines);
  transitions = map (numbered_transition (state_names_in lines) (actions_in lines)) (transitions_in lines);
  action_names = actions_in lines;
}

-- a part by the numbers of its component, among these names, and of its action, among that component's
abbrev pub numbered_part : List (List ℕ) → List Automaton → NamedPart → Part
numbered_part names components part =
    let c = number names part.component in
    record { comp = c; action = number (slice_index_or components c no_component).action_names part.action }

-- a declared event, its parts by numbers
abbrev pub numbered_event : List (List ℕ) → List Automaton → NamedEvent → Happening
numbered_event names components e = record { parts = map (numbered_part names components) e.parts; label = e.label; fault = e.fault }

-- the names on the `component` lines, in order
abbrev pub component_names : List ModelLine → List (List ℕ)
component_names lines = map (λ section. section.name) (sections lines)

-- the components of the sections, in the order of their names
abbrev pub components_of : List ModelLine → List Automaton
components_of lines = map (λ section. component_of section.lines) (sections lines)

-- The components are the `component` lines in order, each with the `state` and `trans` lines up to the next; the events are the `event` lines in order.
abbrev pub network_of_lines : List ModelLine → Net
network_of_lines lines = record {
  component_names = component_names lines;
  components = components_of lines;
  event_names = map (λ e. e.name) (events_in lines);
  events = map (numbered_event (component_names lines) (components_of lines)) (events_in lines);
}

-- what the lines of a text say, where they have shapes
abbrev pub model_lines : List NumberedLine → List ModelLine
model_lines lines = filter_map (λ line. model_line (tokens_of line.text)) lines
