-- The first fault of a model text, by its line and the code of its kind.
use Rattle.std.specs.Prelude.{ℕ, Bool, false, not, ◌&&◌, ◌||◌, List, [], ◌∷◌, ◌++◌, map, filter_map, length, option_map, Option, Some, None, bytes_eq, if◌then◌else◌, nat_le, nat_lt, is_some, slice_index, slice_index_or, sum_by, ⊤, ◌≡◌}
use Rattle.std.specs.List.{list_all, list_any}
use Rattle.std.specs.Option.{option_map_or, option_to_list, option_or}
use Rattle.des_base.specs.Names.{is_name_text, place_of, place_by}
use Rattle.des_base.specs.CountedLines.{NumberedLine, counted_lines, tokens_of}
use Rattle.des_net.specs.Network.{Net, no_component}
use Rattle.des_net.specs.Building.{lacks_init}
use Rattle.des_net.specs.Limits.{most_components, most_states, most_transitions, most_events, most_parts}
use Rattle.model_text.specs.declared.fault.ModelFault.{ModelFault}
use Rattle.model_text.specs.declared.fault.ModelRefusal.{ModelRefusal}
use Rattle.model_text.specs.declared.fault.ModelRefusal.TheVariants.{Fault, Memory}
use Rattle.model_text.specs.ModelLines.{ModelLine, component, state, transition, event, NamedPart, model_line, is_model_header}
use Rattle.model_text.specs.ModelNetwork.{begins_component, sections, current, state_names_in, transitions_in, NamedTransition, component_names, components_of, events_in, network_of_lines, model_lines}

-- the text is one of the names
abbrev pub stands_in : List (List ℕ) → List ℕ → Bool
stands_in names text = is_some (place_of text names)

-- the words of a line that must be names
abbrev pub names_of_line : ModelLine → List (List ℕ)
names_of_line (component name) = name ∷ []
names_of_line (state name initial) = name ∷ []
names_of_line (transition from action to) = from ∷ action ∷ to ∷ []
names_of_line (event name label fault parts) = name ∷ option_to_list label ++ map (λ p. p.component) parts ++ map (λ p. p.action) parts

-- a state or a transition before any component
abbrev pub is_homeless : List ModelLine → ModelLine → Bool
is_homeless earlier (component name) = false
is_homeless earlier (state name initial) = nat_le (length (sections earlier)) 0
is_homeless earlier (transition from action to) = nat_le (length (sections earlier)) 0
is_homeless earlier (event name label fault parts) = false

-- the two leave and enter states of the same names, by an action of the same name
abbrev pub is_same_transition : NamedTransition → NamedTransition → Bool
is_same_transition a b = bytes_eq a.from b.from && bytes_eq a.action b.action && bytes_eq a.to b.to

-- some text stands twice or more
abbrev pub has_repeated : List (List ℕ) → Bool
has_repeated [] = false
has_repeated (text ∷ texts) = stands_in texts text || has_repeated texts

-- it is there already, or two parts of the line have one component
abbrev pub is_double_line : List ModelLine → ModelLine → Bool
is_double_line earlier (component name) = stands_in (component_names earlier) name
is_double_line earlier (state name initial) = stands_in (state_names_in (current earlier)) name
is_double_line earlier (transition from action to) =
    list_any (is_same_transition (record { from = from; action = action; to = to })) (transitions_in (current earlier))
is_double_line earlier (event name label fault parts) =
    stands_in (map (λ e. e.name) (events_in earlier)) name || has_repeated (map (λ p. p.component) parts)

-- the actions of the component of this name, as far as they are known
abbrev pub actions_of : List ModelLine → List ℕ → List (List ℕ)
actions_of earlier name =
    option_map_or (λ place. (slice_index_or (components_of earlier) place no_component).action_names) (place_of name (component_names earlier)) []

-- the part's component is known from the lines so far, and has the part's action
abbrev pub knows_part : List ModelLine → NamedPart → Bool
knows_part earlier part = stands_in (actions_of earlier part.component) part.action

-- a component, a state or an action isn't known
abbrev pub has_unknown_word : List ModelLine → ModelLine → Bool
has_unknown_word earlier (component name) = false
has_unknown_word earlier (state name initial) = false
has_unknown_word earlier (transition from action to) =
    not (stands_in (state_names_in (current earlier)) from && stands_in (state_names_in (current earlier)) to)
has_unknown_word earlier (event name label fault parts) = not (list_all (knows_part earlier) parts)

-- how many transitions the components have
abbrev pub transition_count : List ModelLine → ℕ
transition_count lines = sum_by (λ section. length (transitions_in section.lines)) (sections lines)

-- a limit would be passed
abbrev pub is_line_past_limit : List ModelLine → ModelLine → Bool
is_line_past_limit earlier (component name) = nat_le most_components (length (sections earlier))
is_line_past_limit earlier (state name initial) = nat_le most_states (length (state_names_in (current earlier)))
is_line_past_limit earlier (transition from action to) = nat_le most_transitions (transition_count earlier)
is_line_past_limit earlier (event name label fault parts) = nat_le most_events (length (events_in earlier)) || nat_lt most_parts (length parts)

-- the first code, in this order, whose condition holds of a line and the lines before it
abbrev pub model_line_code : List ModelLine → ModelLine → Option ℕ
model_line_code earlier line =
    if is_homeless earlier line then Some 7
    else if not (list_all is_name_text (names_of_line line)) then Some 3
    else if is_double_line earlier line then Some 4
    else if has_unknown_word earlier line then Some 5
    else if is_line_past_limit earlier line then Some 8
    else None

-- and 2 before them, where the line has no shape
abbrev pub model_shape_code : List ModelLine → Option ModelLine → Option ℕ
model_shape_code earlier None = Some 2
model_shape_code earlier (Some line) = model_line_code earlier line

-- the lines so far, and this one where it has a shape
abbrev pub with_shape : List ModelLine → Option ModelLine → List ModelLine
with_shape earlier None = earlier
with_shape earlier (Some line) = earlier ++ line ∷ []

-- the fault of this code on the line of this number, or what comes after
abbrev pub model_fault_or : ℕ → Option ℕ → Option ModelFault → Option ModelFault
model_fault_or number None later = later
model_fault_or number (Some code) later = Some (record { line = number; code = code })

-- the first line that has a code, after these lines
abbrev pub first_model_code : List ModelLine → List NumberedLine → Option ModelFault
first_model_code earlier [] = None
first_model_code earlier (line ∷ lines) =
    model_fault_or line.number (model_shape_code earlier (model_line (tokens_of line.text))) (first_model_code (with_shape earlier (model_line (tokens_of line.text))) lines)

-- the numbers of the lines that begin a component
abbrev pub component_numbers : List NumberedLine → List ℕ
component_numbers lines =
    filter_map (λ line. if option_map_or begins_component (model_line (tokens_of line.text)) false then Some line.number else None) lines

-- code 6, on the line of the first component without an initial state
abbrev pub start_fault : List NumberedLine → Option ModelFault
start_fault lines =
    option_map (λ place. record { line = slice_index (component_numbers lines) place; code = 6 }) (place_by lacks_init (components_of (model_lines lines)))

-- the first fault of a model's counted lines
abbrev pub model_fault_of_lines : List NumberedLine → Option ModelFault
model_fault_of_lines [] = Some (record { line = 1; code = 1 })
model_fault_of_lines (header ∷ lines) =
    if is_model_header (tokens_of header.text) then option_or (first_model_code [] lines) (start_fault lines)
    else Some (record { line = header.number; code = 1 })

-- comments in models begin with `#`
abbrev pub first_model_fault : List ℕ → Option ModelFault
first_model_fault bytes = model_fault_of_lines (counted_lines 35 bytes)

-- the lines after the first
abbrev pub model_body : List NumberedLine → List NumberedLine
model_body [] = []
model_body (header ∷ lines) = lines

-- the network of a text without a fault
abbrev pub network_of : List ℕ → Net
network_of bytes = network_of_lines (model_lines (model_body (counted_lines 35 bytes)))

-- A refusal names the first fault. Any call may run out of memory instead.
abbrev pub IsModelDue : Option ModelFault → ModelRefusal → Type 0
IsModelDue fault (Fault told) = fault ≡ Some told
IsModelDue fault Memory = ⊤
