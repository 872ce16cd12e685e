-- The text that is printed of a network: each line says one thing, and has one space between two tokens.
use Rattle.std.specs.Prelude.{ℕ, Bool, true, false, List, [], ◌∷◌, ◌++◌, map, codes, Option, Some, None, slice_index_or}
use Rattle.std.specs.List.{flat_map, join_with_byte}
use Rattle.des_net.specs.declared.parts.Part.{Part}
use Rattle.des_net.specs.declared.parts.Trans.{Trans}
use Rattle.des_net.specs.Network.{Component as Automaton, Event as Happening, Net, component_at}
use Rattle.model_text.specs.ModelLines.{ModelLine, component, state, transition, event, NamedPart}

-- the token `init` behind the name of an initial state, none behind another's
abbrev pub mark_tokens : Bool → List (List ℕ)
mark_tokens false = []
mark_tokens true = codes "init" ∷ []

-- the token `alarm` and the label where an event can be seen, else none
abbrev pub label_tokens : Option (List ℕ) → List (List ℕ)
label_tokens None = []
label_tokens (Some label) = codes "alarm" ∷ label ∷ []

-- the token `fault` where an event is one, else none
abbrev pub fault_tokens : Bool → List (List ℕ)
fault_tokens false = []
fault_tokens true = codes "fault" ∷ []

-- a part is one token
abbrev pub part_token : NamedPart → List ℕ
part_token part = part.component ++ codes "." ++ part.action

-- the tokens by which a line says this
abbrev pub tokens_of_line : ModelLine → List (List ℕ)
tokens_of_line (component name) = codes "component" ∷ name ∷ []
tokens_of_line (state name initial) = codes "state" ∷ name ∷ mark_tokens initial
tokens_of_line (transition from action to) = codes "trans" ∷ from ∷ action ∷ to ∷ []
tokens_of_line (event name label fault parts) = codes "event" ∷ name ∷ label_tokens label ++ (fault_tokens fault ++ codes ":" ∷ map part_token parts)

-- the tokens with one space between two, and a line feed
unfoldable pub line_text : ModelLine → List ℕ
line_text line = join_with_byte 32 (tokens_of_line line) ++ codes "\n"

-- the name of this number
abbrev pub name_at : List (List ℕ) → ℕ → List ℕ
name_at names i = slice_index_or names i []

-- what each value of a list comes to, with the name that stands beside it
abbrev pub each_named : {X : Type 0} → (List ℕ → X → List ModelLine) → List (List ℕ) → List X → List ModelLine
each_named f [] xs = []
each_named f (name ∷ names) [] = []
each_named f (name ∷ names) (x ∷ xs) = f name x ++ each_named f names xs

-- a state with its mark
abbrev pub line_of_state : List ℕ → Bool → List ModelLine
line_of_state name mark = state name mark ∷ []

-- a transition of component c, its states and its action by name
abbrev pub line_of_transition : Automaton → Trans → ModelLine
line_of_transition c t = transition (name_at c.state_names t.from) (name_at c.action_names t.action) (name_at c.state_names t.to)

-- a component's own line, then its states and then its transitions, each in order
abbrev pub lines_of_component : List ℕ → Automaton → List ModelLine
lines_of_component name c = component name ∷ each_named line_of_state c.state_names c.initial ++ map (line_of_transition c) c.transitions

-- a part, its component and its action by name
abbrev pub part_by_name : Net → Part → NamedPart
part_by_name net part = record { component = name_at net.component_names part.comp; action = name_at (component_at net part.comp).action_names part.action }

-- the line of an event of this name, its parts by name, as a list of one
abbrev pub line_of_event : Net → List ℕ → Happening → List ModelLine
line_of_event net name e = event name e.label e.fault (map (part_by_name net) e.parts) ∷ []

-- each component with its states and then its transitions in order, and then the events in order
abbrev pub lines_of_network : Net → List ModelLine
lines_of_network net = each_named lines_of_component net.component_names net.components ++ each_named (line_of_event net) net.event_names net.events

-- the text of a network: the header, and then all its lines
abbrev pub model_text : Net → List ℕ
model_text net = codes "des 1\n" ++ flat_map line_text (lines_of_network net)

-- ---- pieces of lines, as they are printed

-- each token behind a space
abbrev pub spaced : List (List ℕ) → List ℕ
spaced tokens = flat_map (λ token. 32 ∷ token) tokens

-- an event up to its colon
abbrev pub event_head : List ℕ → Option (List ℕ) → Bool → List ℕ
event_head name label fault = codes "event " ++ name ++ spaced (label_tokens label) ++ spaced (fault_tokens fault) ++ codes " :"
