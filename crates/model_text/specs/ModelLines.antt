-- What a line of a model text says, by its tokens.
use Rattle.std.specs.Prelude.{ℕ, Bool, true, false, List, [], ◌∷◌, map, option_and_then, option_map, Option, Some, None, bytes_eq, codes, if◌then◌else◌, ◌==◌}
use Rattle.std.specs.List.{slice_split}
use Rattle.model_text.specs.declared.keyword.LineKeyword.{LineKeyword}
use Rattle.model_text.specs.declared.keyword.LineKeyword.TheVariants.{Component, State, Trans, Event}

-- a component and an action of it, by name
pub record NamedPart : Type 0 where
  pub component : List ℕ
  pub action : List ℕ

-- what one line after the header says; its words need not be names
pub data ModelLine : Type 0 where
  component : (name : List ℕ) → ModelLine
  state : (name : List ℕ) → (initial : Bool) → ModelLine
  transition : (from action to : List ℕ) → ModelLine
  event : (name : List ℕ) → (label : Option (List ℕ)) → (fault : Bool) → (parts : List NamedPart) → ModelLine

-- the pieces between dots, if they are a component and an action
abbrev pub part_of_pieces : List (List ℕ) → Option NamedPart
part_of_pieces [] = None
part_of_pieces (c ∷ []) = None
part_of_pieces (c ∷ a ∷ []) = Some (record { component = c; action = a })
part_of_pieces (c ∷ a ∷ more ∷ pieces) = None

-- a part is one token with exactly one dot
abbrev pub part_of_token : List ℕ → Option NamedPart
part_of_token token = part_of_pieces (slice_split (λ byte. byte == 46) token)

-- all values, if there is one at each place
abbrev pub all_some : {X : Type 0} → List (Option X) → Option (List X)
all_some [] = Some []
all_some (x ∷ xs) = option_and_then (λ y. option_map (λ ys. y ∷ ys) (all_some xs)) x

-- the parts that the tokens name, if each token is one
abbrev pub parts_of_tokens : List (List ℕ) → Option (List NamedPart)
parts_of_tokens tokens = all_some (map part_of_token tokens)

-- an event line from its colon on: the colon, and one or more parts
abbrev pub after_flags : List ℕ → Option (List ℕ) → Bool → List (List ℕ) → Option ModelLine
after_flags name label fault [] = None
after_flags name label fault (token ∷ []) = None
after_flags name label fault (token ∷ part ∷ parts) =
    if bytes_eq token (codes ":") then option_map (λ named. event name label fault named) (parts_of_tokens (part ∷ parts)) else None

-- after the label: first the word `fault`, if it is there
abbrev pub after_label : List ℕ → Option (List ℕ) → List (List ℕ) → Option ModelLine
after_label name label [] = None
after_label name label (token ∷ tokens) =
    if bytes_eq token (codes "fault") then after_flags name label true tokens else after_flags name label false (token ∷ tokens)

-- after the name: first the word `alarm` and a label, if they are there
abbrev pub after_name : List ℕ → List (List ℕ) → Option ModelLine
after_name name [] = None
after_name name (token ∷ []) = None
after_name name (token ∷ next ∷ tokens) =
    if bytes_eq token (codes "alarm") then after_label name (Some next) tokens else after_label name None (token ∷ next ∷ tokens)

-- the tokens after `component`: exactly one word
abbrev pub component_line : List (List ℕ) → Option ModelLine
component_line [] = None
component_line (name ∷ []) = Some (component name)
component_line (name ∷ more ∷ tokens) = None

-- the tokens after `state`: a word, and the word `init` behind it where the state is initial
abbrev pub state_line : List (List ℕ) → Option ModelLine
state_line [] = None
state_line (name ∷ []) = Some (state name false)
state_line (name ∷ word ∷ []) = if bytes_eq word (codes "init") then Some (state name true) else None
state_line (name ∷ word ∷ more ∷ tokens) = None

-- the tokens after `trans`: exactly three words, the state that is left, the action, and the state that is entered
abbrev pub transition_line : List (List ℕ) → Option ModelLine
transition_line [] = None
transition_line (from ∷ []) = None
transition_line (from ∷ action ∷ []) = None
transition_line (from ∷ action ∷ to ∷ []) = Some (transition from action to)
transition_line (from ∷ action ∷ to ∷ more ∷ tokens) = None

-- the tokens after `event`: a word, then a label and the word `fault` where they are there, and the parts behind a colon
abbrev pub event_line : List (List ℕ) → Option ModelLine
event_line [] = None
event_line (name ∷ tokens) = after_name name tokens

-- which of the four keywords the first word of a line is, if it is one
abbrev pub line_keyword : List ℕ → Option LineKeyword
line_keyword word =
    if bytes_eq word (codes "component") then Some Component
    else if bytes_eq word (codes "state") then Some State
    else if bytes_eq word (codes "trans") then Some Trans
    else if bytes_eq word (codes "event") then Some Event
    else None

-- what the tokens after a keyword say, if they have the shape that belongs to it
abbrev pub keyword_line : List (List ℕ) → LineKeyword → Option ModelLine
keyword_line tokens Component = component_line tokens
keyword_line tokens State = state_line tokens
keyword_line tokens Trans = transition_line tokens
keyword_line tokens Event = event_line tokens

-- what a line after the first says, if it has a shape
abbrev pub model_line : List (List ℕ) → Option ModelLine
model_line [] = None
model_line (word ∷ tokens) = option_and_then (keyword_line tokens) (line_keyword word)

-- the first line of a model is `des 1`
abbrev pub is_model_header : List (List ℕ) → Bool
is_model_header [] = false
is_model_header (word ∷ []) = false
is_model_header (word ∷ version ∷ []) = if bytes_eq word (codes "des") then bytes_eq version (codes "1") else false
is_model_header (word ∷ version ∷ more ∷ tokens) = false
