-- The code of a line, by the network of the lines before it.
use Rattle.std.specs.Prelude.{◌≡◌, ⊤, ℕ, Bool, false, not, ◌&&◌, ◌||◌, List, map, length, Option, None, Some, if◌then◌else◌, nat_le, nat_lt, is_some}
use Rattle.std.specs.List.{list_all}
use Rattle.des_base.specs.Names.{is_name_text, place_of}
use Rattle.des_net.specs.Network.{Component as Automaton, Net, component_at}
use Rattle.des_net.specs.Building.{has_trans, trans_count}
use Rattle.des_net.specs.Limits.{most_components, most_states, most_transitions, most_events, most_parts}
use Rattle.model_text.specs.declared.refusal.LineRefusal.{LineRefusal}
use Rattle.model_text.specs.declared.refusal.LineRefusal.TheVariants.{Shape, Homeless, Name, Double, Unknown, Limit, Memory}
use Rattle.model_text.specs.ModelLines.{ModelLine, component, state, transition, event}
use Rattle.model_text.specs.ModelFaults.{stands_in, names_of_line, has_repeated}
use Rattle.model_text.specs.Growth.{last_place, last_states, parts_by_name}

-- the first code whose condition holds
abbrev pub first_of : (homeless named double unknown past : Bool) → Option ℕ
first_of homeless named double unknown past =
    if homeless then Some 7
    else if not named then Some 3
    else if double then Some 4
    else if unknown then Some 5
    else if past then Some 8
    else None

-- the component has the transition, where the states have these places
abbrev pub has_placed : Automaton → List ℕ → Option ℕ → Option ℕ → Bool
has_placed c action None to = false
has_placed c action (Some from) None = false
has_placed c action (Some from) (Some to) = has_trans c from action to

-- the component has the transition by its names
abbrev pub has_named : Automaton → (from action to : List ℕ) → Bool
has_named c from action to = has_placed c action (place_of from c.state_names) (place_of to c.state_names)

-- no component was begun yet, so a state or a transition has no home
abbrev pub is_without_components : Net → Bool
is_without_components net = nat_le (length net.components) 0

-- the first code that a line has, by the network alone, or none where the line is accepted
abbrev pub code_by : Net → ModelLine → Option ℕ
code_by net (component name) =
    first_of false (list_all is_name_text (names_of_line (component name))) (stands_in net.component_names name) false (nat_le most_components (length net.components))
code_by net (state name initial) =
    first_of (is_without_components net) (list_all is_name_text (names_of_line (state name initial))) (stands_in (last_states net) name) false (nat_le most_states (length (last_states net)))
code_by net (transition from action to) =
    first_of (is_without_components net) (list_all is_name_text (names_of_line (transition from action to)))
    (has_named (component_at net (last_place net)) from action to)
    (not (stands_in (last_states net) from && stands_in (last_states net) to))
    (nat_le most_transitions (trans_count net.components))
code_by net (event name label fault parts) =
    first_of false (list_all is_name_text (names_of_line (event name label fault parts)))
    (stands_in net.event_names name || has_repeated (map (λ p. p.component) parts))
    (not (is_some (parts_by_name net parts)))
    (nat_le most_events (length net.events) || nat_lt most_parts (length parts))

-- the same by the tokens of a line
abbrev pub code_by_tokens : Net → Option ModelLine → Option ℕ
code_by_tokens net None = Some 2
code_by_tokens net (Some line) = code_by net line

-- the refusal is for this code
abbrev pub IsCoded : Option ℕ → LineRefusal → Type 0
IsCoded code Shape = code ≡ Some 2
IsCoded code Homeless = code ≡ Some 7
IsCoded code Name = code ≡ Some 3
IsCoded code Double = code ≡ Some 4
IsCoded code Unknown = code ≡ Some 5
IsCoded code Limit = code ≡ Some 8
IsCoded code Memory = ⊤
