-- What one more line of its section makes of a component.
use Rattle.std.proofs.Common.{◌≡◌, ℕ, Bool, List, [], ◌∷◌, ◌++◌, length, Option, refl, ap, ◌∙◌, append-nil}
use Rattle.std.specs.Prelude.{map}
use Rattle.std.specs.List.{AllByRecursion}
use Rattle.std.proofs.lemmas.List.{map-append}
use Rattle.std.proofs.lemmas.List.Elements.{filter_map-append, recursion_from_All}
use Rattle.des_net.specs.Network.{Component as Automaton, IsTransOf}
use Rattle.des_net.specs.Building.{IsDraftComponent, with_state, with_trans, with_action, action_place}
use Rattle.model_text.specs.ModelLines.{ModelLine, state, transition, event, NamedPart}
use Rattle.model_text.specs.ModelNetwork.{NamedState, NamedTransition, each_once, number, numbered_transition, component_of, states_in, transitions_in, declared_state, declared_transition}
use Rattle.model_text.proofs.NumberLemmas.{KeepsPlaces, KeepsPlaces-itself, KeepsPlaces-append, KeepsPlaces-with_action, number-kept, number-with_action, each_once-push}

-- a component of these states and transitions
abbrev pub component_from : List NamedState → List NamedTransition → Automaton
component_from states transitions =
    let names = map (λ s. s.name) states in
    let actions = each_once [] (map (λ t. t.action) transitions) in
    record { state_names = names; initial = map (λ s. s.initial) states; transitions = map (numbered_transition names actions) transitions; action_names = actions }

-- with more names, transitions between known states, by known actions, are numbered as before
renumbered : (names more actions others : List (List ℕ)) (ts : List NamedTransition) → KeepsPlaces names more → KeepsPlaces actions others
    → AllByRecursion (IsTransOf (length names) (length actions)) (map (numbered_transition names actions) ts) → map (numbered_transition more others) ts ≡ map (numbered_transition names actions) ts
renumbered names more actions others [] g h all = refl
renumbered names more actions others (t ∷ ts) g h all =
    λ i. record { from = number-kept names more g t.from all.0.from i; action = number-kept actions others h t.action all.0.action i; to = number-kept names more g t.to all.0.to i }
    ∷ renumbered names more actions others ts g h all.1 i

component_from-state : (states : List NamedState) (s : NamedState) (ts : List NamedTransition)
    → IsDraftComponent (component_from states ts) → component_from (states ++ s ∷ []) ts ≡ with_state s.name s.initial (component_from states ts)
component_from-state states s ts d =
    let c = component_from states ts in
    let all = recursion_from_All (IsTransOf (length c.state_names) (length c.action_names)) c.transitions d.trans in
    let names : map (λ (s : NamedState). s.name) (states ++ s ∷ []) ≡ c.state_names ++ s.name ∷ [] = map-append (λ (s : NamedState). s.name) states (s ∷ []) in
    λ i. record {
      state_names = names i;
      initial = map-append (λ (s : NamedState). s.initial) states (s ∷ []) i;
      transitions = (ap (λ ns. map (numbered_transition ns c.action_names) ts) names ∙ renumbered c.state_names (c.state_names ++ s.name ∷ []) c.action_names c.action_names ts (KeepsPlaces-append c.state_names (s.name ∷ [])) (KeepsPlaces-itself c.action_names) all) i;
      action_names = c.action_names;
    }

component_from-transition : (states : List NamedState) (ts : List NamedTransition) (t : NamedTransition)
    → IsDraftComponent (component_from states ts)
    → component_from states (ts ++ t ∷ []) ≡ with_trans (number (component_from states ts).state_names t.from) t.action (number (component_from states ts).state_names t.to) (component_from states ts)
component_from-transition states ts t d =
    let c = component_from states ts in
    let all = recursion_from_All (IsTransOf (length c.state_names) (length c.action_names)) c.transitions d.trans in
    let actions : each_once [] (map (λ (t : NamedTransition). t.action) (ts ++ t ∷ [])) ≡ with_action t.action c.action_names =
    ap (each_once []) (map-append (λ (t : NamedTransition). t.action) ts (t ∷ [])) ∙ each_once-push [] (map (λ (t : NamedTransition). t.action) ts) t.action in
    let more = with_action t.action c.action_names in
    let old : map (numbered_transition c.state_names more) ts ≡ c.transitions = renumbered c.state_names c.state_names c.action_names more ts (KeepsPlaces-itself c.state_names) (KeepsPlaces-with_action t.action c.action_names) all in
    let new : numbered_transition c.state_names more t ≡ record { from = number c.state_names t.from; action = action_place c.action_names t.action; to = number c.state_names t.to } =
    λ i. record { from = number c.state_names t.from; action = number-with_action t.action c.action_names i; to = number c.state_names t.to } in
    λ i. record {
      state_names = c.state_names;
      initial = c.initial;
      transitions = (ap (λ ns. map (numbered_transition c.state_names ns) (ts ++ t ∷ [])) actions ∙ map-append (numbered_transition c.state_names more) ts (t ∷ []) ∙ (λ j. old j ++ new j ∷ [])) i;
      action_names = actions i;
    }

split : (lines : List ModelLine) (line : ModelLine)
    → component_of (lines ++ line ∷ []) ≡ component_from (states_in lines ++ states_in (line ∷ [])) (transitions_in lines ++ transitions_in (line ∷ []))
split lines line = λ i. component_from (filter_map-append declared_state lines (line ∷ []) i) (filter_map-append declared_transition lines (line ∷ []) i)

pub component_of-state : (lines : List ModelLine) (name : List ℕ) (initial : Bool) → IsDraftComponent (component_of lines) → component_of (lines ++ state name initial ∷ []) ≡ with_state name initial (component_of lines)
component_of-state lines name initial d =
    split lines (state name initial) ∙ ap (component_from (states_in lines ++ record { name = name; initial = initial } ∷ [])) (append-nil (transitions_in lines))
    ∙ component_from-state (states_in lines) (record { name = name; initial = initial }) (transitions_in lines) d

pub component_of-transition : (lines : List ModelLine) (from action to : List ℕ) → IsDraftComponent (component_of lines)
    → component_of (lines ++ transition from action to ∷ []) ≡ with_trans (number (component_of lines).state_names from) action (number (component_of lines).state_names to) (component_of lines)
component_of-transition lines from action to d =
    split lines (transition from action to) ∙ ap (λ ss. component_from ss (transitions_in lines ++ record { from = from; action = action; to = to } ∷ [])) (append-nil (states_in lines))
    ∙ component_from-transition (states_in lines) (transitions_in lines) (record { from = from; action = action; to = to }) d

pub component_of-event : (lines : List ModelLine) (name : List ℕ) (label : Option (List ℕ)) (fault : Bool) (parts : List NamedPart) → component_of (lines ++ event name label fault parts ∷ []) ≡ component_of lines
component_of-event lines name label fault parts =
    split lines (event name label fault parts) ∙ (λ i. component_from (append-nil (states_in lines) i) (append-nil (transitions_in lines) i))
