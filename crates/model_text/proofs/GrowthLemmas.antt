-- What one more section, line of the last section, or event makes of a network.
use Rattle.std.proofs.Common.{◌≡◌, ◌-◌, ℕ, List, [], ◌∷◌, ◌++◌, length, Some, refl, ap, sym, ◌∙◌, subst, arith, length-append}
use Rattle.std.specs.Prelude.{map, slice_get, slice_set, slice_index_or}
use Rattle.std.specs.Option.{option_map_or}
use Rattle.std.proofs.lemmas.List.{map-append}
use Rattle.std.proofs.lemmas.Option.{get_or_from_slice_get}
use Rattle.des_net.specs.Network.{Component as Automaton, Net, no_component}
use Rattle.des_net.specs.Building.{IsDraft, change_at, change_component, with_component, with_event}
use Rattle.model_text.specs.ModelNetwork.{Section, NamedEvent, component_of, numbered_event, numbered_part}
use Rattle.model_text.specs.Growth.{last_place}
use Rattle.model_text.proofs.NumberLemmas.{KeepsPlaces, KeepsPlaces-itself, KeepsPlaces-append}
use Rattle.model_text.proofs.EventLemmas.{ActionsGrow, ActionsGrow-push, ActionsGrow-last, events_kept}

abbrev pub names_of : List Section → List (List ℕ)
names_of sections = map (λ s. s.name) sections

abbrev pub automata_of : List Section → List Automaton
automata_of sections = map (λ s. component_of s.lines) sections

-- the network of these sections and events
abbrev pub network_from : List Section → List NamedEvent → Net
network_from sections events = record {
  component_names = names_of sections;
  components = automata_of sections;
  event_names = map (λ e. e.name) events;
  events = map (numbered_event (names_of sections) (automata_of sections)) events;
}

last_at : (front : List Automaton) (c : Automaton) → length front ≡ length (front ++ c ∷ []) - 1
last_at front c = omega (arith, length-append front (c ∷ []))

get_at : (front : List Automaton) (c : Automaton) → slice_get (front ++ c ∷ []) (length front) ≡ Some c
get_at [] c = refl
get_at (x ∷ xs) c = get_at xs c

set_at : (front : List Automaton) (c d : Automaton) → slice_set (front ++ c ∷ []) (length front) d ≡ front ++ d ∷ []
set_at [] c d = refl
set_at (x ∷ xs) c d = ap (λ l. x ∷ l) (set_at xs c d)

-- the component that was begun last
pub slice_get-last : (front : List Automaton) (c : Automaton) → slice_get (front ++ c ∷ []) (length (front ++ c ∷ []) - 1) ≡ Some c
slice_get-last front c = subst (λ (n : ℕ). slice_get (front ++ c ∷ []) n ≡ Some c) (last_at front c) (get_at front c)

pub slice_index_or-last : (front : List Automaton) (c : Automaton) → slice_index_or (front ++ c ∷ []) (length (front ++ c ∷ []) - 1) no_component ≡ c
slice_index_or-last front c = get_or_from_slice_get (front ++ c ∷ []) (length (front ++ c ∷ []) - 1) c no_component (slice_get-last front c)

pub change_at-last : (front : List Automaton) (c : Automaton) (change : Automaton → Automaton) → change_at (length (front ++ c ∷ []) - 1) change (front ++ c ∷ []) ≡ front ++ change c ∷ []
unfolding change_at
change_at-last front c change =
    ap (λ o. option_map_or (λ d. slice_set (front ++ c ∷ []) (length (front ++ c ∷ []) - 1) (change d)) o (front ++ c ∷ [])) (slice_get-last front c)
    ∙ subst (λ (n : ℕ). slice_set (front ++ c ∷ []) n (change c) ≡ front ++ change c ∷ []) (last_at front c) (set_at front c (change c))

-- a section without lines is a component without states
pub network_from-component : (sections : List Section) (events : List NamedEvent) (name : List ℕ) → IsDraft (network_from sections events)
    → network_from (sections ++ record { name = name; lines = [] } ∷ []) events ≡ with_component (network_from sections events) name
network_from-component sections events name d =
    let next : Section = record { name = name; lines = [] } in
    let names : names_of (sections ++ next ∷ []) ≡ names_of sections ++ name ∷ [] = map-append (λ (s : Section). s.name) sections (next ∷ []) in
    let automata : automata_of (sections ++ next ∷ []) ≡ automata_of sections ++ no_component ∷ [] = map-append (λ (s : Section). component_of s.lines) sections (next ∷ []) in
    let kept = events_kept (names_of sections) (names_of sections ++ name ∷ []) (automata_of sections) (automata_of sections ++ no_component ∷ [])
    (record { named = d.named; kept = KeepsPlaces-append (names_of sections) (name ∷ []); actions = ActionsGrow-push (automata_of sections) no_component }) events d.events in
    λ i. record {
      component_names = names i;
      components = automata i;
      event_names = map (λ (e : NamedEvent). e.name) events;
      events = ((λ j. map (numbered_event (names j) (automata j)) events) ∙ kept) i;
    }

actions_last : (front : List Automaton) (c d : Automaton) (old new : List Automaton) → old ≡ front ++ c ∷ [] → new ≡ front ++ d ∷ [] → KeepsPlaces c.action_names d.action_names → ActionsGrow old new
actions_last front c d old new e f g = subst (λ o. ActionsGrow o new) (sym e) (subst (λ n. ActionsGrow (front ++ c ∷ []) n) (sym f) (ActionsGrow-last front c d g))

-- the last component is changed where its section is
pub network_from-last : (front : List Section) (last other : Section) (events : List NamedEvent) (change : Automaton → Automaton) → IsDraft (network_from (front ++ last ∷ []) events)
    → other.name ≡ last.name → component_of other.lines ≡ change (component_of last.lines) → KeepsPlaces (component_of last.lines).action_names (change (component_of last.lines)).action_names
    → network_from (front ++ other ∷ []) events ≡ change_component (last_place (network_from (front ++ last ∷ []) events)) change (network_from (front ++ last ∷ []) events)
network_from-last front last other events change d same changed grows =
    let old : automata_of (front ++ last ∷ []) ≡ automata_of front ++ component_of last.lines ∷ [] = map-append (λ (s : Section). component_of s.lines) front (last ∷ []) in
    let new : automata_of (front ++ other ∷ []) ≡ automata_of front ++ change (component_of last.lines) ∷ [] =
    map-append (λ (s : Section). component_of s.lines) front (other ∷ []) ∙ ap (λ c. automata_of front ++ c ∷ []) changed in
    let names : names_of (front ++ other ∷ []) ≡ names_of (front ++ last ∷ []) =
    map-append (λ (s : Section). s.name) front (other ∷ []) ∙ ap (λ n. names_of front ++ n ∷ []) same ∙ sym (map-append (λ (s : Section). s.name) front (last ∷ [])) in
    let automata : automata_of (front ++ other ∷ []) ≡ change_at (length (automata_of (front ++ last ∷ [])) - 1) change (automata_of (front ++ last ∷ [])) =
    new ∙ sym (change_at-last (automata_of front) (component_of last.lines) change) ∙ ap (λ cs. change_at (length cs - 1) change cs) (sym old) in
    let kept = events_kept (names_of (front ++ last ∷ [])) (names_of (front ++ last ∷ [])) (automata_of (front ++ last ∷ [])) (automata_of (front ++ other ∷ []))
    (record {
      named = d.named;
      kept = KeepsPlaces-itself (names_of (front ++ last ∷ []));
      actions = actions_last (automata_of front) (component_of last.lines) (change (component_of last.lines)) (automata_of (front ++ last ∷ [])) (automata_of (front ++ other ∷ [])) old new grows;
    }) events d.events in
    λ i. record {
      component_names = names i;
      components = automata i;
      event_names = map (λ (e : NamedEvent). e.name) events;
      events = ((λ j. map (numbered_event (names j) (automata_of (front ++ other ∷ []))) events) ∙ kept) i;
    }

-- one more event
pub network_from-event : (sections : List Section) (events : List NamedEvent) (e : NamedEvent)
    → network_from sections (events ++ e ∷ []) ≡ with_event (network_from sections events) e.name (map (numbered_part (names_of sections) (automata_of sections)) e.parts) e.label e.fault
network_from-event sections events e = λ i. record {
  component_names = names_of sections;
  components = automata_of sections;
  event_names = map-append (λ (f : NamedEvent). f.name) events (e ∷ []) i;
  events = map-append (numbered_event (names_of sections) (automata_of sections)) events (e ∷ []) i;
}
