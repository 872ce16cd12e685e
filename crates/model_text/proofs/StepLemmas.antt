-- Each kind of line, over the sections and the events before it.
use Rattle.std.proofs.Common.{◌≡◌, ◌-◌, ℕ, suc, Bool, true, false, cond, List, [], ◌∷◌, ◌++◌, length, Option, None, Some, refl, ap, sym, ◌∙◌, subst, arith}
use Rattle.std.specs.Prelude.{map, not, nat_le, nat_lt, slice_get, sum_by, is_some, ◌&&◌, ◌||◌, bytes_eq}
use Rattle.std.specs.List.{list_any, list_all, AllZip}
use Rattle.std.proofs.Math.Bool.{and-true}
use Rattle.std.proofs.lemmas.List.{map-append, length-map}
use Rattle.std.proofs.lemmas.List.Elements.{recursion_from_All}
use Rattle.std.proofs.lemmas.List.Sums.{sum_by-cons}
use Rattle.std.proofs.lemmas.Option.{get_or_from_slice_get}
use Rattle.std.specs.Option.{option_to_list}
use Rattle.des_base.proofs.PlaceLemmas.{place-within}
use Rattle.des_base.specs.Names.{place_of, is_name_text}
use Rattle.des_net.specs.declared.parts.Part.{Part}
use Rattle.des_net.specs.declared.refusal.BuildRefusal.TheVariants.{Double, Unknown, Limit}
use Rattle.des_net.specs.Network.{Component as Automaton, Net, IsTransOf, no_component}
use Rattle.des_net.specs.Building.{IsDraft, IsDraftComponent, change_component, with_component, with_state, with_trans, with_event, state_refusal, event_refusal, has_trans, trans_count, is_known, repeats}
use Rattle.model_text.specs.ModelLines.{ModelLine, component, state, transition, event, NamedPart}
use Rattle.model_text.specs.ModelNetwork.{Section, NamedEvent, NamedTransition, last_lines, state_names_in, transitions_in, actions_in, component_of, numbered_event, numbered_transition}
use Rattle.model_text.specs.ModelFaults.{is_same_transition, has_repeated}
use Rattle.model_text.specs.Growth.{grown, unless, last_place, parts_by_name, grown_by_transition, grown_by_event}
use Rattle.model_text.specs.GrowthLaw.{HasNames, HasNamedParts}
use Rattle.model_text.proofs.SectionLemmas.{on_last, with_line, on_last-push, last_lines-push, ends}
use Rattle.model_text.proofs.NumberLemmas.{KeepsPlaces-itself, KeepsPlaces-with_action, number-place, IsName-place}
use Rattle.model_text.proofs.ComponentLemmas.{component_of-state, component_of-transition, component_of-event}
use Rattle.model_text.proofs.GrowthLemmas.{names_of, automata_of, network_from, slice_get-last, network_from-component, network_from-last, network_from-event}
use Rattle.model_text.proofs.CodeLemmas.{outcome, Step, Step-refused, Step-same, Step-plain, limited, outcome-unknown, none_either, not_empty, All-slice_get, state_refusal-at, trans_refusal-at, same_transition-places}
use Rattle.model_text.proofs.PartLemmas.{knows, Found, all_found, all_lost, all_known, all_numbered, all_there, all_named, all_repeated}

-- a component
pub step-component : (sections : List Section) (events : List NamedEvent) (name : List ℕ) → IsDraft (network_from sections events)
    → Step (outcome false (is_name_text name && true) (is_some (place_of name (names_of sections))) false (nat_le 1000 (length sections)))
    (grown (network_from sections events) (component name)) (network_from (sections ++ record { name = name; lines = [] } ∷ []) events)
step-component sections events name d =
    let double = is_some (place_of name (names_of sections)) in
    let m = with_component (network_from sections events) name in
    Step-plain (is_name_text name) double (nat_le 1000 (length sections)) m _ _ _
    (ap (λ n. outcome false n double false (nat_le 1000 (length sections))) (and-true (is_name_text name)))
    (ap (λ k. cond (is_name_text name) (unless (limited double (nat_le 1000 k)) m) None) (length-map sections (λ (s : Section). component_of s.lines)))
    (network_from-component sections events name d)

-- the component of the last section
pub slice_get-automata : (front : List Section) (last : Section) → slice_get (automata_of (front ++ last ∷ [])) (length (automata_of (front ++ last ∷ [])) - 1) ≡ Some (component_of last.lines)
slice_get-automata front last =
    ap (λ cs. slice_get cs (length cs - 1)) (map-append (λ (s : Section). component_of s.lines) front (last ∷ [])) ∙ slice_get-last (automata_of front) (component_of last.lines)

pub draft-last : (front : List Section) (last : Section) (events : List NamedEvent) → IsDraft (network_from (front ++ last ∷ []) events) → IsDraftComponent (component_of last.lines)
draft-last front last events d = All-slice_get IsDraftComponent (automata_of (front ++ last ∷ [])) _ (component_of last.lines) d.components.each (slice_get-automata front last)

-- a state
abbrev pub state_code : List Section → List ℕ → Option ℕ
state_code sections name =
    outcome (nat_le (length sections) 0) (is_name_text name && true) (is_some (place_of name (state_names_in (last_lines sections)))) false (nat_le 256 (length (state_names_in (last_lines sections))))

state-none : (events : List NamedEvent) (name : List ℕ) (initial : Bool) (next : Net) → Step (state_code [] name) (grown (network_from [] events) (state name initial)) next
unfolding state_refusal
state-none events name initial next = Step-refused (Some 7) _ next refl (none_either (is_name_text name))

state-last : (front : List Section) (last : Section) (events : List NamedEvent) (name : List ℕ) (initial : Bool) → IsDraft (network_from (front ++ last ∷ []) events)
    → Step (state_code (front ++ last ∷ []) name) (grown (network_from (front ++ last ∷ []) events) (state name initial)) (network_from (on_last (with_line (state name initial)) (front ++ last ∷ [])) events)
state-last front last events name initial d =
    let c = component_of last.lines in
    let net = network_from (front ++ last ∷ []) events in
    let m = change_component (last_place net) (with_state name initial) net in
    let double = is_some (place_of name c.state_names) in
    let past = nat_le 256 (length c.state_names) in
    Step-plain (is_name_text name) double past m _ _ _
    (λ i. outcome (not_empty front last i) (and-true (is_name_text name) i) (is_some (place_of name (state_names_in (last_lines-push front last i)))) false (nat_le 256 (length (state_names_in (last_lines-push front last i)))))
    (ap (λ r. cond (is_name_text name) (unless r m) None) (state_refusal-at net.components (last_place net) name c (slice_get-automata front last)))
    (ap (λ ss. network_from ss events) (on_last-push (with_line (state name initial)) front last)
    ∙ network_from-last front last (with_line (state name initial) last) events (with_state name initial) d refl (component_of-state last.lines name initial (draft-last front last events d)) (KeepsPlaces-itself c.action_names))

pub step-state : (sections : List Section) (events : List NamedEvent) (name : List ℕ) (initial : Bool) → IsDraft (network_from sections events)
    → Step (state_code sections name) (grown (network_from sections events) (state name initial)) (network_from (on_last (with_line (state name initial)) sections) events)
step-state [] events name initial d = state-none events name initial (network_from [] events)
step-state (s ∷ ss) events name initial d =
    let e = ends s ss in
    subst (λ sections. IsDraft (network_from sections events) → Step (state_code sections name) (grown (network_from sections events) (state name initial)) (network_from (on_last (with_line (state name initial)) sections) events))
    (sym e.is) (state-last e.front e.last events name initial) d

length-transitions : (lines : List ModelLine) → length (component_of lines).transitions ≡ length (transitions_in lines)
length-transitions lines = length-map (transitions_in lines) (numbered_transition (state_names_in lines) (actions_in lines))

-- the count of transitions, by sections and by components
sizes : (sections : List Section) → sum_by (λ s. length (transitions_in s.lines)) sections ≡ sum_by (λ c. length c.transitions) (automata_of sections)
sizes [] = refl
sizes (s ∷ ss) =
    let c = component_of s.lines in
    omega (arith, sizes ss, sum_by-cons (λ (s : Section). length (transitions_in s.lines)) s ss, sum_by-cons (λ (c : Automaton). length c.transitions) c (automata_of ss), length-transitions s.lines)

pub count_of : (sections : List Section) → sum_by (λ s. length (transitions_in s.lines)) sections ≡ trans_count (automata_of sections)
unfolding trans_count
count_of sections = sizes sections

-- a transition
abbrev pub transition_code : List Section → (from action to : List ℕ) → Option ℕ
transition_code sections from action to =
    let lines = last_lines sections in
    outcome (nat_le (length sections) 0) (is_name_text from && (is_name_text action && (is_name_text to && true)))
    (list_any (is_same_transition (record { from = from; action = action; to = to })) (transitions_in lines))
    (not (is_some (place_of from (state_names_in lines)) && is_some (place_of to (state_names_in lines))))
    (nat_le 50000 (sum_by (λ s. length (transitions_in s.lines)) sections))

transition-none : (events : List NamedEvent) (from action to : List ℕ) (next : Net) → Step (transition_code [] from action to) (grown (network_from [] events) (transition from action to)) next
transition-none events from action to next = Step-refused (Some 7) _ next refl (none_either (is_name_text action))

-- where the names of the states have these places
abbrev by_places : Net → List ℕ → Option ℕ → Option ℕ → Option Net
by_places net action from to = cond (is_name_text action) (grown_by_transition net action from to) None

lost_left : (o p : Option ℕ) → o ≡ None → not (is_some o && is_some p) ≡ true
lost_left o p e = ap (λ o. not (is_some o && is_some p)) e

lost_right : (o p : Option ℕ) → p ≡ None → not (is_some o && is_some p) ≡ true
lost_right None p e = refl
lost_right (Some k) p e = ap (λ p. not (is_some p)) e

three : (a b c : Bool) → a ≡ true → c ≡ true → (a && (b && (c && true))) ≡ b
three a b c e f = (λ i. e i && (b && (f i && true))) ∙ and-true b

both : (o p : Option ℕ) (i j : ℕ) → o ≡ Some i → p ≡ Some j → not (is_some o && is_some p) ≡ false
both o p i j e f = λ k. not (is_some (e k) && is_some (f k))

-- the same for the last section, by its component
abbrev last_code : Automaton → List NamedTransition → (from action to : List ℕ) → Bool → Option ℕ
last_code c ts from action to past =
    outcome false (is_name_text from && (is_name_text action && (is_name_text to && true)))
    (list_any (is_same_transition (record { from = from; action = action; to = to })) ts)
    (not (is_some (place_of from c.state_names) && is_some (place_of to c.state_names))) past

transition_code-last : (front : List Section) (last : Section) (from action to : List ℕ)
    → transition_code (front ++ last ∷ []) from action to ≡ last_code (component_of last.lines) (transitions_in last.lines) from action to (nat_le 50000 (trans_count (automata_of (front ++ last ∷ []))))
transition_code-last front last from action to = λ i.
    let lines = last_lines-push front last i in
    outcome (not_empty front last i) (is_name_text from && (is_name_text action && (is_name_text to && true)))
    (list_any (is_same_transition (record { from = from; action = action; to = to })) (transitions_in lines))
    (not (is_some (place_of from (state_names_in lines)) && is_some (place_of to (state_names_in lines))))
    (nat_le 50000 (count_of (front ++ last ∷ []) i))

grown-places : (front : List Section) (last : Section) (events : List NamedEvent) (from action to : List ℕ)
    → grown (network_from (front ++ last ∷ []) events) (transition from action to)
    ≡ by_places (network_from (front ++ last ∷ []) events) action (place_of from (component_of last.lines).state_names) (place_of to (component_of last.lines).state_names)
grown-places front last events from action to =
    let net = network_from (front ++ last ∷ []) events in
    ap (λ (c : Automaton). by_places net action (place_of from c.state_names) (place_of to c.state_names))
    (get_or_from_slice_get net.components (last_place net) (component_of last.lines) no_component (slice_get-automata front last))

transition-unknown : (c : Automaton) (ts : List NamedTransition) (from action to : List ℕ) (past : Bool) (next : Net) → not (is_some (place_of from c.state_names) && is_some (place_of to c.state_names)) ≡ true
    → Step (last_code c ts from action to past) (cond (is_name_text action) None None) next
transition-unknown c ts from action to past next h =
    Step-refused (last_code c ts from action to past) (cond (is_name_text action) None None) next
    (outcome-unknown false (is_name_text from && (is_name_text action && (is_name_text to && true))) (list_any (is_same_transition (record { from = from; action = action; to = to })) ts)
    (not (is_some (place_of from c.state_names) && is_some (place_of to c.state_names))) past h)
    (none_either (is_name_text action))

transition-at : (front : List Section) (last : Section) (events : List NamedEvent) (from action to : List ℕ) (o p : Option ℕ)
    → IsDraft (network_from (front ++ last ∷ []) events) → HasNames (network_from (front ++ last ∷ []) events)
    → place_of from (component_of last.lines).state_names ≡ o → place_of to (component_of last.lines).state_names ≡ p
    → Step (last_code (component_of last.lines) (transitions_in last.lines) from action to (nat_le 50000 (trans_count (automata_of (front ++ last ∷ [])))))
    (by_places (network_from (front ++ last ∷ []) events) action o p) (network_from (on_last (with_line (transition from action to)) (front ++ last ∷ [])) events)
transition-at front last events from action to None p d names source target =
    transition-unknown (component_of last.lines) (transitions_in last.lines) from action to _ _ (lost_left (place_of from (component_of last.lines).state_names) (place_of to (component_of last.lines).state_names) source)
transition-at front last events from action to (Some i) None d names source target =
    transition-unknown (component_of last.lines) (transitions_in last.lines) from action to _ _ (lost_right (place_of from (component_of last.lines).state_names) (place_of to (component_of last.lines).state_names) target)
transition-at front last events from action to (Some i) (Some j) d names source target =
    let c = component_of last.lines in
    let net = network_from (front ++ last ∷ []) events in
    let m = change_component (last_place net) (with_trans i action j) net in
    let past = nat_le 50000 (trans_count net.components) in
    let at = slice_get-automata front last in
    let draft = draft-last front last events d in
    let all = recursion_from_All (IsTransOf (length c.state_names) (length c.action_names)) c.transitions draft.trans in
    let states = (All-slice_get HasNamedParts net.components (last_place net) c names.components at).states in
    let named = three (is_name_text from) (is_name_text action) (is_name_text to) (IsName-place from c.state_names i states source) (IsName-place to c.state_names j states target) in
    let double = same_transition-places c.state_names c.action_names from action to i j source target (transitions_in last.lines) all in
    let known = both (place_of from c.state_names) (place_of to c.state_names) i j source target in
    Step-plain (is_name_text action) (has_trans c i action j) past m _ _ _
    (λ k. outcome false (named k) (double k) (known k) past)
    (ap (λ r. cond (is_name_text action) (unless r m) None)
    (trans_refusal-at net.components (last_place net) i action j c at (place-within (bytes_eq from) c.state_names i source) (place-within (bytes_eq to) c.state_names j target)))
    (ap (λ ss. network_from ss events) (on_last-push (with_line (transition from action to)) front last)
    ∙ network_from-last front last (with_line (transition from action to) last) events (with_trans i action j) d refl
    (component_of-transition last.lines from action to draft ∙ (λ k. with_trans (number-place c.state_names from i source k) action (number-place c.state_names to j target k) c))
    (KeepsPlaces-with_action action c.action_names))

transition-last : (front : List Section) (last : Section) (events : List NamedEvent) (from action to : List ℕ)
    → IsDraft (network_from (front ++ last ∷ []) events) → HasNames (network_from (front ++ last ∷ []) events)
    → Step (transition_code (front ++ last ∷ []) from action to) (grown (network_from (front ++ last ∷ []) events) (transition from action to))
    (network_from (on_last (with_line (transition from action to)) (front ++ last ∷ [])) events)
transition-last front last events from action to d names =
    let c = component_of last.lines in
    Step-same _ _ _ _ _ _ (transition_code-last front last from action to) (grown-places front last events from action to) refl
    (transition-at front last events from action to (place_of from c.state_names) (place_of to c.state_names) d names refl refl)

pub step-transition : (sections : List Section) (events : List NamedEvent) (from action to : List ℕ) → IsDraft (network_from sections events) → HasNames (network_from sections events)
    → Step (transition_code sections from action to) (grown (network_from sections events) (transition from action to)) (network_from (on_last (with_line (transition from action to)) sections) events)
step-transition [] events from action to d names = transition-none events from action to (network_from [] events)
step-transition (s ∷ ss) events from action to d names =
    let e = ends s ss in
    subst (λ sections. IsDraft (network_from sections events) → HasNames (network_from sections events)
    → Step (transition_code sections from action to) (grown (network_from sections events) (transition from action to)) (network_from (on_last (with_line (transition from action to)) sections) events))
    (sym e.is) (transition-last e.front e.last events from action to) d names

-- an event
abbrev pub event_code : Net → List NamedEvent → List ℕ → Option (List ℕ) → List NamedPart → Option ℕ
event_code net events name label parts =
    outcome false (list_all is_name_text (name ∷ option_to_list label ++ map (λ p. p.component) parts ++ map (λ p. p.action) parts))
    (is_some (place_of name net.event_names) || has_repeated (map (λ p. p.component) parts))
    (not (list_all (knows net) parts)) (nat_le 4000 (length events) || nat_lt 16 (length parts))

known_of : (double past there : Bool) → there ≡ true → cond double (Some Double) (cond there (cond past (Some Limit) None) (Some Unknown)) ≡ limited double past
known_of double past there e = rw e refl

pub event_refusal-known : (net : Net) (name : List ℕ) (parts : List Part) → list_all (is_known net.components) parts ≡ true
    → event_refusal net name parts ≡ limited (is_some (place_of name net.event_names) || repeats parts) (nat_le 4000 (length net.events) || nat_lt 16 (length parts))
unfolding event_refusal
event_refusal-known net name parts h =
    known_of (is_some (place_of name net.event_names) || repeats parts) (nat_le 4000 (length net.events) || nat_lt 16 (length parts)) (list_all (is_known net.components) parts) h

pub length_all : (net : Net) (ps : List NamedPart) (qs : List Part) → AllZip (Found net) ps qs → length ps ≡ length qs
length_all net [] [] h = refl
length_all net [] (q ∷ qs) h = absurd h
length_all net (p ∷ ps) [] h = absurd h
length_all net (p ∷ ps) (q ∷ qs) h = ap suc (length_all net ps qs h.1)

event-at : (sections : List Section) (events : List NamedEvent) (e : NamedEvent) (o : Option (List Part)) → IsDraft (network_from sections events) → HasNames (network_from sections events)
    → parts_by_name (network_from sections events) e.parts ≡ o
    → Step (event_code (network_from sections events) events e.name e.label e.parts)
    (cond (list_all is_name_text (e.name ∷ option_to_list e.label)) (grown_by_event (network_from sections events) e.name e.label e.fault o) None)
    (network_from sections (events ++ e ∷ []))
event-at sections events e None d names h =
    let net = network_from sections events in
    Step-refused (event_code net events e.name e.label e.parts) _ _
    (outcome-unknown false (list_all is_name_text (e.name ∷ option_to_list e.label ++ map (λ (p : NamedPart). p.component) e.parts ++ map (λ (p : NamedPart). p.action) e.parts))
    (is_some (place_of e.name net.event_names) || has_repeated (map (λ (p : NamedPart). p.component) e.parts)) (not (list_all (knows net) e.parts))
    (nat_le 4000 (length events) || nat_lt 16 (length e.parts)) (ap not (all_lost net e.parts h)))
    (none_either (list_all is_name_text (e.name ∷ option_to_list e.label)))
event-at sections events e (Some qs) d names h =
    let net = network_from sections events in
    let found = all_found net e.parts qs h in
    let m = with_event net e.name qs e.label e.fault in
    let words = list_all is_name_text (e.name ∷ option_to_list e.label) in
    let named = all_named net names d.named (e.name ∷ option_to_list e.label) e.parts qs found in
    let repeated = all_repeated net e.parts qs found in
    let known = all_known net e.parts qs found in
    let many = length-map events (numbered_event (names_of sections) (automata_of sections)) in
    let few = length_all net e.parts qs found in
    Step-plain words (is_some (place_of e.name net.event_names) || repeats qs) (nat_le 4000 (length net.events) || nat_lt 16 (length qs)) m _ _ _
    (λ i. outcome false (named i) (is_some (place_of e.name net.event_names) || repeated i) (not (known i)) (nat_le 4000 (sym many i) || nat_lt 16 (few i)))
    (ap (λ r. cond words (unless r m) None) (event_refusal-known net e.name qs (all_there net e.parts qs d.named found)))
    (network_from-event sections events e ∙ ap (λ ps. with_event net e.name ps e.label e.fault) (all_numbered net e.parts qs found))

pub step-event : (sections : List Section) (events : List NamedEvent) (e : NamedEvent) → IsDraft (network_from sections events) → HasNames (network_from sections events)
    → Step (event_code (network_from sections events) events e.name e.label e.parts) (grown (network_from sections events) (event e.name e.label e.fault e.parts)) (network_from sections (events ++ e ∷ []))
step-event sections events e d names = event-at sections events e (parts_by_name (network_from sections events) e.parts) d names refl

names-event : (sections : List Section) (line : ModelLine) → names_of (on_last (with_line line) sections) ≡ names_of sections
names-event [] line = refl
names-event (s ∷ []) line = refl
names-event (s ∷ t ∷ ss) line = ap (λ ns. s.name ∷ ns) (names-event (t ∷ ss) line)

automata-event : (sections : List Section) (name : List ℕ) (label : Option (List ℕ)) (fault : Bool) (parts : List NamedPart) → automata_of (on_last (with_line (event name label fault parts)) sections) ≡ automata_of sections
automata-event [] name label fault parts = refl
automata-event (s ∷ []) name label fault parts = λ i. component_of-event s.lines name label fault parts i ∷ []
automata-event (s ∷ t ∷ ss) name label fault parts = ap (λ cs. component_of s.lines ∷ cs) (automata-event (t ∷ ss) name label fault parts)

-- an event's line in a section leaves its component
pub network_from-on_last : (sections : List Section) (events : List NamedEvent) (name : List ℕ) (label : Option (List ℕ)) (fault : Bool) (parts : List NamedPart)
    → network_from (on_last (with_line (event name label fault parts)) sections) events ≡ network_from sections events
network_from-on_last sections events name label fault parts =
    let names = names-event sections (event name label fault parts) in
    let automata = automata-event sections name label fault parts in
    λ i. record {
      component_names = names i;
      components = automata i;
      event_names = map (λ (e : NamedEvent). e.name) events;
      events = map (numbered_event (names i) (automata i)) events;
    }
