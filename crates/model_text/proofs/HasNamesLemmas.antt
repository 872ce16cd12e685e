-- A network whose parts are called by names stays one under each line that adds to it.
use Rattle.std.proofs.Common.{◌≡◌, ℕ, Bool, true, false, cond, List, [], ◌∷◌, ◌++◌, Option, None, Some, refl, subst}
use Rattle.std.specs.Prelude.{All, slice_get, slice_set, is_some}
use Rattle.std.specs.List.{AllByRecursion, list_all}
use Rattle.std.specs.Option.{option_map_or, option_to_list}
use Rattle.std.proofs.lemmas.List.Elements.{All-push, All-set, All-nil}
use Rattle.des_base.proofs.TableLemmas.{each_push}
use Rattle.des_base.specs.Names.{IsName, is_name_text, place_of}
use Rattle.des_net.specs.declared.parts.Part.{Part}
use Rattle.des_net.specs.declared.refusal.BuildRefusal.{BuildRefusal}
use Rattle.des_net.specs.Network.{Component as Automaton, Net, no_component, no_net}
use Rattle.des_net.specs.Building.{change_at, change_component, with_component, with_state, with_trans, component_refusal, state_refusal, trans_refusal, event_refusal, with_event}
use Rattle.model_text.specs.ModelLines.{ModelLine, component, state, transition, event}
use Rattle.model_text.specs.Growth.{grown, unless, last_place, last_states, grown_by_transition, grown_by_event, parts_by_name}
use Rattle.model_text.specs.GrowthLaw.{HasNames, HasNamedParts}
use Rattle.model_text.proofs.CodeLemmas.{All-slice_get, nothing}

action_step : (action : List ℕ) (actions : List (List ℕ)) (b : Bool) → AllByRecursion IsName actions → IsName action → AllByRecursion IsName (cond b actions (actions ++ action ∷ []))
action_step action actions true h n = h
action_step action actions false h n = each_push actions action h n

-- a line that is accepted has a name for its new word, and adds this
accepted : (named : Bool) (refusal : Option BuildRefusal) (m net : Net) → cond named (unless refusal m) None ≡ Some net → (named ≡ true) × (m ≡ net)
accepted true None m net h = let e : m ≡ net = cc in (refl, e)
accepted true (Some refusal) m net h = cc
accepted false refusal m net h = cc

changed : (components : List Automaton) (i : ℕ) (change : Automaton → Automaton) (o : Option Automaton) → slice_get components i ≡ o → ((c : Automaton) → HasNamedParts c → HasNamedParts (change c))
    → All HasNamedParts components → All HasNamedParts (option_map_or (λ c. slice_set components i (change c)) o components)
changed components i change None at keeps h = h
changed components i change (Some c) at keeps h = All-set HasNamedParts components i (change c) (keeps c (All-slice_get HasNamedParts components i c h at)) h

HasNames-change : (net : Net) (i : ℕ) (change : Automaton → Automaton) → ((c : Automaton) → HasNamedParts c → HasNamedParts (change c)) → HasNames net → HasNames (change_component i change net)
unfolding change_at
HasNames-change net i change keeps h = record { called = h.called; components = changed net.components i change (slice_get net.components i) refl keeps h.components }

by_transition : (net now : Net) (action : List ℕ) (from to : Option ℕ) → HasNames net → cond (is_name_text action) (grown_by_transition net action from to) None ≡ Some now → HasNames now
by_transition net now action None to h e = absurd (nothing (is_name_text action) now e)
by_transition net now action (Some from) None h e = absurd (nothing (is_name_text action) now e)
by_transition net now action (Some from) (Some to) h e =
    let m = change_component (last_place net) (with_trans from action to) net in
    let a = accepted (is_name_text action) (trans_refusal net.components (last_place net) from action to) m now e in
    subst HasNames a.1 (HasNames-change net (last_place net) (with_trans from action to)
    (λ c k. record { states = k.states; actions = action_step action c.action_names (is_some (place_of action c.action_names)) k.actions a.0 }) h)

by_event : (net now : Net) (name : List ℕ) (label : Option (List ℕ)) (fault named : Bool) (parts : Option (List Part)) → HasNames net → cond named (grown_by_event net name label fault parts) None ≡ Some now → HasNames now
by_event net now name label fault named None h e = absurd (nothing named now e)
by_event net now name label fault named (Some parts) h e =
    let a = accepted named (event_refusal net name parts) (with_event net name parts label fault) now e in
    subst HasNames a.1 (record { called = h.called; components = h.components })

pub HasNames-grown : (net : Net) (line : ModelLine) (now : Net) → HasNames net → grown net line ≡ Some now → HasNames now
HasNames-grown net (component name) now h e =
    let a = accepted (is_name_text name) (component_refusal net name) (with_component net name) now e in
    subst HasNames a.1 (record {
      called = each_push net.component_names name h.called a.0;
      components = All-push HasNamedParts net.components no_component h.components (record { states = tt; actions = tt });
    })
HasNames-grown net (state name initial) now h e =
    let m = change_component (last_place net) (with_state name initial) net in
    let a = accepted (is_name_text name) (state_refusal net.components (last_place net) name) m now e in
    subst HasNames a.1 (HasNames-change net (last_place net) (with_state name initial) (λ c k. record { states = each_push c.state_names name k.states a.0; actions = k.actions }) h)
HasNames-grown net (transition from action to) now h e = by_transition net now action (place_of from (last_states net)) (place_of to (last_states net)) h e
HasNames-grown net (event name label fault parts) now h e = by_event net now name label fault (list_all is_name_text (name ∷ option_to_list label)) (parts_by_name net parts) h e

-- a network with nothing in it
pub HasNames-none : HasNames no_net
HasNames-none = record { called = tt; components = All-nil HasNamedParts }
