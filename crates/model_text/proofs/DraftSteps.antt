-- A network stays a draft under each line that adds to it.
use Rattle.std.proofs.Common.{◌≡◌, ◌<◌, ◌+◌, ℕ, Bool, true, List, ◌∷◌, length, Option, None, Some, refl, arith, ap, sym, ◌∙◌, subst}
use Rattle.std.specs.Prelude.{⊤, cond, slice_get}
use Rattle.std.specs.List.{list_all}
use Rattle.std.specs.Option.{option_to_list}
use Rattle.des_base.specs.Names.{is_name_text, place_of}
use Rattle.des_net.specs.declared.parts.Part.{Part}
use Rattle.des_net.specs.Network.{Component as Automaton, Net}
use Rattle.des_net.specs.Building.{IsDraft, IsDraftComponent, AreDraftComponents, change_at, change_component, component_refusal, event_refusal, state_refusal, trans_count, trans_refusal, with_component, with_event, with_state, with_trans}
use Rattle.des_net.proofs.ComponentLemmas.{IsDraftComponent-with_state, IsDraftComponent-with_trans}
use Rattle.des_net.proofs.DraftLemmas.{IsDraft-with_component, IsDraft-with_event, IsDraft-with_state, IsDraft-with_trans, change_at-at, components_set, count_at, trans_count-set}
use Rattle.model_text.specs.ModelLines.{ModelLine, component, state, transition, event, NamedPart}
use Rattle.model_text.specs.Growth.{grown, grown_by_event, grown_by_transition, last_place, last_states, parts_by_name}
use Rattle.model_text.proofs.AdditionFacts.{FitsState, FitsTransition, as_many, fits_component, fits_event, fits_state, fits_transition, is_added}
use Rattle.model_text.proofs.CodeLemmas.{All-slice_get, nothing}
use Rattle.des_base.proofs.BoolLemmas.{both}

-- an event's line names a part
abbrev pub HasParts : ModelLine → Type 0
HasParts (component name) = ⊤
HasParts (state name initial) = ⊤
HasParts (transition from action to) = ⊤
HasParts (event name label fault parts) = 0 < length parts

-- one of the components is changed to one that is a draft
changed : (components : List Automaton) (i : ℕ) (change : Automaton → Automaton) (c : Automaton) → AreDraftComponents components → slice_get components i ≡ Some c → IsDraftComponent (change c) → AreDraftComponents (change_at i change components)
changed components i change c d at h = subst AreDraftComponents (sym (change_at-at i change components c at)) (components_set components i (change c) d h)

by_state : (net now : Net) (name : List ℕ) (initial : Bool) → IsDraft net → is_name_text name ≡ true → FitsState net.components (last_place net) name → change_component (last_place net) (with_state name initial) net ≡ now → IsDraft now
by_state net now name initial d named f e =
    let c = f.component in
    let whole = changed net.components (last_place net) (with_state name initial) c d.components f.at
    (IsDraftComponent-with_state c name initial (All-slice_get IsDraftComponent net.components (last_place net) c d.components.each f.at) named f.absent f.few) in
    subst IsDraft e (IsDraft-with_state net (last_place net) name initial d whole)

by_transition : (net now : Net) (from : ℕ) (action : List ℕ) (to : ℕ) → IsDraft net → is_name_text action ≡ true → FitsTransition net.components (last_place net) from action to
    → change_component (last_place net) (with_trans from action to) net ≡ now → IsDraft now
by_transition net now from action to d named f e =
    let c = f.component in
    let at = f.at in
    let some = count_at net.components (last_place net) c at in
    let few = f.few in
    let more : trans_count (change_at (last_place net) (with_trans from action to) net.components) ≡ trans_count net.components + 1 =
    ap trans_count (change_at-at (last_place net) (with_trans from action to) net.components c at) ∙ trans_count-set from action to net.components (last_place net) c at in
    let whole = changed net.components (last_place net) (with_trans from action to) c d.components at
    (IsDraftComponent-with_trans c from action to (All-slice_get IsDraftComponent net.components (last_place net) c d.components.each at) named f.source f.target (omega arith)) in
    subst IsDraft e (IsDraft-with_trans net (last_place net) from action to d (omega (arith, more)) whole)

by_places : (net now : Net) (action : List ℕ) (from to : Option ℕ) → IsDraft net → cond (is_name_text action) (grown_by_transition net action from to) None ≡ Some now → IsDraft now
by_places net now action None to d e = absurd (nothing (is_name_text action) now e)
by_places net now action (Some from) None d e = absurd (nothing (is_name_text action) now e)
by_places net now action (Some from) (Some to) d e =
    let a = is_added (is_name_text action) (trans_refusal net.components (last_place net) from action to) (change_component (last_place net) (with_trans from action to) net) now e in
    by_transition net now from action to d a.named (fits_transition net.components (last_place net) from action to a.accepted) a.network

by_event : (net now : Net) (name : List ℕ) (label : Option (List ℕ)) (fault : Bool) (named : List NamedPart) (parts : Option (List Part)) → IsDraft net → 0 < length named → parts_by_name net named ≡ parts
    → cond (list_all is_name_text (name ∷ option_to_list label)) (grown_by_event net name label fault parts) None ≡ Some now → IsDraft now
by_event net now name label fault named None d some is e = absurd (nothing (list_all is_name_text (name ∷ option_to_list label)) now e)
by_event net now name label fault named (Some parts) d some is e =
    let a = is_added (list_all is_name_text (name ∷ option_to_list label)) (event_refusal net name parts) (with_event net name parts label fault) now e in
    let f = fits_event net name parts a.accepted in
    let many = as_many net named parts is in
    subst IsDraft a.network
    (IsDraft-with_event net name (record { parts = parts; label = label; fault = fault }) d (both (is_name_text name) (list_all is_name_text (option_to_list label)) a.named).0 f.absent
    (record { some = omega arith; few = f.few_parts; once = f.once; known = f.known }) f.few)

pub IsDraft-grown : (net : Net) (line : ModelLine) (now : Net) → IsDraft net → HasParts line → grown net line ≡ Some now → IsDraft now
IsDraft-grown net (component name) now d some h =
    let a = is_added (is_name_text name) (component_refusal net name) (with_component net name) now h in
    let f = fits_component net name a.accepted in
    subst IsDraft a.network (IsDraft-with_component net name d a.named f.absent f.few)
IsDraft-grown net (state name initial) now d some h =
    let a = is_added (is_name_text name) (state_refusal net.components (last_place net) name) (change_component (last_place net) (with_state name initial) net) now h in
    by_state net now name initial d a.named (fits_state net.components (last_place net) name a.accepted) a.network
IsDraft-grown net (transition from action to) now d some h = by_places net now action (place_of from (last_states net)) (place_of to (last_states net)) d h
IsDraft-grown net (event name label fault parts) now d some h = by_event net now name label fault parts (parts_by_name net parts) d some refl h
