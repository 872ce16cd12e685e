-- A network that is read keeps to the order in which its text speaks of actions, and takes no transition twice.
use Rattle.std.proofs.Common.{◌≡◌, ◌<◌, ℕ, zero, suc, Bool, false, cond, List, [], ◌∷◌, ◌++◌, length, get_or, Option, None, Some, refl, arith, ap, sym, ◌∙◌, subst, append_assoc, append-nil}
use Rattle.std.specs.Prelude.{All, is_some, map, slice_get, unwrap_or}
use Rattle.std.specs.List.{AllByRecursion, list_all, list_any}
use Rattle.std.proofs.lemmas.List.{map-append}
use Rattle.std.proofs.lemmas.List.Elements.{All-nil, All-push, All-set, recursion_from_All}
use Rattle.std.specs.Option.{option_to_list}
use Rattle.des_base.specs.Names.{is_name_text, place_of}
use Rattle.des_base.proofs.BoolLemmas.{both}
use Rattle.des_net.specs.declared.parts.Part.{Part}
use Rattle.des_net.specs.declared.parts.Trans.{Trans}
use Rattle.des_net.specs.Network.{Component as Automaton, Net, IsTransOf, no_component, no_net}
use Rattle.des_net.specs.Building.{IsDraft, IsDraftComponent, action_place, change_at, change_component, component_refusal, event_refusal, has_trans, is_trans, state_refusal, trans_refusal, with_action, with_component, with_event, with_state, with_trans}
use Rattle.des_net.proofs.ComponentLemmas.{has_trans-absent}
use Rattle.des_net.proofs.DraftLemmas.{change_at-at}
use Rattle.model_text.specs.ModelLines.{ModelLine, component, state, transition, event}
use Rattle.model_text.specs.ModelNetwork.{each_once}
use Rattle.model_text.specs.Growth.{grown, grown_by_event, grown_by_transition, last_place, last_states, parts_by_name}
use Rattle.model_text.specs.PrintedModel.{name_at}
use Rattle.model_text.specs.ReadBack.{AreNew, HasNamedLabel, IsAsRead, IsInOrder, actions_taken}
use Rattle.model_text.proofs.AdditionFacts.{fits_state, fits_transition, is_added}
use Rattle.model_text.proofs.CodeLemmas.{All-slice_get, nothing}
use Rattle.model_text.proofs.NumberLemmas.{each_once-push, place_of-new, text_at}

-- ---- one more transition

new_on : (earlier ts : List Trans) (t : Trans) → AreNew earlier ts → list_any (is_trans t.from t.action t.to) (earlier ++ ts) ≡ false → AreNew earlier (ts ++ t ∷ [])
new_on earlier [] t h n = (subst (λ (l : List Trans). list_any (is_trans t.from t.action t.to) l ≡ false) (append-nil earlier) n, tt)
new_on earlier (s ∷ ts) t h n = (h.0, new_on (earlier ++ s ∷ []) ts t h.1 (subst (λ (l : List Trans). list_any (is_trans t.from t.action t.to) l ≡ false) (sym (append_assoc earlier (s ∷ []) ts)) n))

get_front : (xs ys : List (List ℕ)) (i : ℕ) → i < length xs → get_or (xs ++ ys) i [] ≡ get_or xs i []
get_front [] ys i h = absurd (omega arith)
get_front (x ∷ xs) ys zero h = refl
get_front (x ∷ xs) ys (suc i) h = get_front xs ys i (omega arith)

-- a known action's name stays
kept_name : (action : List ℕ) (actions : List (List ℕ)) (i : ℕ) → i < length actions → name_at (with_action action actions) i ≡ name_at actions i
kept_name action actions i h = step (place_of action actions)
  where
    step : (o : Option ℕ) → get_or (cond (is_some o) actions (actions ++ action ∷ [])) i [] ≡ get_or actions i []
    step (Some k) = refl
    step None = get_front actions (action ∷ []) i h

names_kept : (s : ℕ) (action : List ℕ) (actions : List (List ℕ)) (ts : List Trans) → AllByRecursion (IsTransOf s (length actions)) ts
    → map (λ t. name_at (with_action action actions) t.action) ts ≡ map (λ t. name_at actions t.action) ts
names_kept s action actions [] h = refl
names_kept s action actions (t ∷ ts) h = λ i. kept_name action actions t.action h.0.action i ∷ names_kept s action actions ts h.1 i

found_step : (action : List ℕ) (actions : List (List ℕ)) (o : Option ℕ) → place_of action actions ≡ o → place_of action (cond (is_some o) actions (actions ++ action ∷ [])) ≡ Some (unwrap_or o (length actions))
found_step action actions None h = place_of-new action actions h
found_step action actions (Some k) h = h

-- the action of a transition that is added has a place from then on
pub placed_action : (action : List ℕ) (actions : List (List ℕ)) → place_of action (with_action action actions) ≡ Some (action_place actions action)
placed_action action actions = found_step action actions (place_of action actions) refl

new_name : (action : List ℕ) (actions : List (List ℕ)) → name_at (with_action action actions) (action_place actions action) ≡ action
new_name action actions = sym (text_at action (with_action action actions) (action_place actions action) (placed_action action actions))

IsInOrder-with_trans : (c : Automaton) (from : ℕ) (action : List ℕ) (to : ℕ) → IsDraftComponent c → has_trans c from action to ≡ false → IsInOrder c → IsInOrder (with_trans from action to c)
IsInOrder-with_trans c from action to d absent h =
    let t : Trans = record { from = from; action = action_place c.action_names action; to = to } in
    let more = with_action action c.action_names in
    record {
      once = new_on [] c.transitions t h.once (has_trans-absent c from action to d absent);
      in_order =
          ap (each_once []) (map-append (λ (t : Trans). name_at more t.action) c.transitions (t ∷ [])
          ∙ (λ i. names_kept (length c.state_names) action c.action_names c.transitions (recursion_from_All (IsTransOf (length c.state_names) (length c.action_names)) c.transitions d.trans) i ++ new_name action c.action_names i ∷ []))
          ∙ each_once-push [] (actions_taken c) action
          ∙ ap (with_action action) h.in_order;
    }

-- ---- one more line

changed : (components : List Automaton) (i : ℕ) (change : Automaton → Automaton) (c : Automaton) → All IsInOrder components → slice_get components i ≡ Some c → IsInOrder (change c) → All IsInOrder (change_at i change components)
changed components i change c d at h = subst (All IsInOrder) (sym (change_at-at i change components c at)) (All-set IsInOrder components i (change c) h d)

by_places : (net now : Net) (action : List ℕ) (from to : Option ℕ) → IsDraft net → IsAsRead net → cond (is_name_text action) (grown_by_transition net action from to) None ≡ Some now → IsAsRead now
by_places net now action None to d r e = absurd (nothing (is_name_text action) now e)
by_places net now action (Some from) None d r e = absurd (nothing (is_name_text action) now e)
by_places net now action (Some from) (Some to) d r e =
    let a = is_added (is_name_text action) (trans_refusal net.components (last_place net) from action to) (change_component (last_place net) (with_trans from action to) net) now e in
    let f = fits_transition net.components (last_place net) from action to a.accepted in
    let c = f.component in
    subst IsAsRead a.network (record {
      components = changed net.components (last_place net) (with_trans from action to) c r.components f.at
          (IsInOrder-with_trans c from action to (All-slice_get IsDraftComponent net.components (last_place net) c d.components.each f.at) f.absent (All-slice_get IsInOrder net.components (last_place net) c r.components f.at));
      events = r.events;
    })

by_event : (net now : Net) (name : List ℕ) (label : Option (List ℕ)) (fault : Bool) (parts : Option (List Part)) → IsAsRead net
    → cond (list_all is_name_text (name ∷ option_to_list label)) (grown_by_event net name label fault parts) None ≡ Some now → IsAsRead now
by_event net now name label fault None r e = absurd (nothing (list_all is_name_text (name ∷ option_to_list label)) now e)
by_event net now name label fault (Some parts) r e =
    let a = is_added (list_all is_name_text (name ∷ option_to_list label)) (event_refusal net name parts) (with_event net name parts label fault) now e in
    subst IsAsRead a.network (record {
      components = r.components;
      events = All-push HasNamedLabel net.events (record { parts = parts; label = label; fault = fault }) r.events (both (is_name_text name) (list_all is_name_text (option_to_list label)) a.named).1;
    })

pub IsAsRead-grown : (net : Net) (line : ModelLine) (now : Net) → IsDraft net → IsAsRead net → grown net line ≡ Some now → IsAsRead now
IsAsRead-grown net (component name) now d r h =
    let a = is_added (is_name_text name) (component_refusal net name) (with_component net name) now h in
    subst IsAsRead a.network (record { components = All-push IsInOrder net.components no_component r.components (record { once = tt; in_order = refl }); events = r.events })
IsAsRead-grown net (state name initial) now d r h =
    let a = is_added (is_name_text name) (state_refusal net.components (last_place net) name) (change_component (last_place net) (with_state name initial) net) now h in
    let f = fits_state net.components (last_place net) name a.accepted in
    let c = f.component in
    let o = All-slice_get IsInOrder net.components (last_place net) c r.components f.at in
    subst IsAsRead a.network (record {
      components = changed net.components (last_place net) (with_state name initial) c r.components f.at (record { once = o.once; in_order = o.in_order });
      events = r.events;
    })
IsAsRead-grown net (transition from action to) now d r h = by_places net now action (place_of from (last_states net)) (place_of to (last_states net)) d r h
IsAsRead-grown net (event name label fault parts) now d r h = by_event net now name label fault (parts_by_name net parts) r h

pub IsAsRead-none : IsAsRead no_net
IsAsRead-none = record { components = All-nil IsInOrder; events = All-nil HasNamedLabel }
