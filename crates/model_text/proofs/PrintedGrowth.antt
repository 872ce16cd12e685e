-- The lines that are printed of a network add up to it.
use Rattle.std.proofs.Common.{◌≡◌, ◌<◌, ◌≤◌, ◌+◌, ◌-◌, ℕ, zero, suc, Bool, true, false, cond, List, [], ◌∷◌, ◌++◌, length, get_or, map, Option, None, Some, refl, arith, ap, sym, ◌∙◌, subst, append_assoc, append-nil, length-append}
use Rattle.std.specs.Prelude.{◌||◌, bytes_eq, nat_le, nat_lt, is_some, option_and_then, option_map}
use Rattle.std.specs.List.{AllByRecursion, list_all, list_any}
use Rattle.std.specs.Option.{option_map_or, option_to_list}
use Rattle.std.proofs.lemmas.List.{length-map}
use Rattle.std.proofs.lemmas.List.Elements.{All-get_or, recursion_from_All}
use Rattle.std.proofs.lemmas.List.Sums.{sum_by-cons, sum_by_push}
use Rattle.std.proofs.lemmas.Option.{same_Some}
use Rattle.std.proofs.lemmas.Slice.Eq.{bytes_eq-Decides}
use Rattle.des_base.proofs.PlaceLemmas.{none_parts, none_join, text_turned, place_next}
use Rattle.des_base.specs.Names.{AreDistinct, IsName, is_name_text, place_of}
use Rattle.des_base.proofs.BoolLemmas.{join, not_most, not_less}
use Rattle.des_net.specs.declared.parts.Part.{Part}
use Rattle.des_net.specs.declared.parts.Trans.{Trans}
use Rattle.des_net.specs.declared.refusal.BuildRefusal.{BuildRefusal}
use Rattle.des_net.specs.Network.{Component as Automaton, Event as Happening, Net, IsEvent, IsNetwork, IsPart, IsTransOf, component_at, no_component, no_net}
use Rattle.des_net.specs.Building.{IsDraft, IsDraftComponent, IsDraftEvent, action_place, change_component, component_refusal, event_refusal, has_trans, is_trans, repeats, state_refusal, trans_count, trans_refusal, with_action, with_component, with_event, with_state, with_trans}
use Rattle.model_text.specs.ModelLines.{ModelLine, component, state, event}
use Rattle.model_text.specs.ModelNetwork.{each_once}
use Rattle.model_text.specs.Growth.{grown, grown_by_event, grown_by_transition, last_states, part_of, parts_by_name, unless}
use Rattle.model_text.specs.PrintedModel.{each_named, line_of_event, line_of_state, line_of_transition, lines_of_component, lines_of_network, name_at, part_by_name}
use Rattle.model_text.specs.ReadBack.{AreNew, HasNamedLabel, IsAsRead, IsInOrder}
use Rattle.model_text.proofs.CodeLemmas.{limited, state_refusal-at, trans_refusal-at}
use Rattle.model_text.proofs.DraftSteps.{HasParts}
use Rattle.model_text.proofs.GrowthLemmas.{change_at-last, slice_get-last, slice_index_or-last}
use Rattle.model_text.proofs.NumberLemmas.{KeepsPlaces, KeepsPlaces-itself, KeepsPlaces-with_action}
use Rattle.model_text.proofs.ReadOrder.{placed_action}
use Rattle.model_text.proofs.StepLemmas.{event_refusal-known}
use Rattle.des_net.proofs.DraftLemmas.{trans_count-none}

-- each of the lines adds to the network of the lines before it, and so the first network grows to the last
abbrev pub AllGrow : Net → List ModelLine → Net → Type 0
AllGrow net [] last = net ≡ last
AllGrow net (line ∷ lines) last = (now : Net) × (grown net line ≡ Some now) × HasParts line × AllGrow now lines last

AllGrow-from : (net now last : Net) (lines : List ModelLine) → net ≡ now → AllGrow now lines last → AllGrow net lines last
AllGrow-from net now last lines e g = subst (λ (n : Net). AllGrow n lines last) (sym e) g

AllGrow-to : (net last end : Net) (lines : List ModelLine) → last ≡ end → AllGrow net lines last → AllGrow net lines end
AllGrow-to net last end lines e g = subst (AllGrow net lines) e g

AllGrow-append : (net middle last : Net) (front back : List ModelLine) → AllGrow net front middle → AllGrow middle back last → AllGrow net (front ++ back) last
AllGrow-append net middle last [] back g h = AllGrow-from net middle last back g h
AllGrow-append net middle last (line ∷ front) back g h = (g.0, g.1, g.2, AllGrow-append g.0 middle last front back g.3 h)

adds : (words : Bool) (refusal : Option BuildRefusal) (m : Net) → words ≡ true → refusal ≡ None → cond words (unless refusal m) None ≡ Some m
adds words refusal m w r = rw (w, r) refl

unlimited : (double past : Bool) → double ≡ false → past ≡ false → limited double past ≡ None
unlimited double past d p = rw (d, p) refl

none : (o : Option ℕ) → o ≡ None → is_some o ≡ false
none o h = ap (λ x. is_some x) h

-- ---- distinct names

other_than : (text name : List ℕ) (xs rest : List (List ℕ)) → place_of text (xs ++ name ∷ rest) ≡ None → bytes_eq text name ≡ false
other_than text name [] rest h = (none_parts (bytes_eq text name) (place_of text rest) h).0
other_than text name (x ∷ xs) rest h = other_than text name xs rest (none_parts (bytes_eq text x) (place_of text (xs ++ name ∷ rest)) h).1

-- a name isn't among those before it
new_name : (known : List (List ℕ)) (name : List ℕ) (rest : List (List ℕ)) → AreDistinct (known ++ name ∷ rest) → place_of name known ≡ None
new_name [] name rest h = refl
new_name (x ∷ xs) name rest h = none_join (bytes_eq name x) (place_of name xs) (text_turned x name (other_than x name xs rest h.0)) (new_name xs name rest h.1)

other_text : (text : List ℕ) (names : List (List ℕ)) (k : ℕ) → k < length names → place_of text names ≡ None → bytes_eq (get_or names k []) text ≡ false
other_text text [] k l h = absurd (omega arith)
other_text text (name ∷ names) zero l h = text_turned text name (none_parts (bytes_eq text name) (place_of text names) h).0
other_text text (name ∷ names) (suc k) l h = other_text text names k (omega arith) (none_parts (bytes_eq text name) (place_of text names) h).1

-- each of distinct names has its own place
own_place : (names : List (List ℕ)) (k : ℕ) → AreDistinct names → k < length names → place_of (get_or names k []) names ≡ Some k
own_place [] k distinct l = absurd (omega arith)
own_place (name ∷ names) zero distinct l = ap (λ b. cond b (Some 0) (option_map suc (place_of name names))) ((bytes_eq-Decides name name).1 refl)
own_place (name ∷ names) (suc k) distinct l =
    place_next (bytes_eq (get_or names k []) name) (place_of (get_or names k []) names) k
    (other_text name names k (omega arith) distinct.0) (own_place names k distinct.1 (omega arith))

named_at : (names : List (List ℕ)) (k : ℕ) → AllByRecursion IsName names → k < length names → is_name_text (get_or names k []) ≡ true
named_at [] k h l = absurd (omega arith)
named_at (name ∷ names) zero h l = h.0
named_at (name ∷ names) (suc k) h l = named_at names k h.1 (omega arith)

one_more : (X : Type 0) (xs : List X) (x : X) (rest : List X) → (xs ++ x ∷ []) ++ rest ≡ xs ++ x ∷ rest
one_more X xs x rest = append_assoc xs (x ∷ []) rest

longer : {X : Type 0} (xs : List X) (x : X) → length (xs ++ x ∷ []) ≡ length xs + 1
longer xs x = length-append xs (x ∷ [])

-- ---- the component that was begun last

abbrev with_last : Net → List ℕ → Automaton → Net
with_last net name c = record net { component_names = net.component_names ++ name ∷ []; components = net.components ++ c ∷ [] }

component_added : (net : Net) (name : List ℕ) → IsName name → place_of name net.component_names ≡ None → length net.components < 1000 → grown net (component name) ≡ Some (with_last net name no_component)
component_added net name n absent few =
    adds (is_name_text name) (component_refusal net name) (with_component net name) n
    (unlimited (is_some (place_of name net.component_names)) (nat_le 1000 (length net.components)) (none (place_of name net.component_names) absent) (not_most 1000 (length net.components) few))

state_added : (net : Net) (name : List ℕ) (c : Automaton) (text : List ℕ) (mark : Bool) → IsName text → place_of text c.state_names ≡ None → length c.state_names < 256
    → grown (with_last net name c) (state text mark) ≡ Some (with_last net name (with_state text mark c))
state_added net name c text mark n absent few =
    let all = net.components ++ c ∷ [] in
    let at = length all - 1 in
    adds (is_name_text text) (state_refusal all at text) (change_component at (with_state text mark) (with_last net name c)) n
    (state_refusal-at all at text c (slice_get-last net.components c)
    ∙ unlimited (is_some (place_of text c.state_names)) (nat_le 256 (length c.state_names)) (none (place_of text c.state_names) absent) (not_most 256 (length c.state_names) few))
    ∙ ap (λ cs. Some (record (with_last net name c) { components = cs })) (change_at-last net.components c (with_state text mark))

-- a component with states alone
abbrev of_states : List (List ℕ) → List Bool → Automaton
of_states names marks = record { state_names = names; initial = marks; transitions = []; action_names = [] }

states_grow : (net : Net) (name : List ℕ) (known : List (List ℕ)) (seen : List Bool) (names : List (List ℕ)) (marks : List Bool) → length marks ≡ length names → AllByRecursion IsName names
    → AreDistinct (known ++ names) → length known + length names ≤ 256
    → AllGrow (with_last net name (of_states known seen)) (each_named line_of_state names marks) (with_last net name (of_states (known ++ names) (seen ++ marks)))
states_grow net name known seen [] [] same n distinct few = λ i. with_last net name (of_states (sym (append-nil known) i) (sym (append-nil seen) i))
states_grow net name known seen [] (mark ∷ marks) same n distinct few = absurd (omega (arith, same))
states_grow net name known seen (text ∷ names) [] same n distinct few = absurd (omega (arith, same))
states_grow net name known seen (text ∷ names) (mark ∷ marks) same n distinct few = (
  with_last net name (of_states (known ++ text ∷ []) (seen ++ mark ∷ [])),
  state_added net name (of_states known seen) text mark n.0 (new_name known text names distinct) (omega arith),
  tt,
  AllGrow-to (with_last net name (of_states (known ++ text ∷ []) (seen ++ mark ∷ []))) _ _ (each_named line_of_state names marks)
      (λ i. with_last net name (of_states (one_more (List ℕ) known text names i) (one_more Bool seen mark marks i)))
      (states_grow net name (known ++ text ∷ []) (seen ++ mark ∷ []) names marks (omega arith) n.1 (subst AreDistinct (sym (one_more (List ℕ) known text names)) distinct) (omega (arith, longer known text))),
)

-- ---- transitions

-- the component with some of its transitions
abbrev partial : Automaton → List Trans → List (List ℕ) → Automaton
partial c earlier known = record c { transitions = earlier; action_names = known }

count_last : (components : List Automaton) (c : Automaton) → trans_count (components ++ c ∷ []) ≡ trans_count components + length c.transitions
unfolding trans_count
count_last components c = sum_by_push (λ (d : Automaton). length d.transitions) components c

count_first : (c : Automaton) (components : List Automaton) → trans_count (c ∷ components) ≡ length c.transitions + trans_count components
unfolding trans_count
count_first c components = sum_by-cons (λ (d : Automaton). length d.transitions) c components

-- what a transition of the component needs, where these are before it
record Fits (c : Automaton) (earlier : List Trans) (known : List (List ℕ)) (t : Trans) : Type 0 where
  states : AreDistinct c.state_names
  inside : IsTransOf (length c.state_names) (length c.action_names) t
  named : IsName (name_at c.action_names t.action)
  place : action_place known (name_at c.action_names t.action) ≡ t.action
  absent : has_trans (partial c earlier known) t.from (name_at c.action_names t.action) t.to ≡ false

transition_added : (net : Net) (name : List ℕ) (c : Automaton) (earlier : List Trans) (known : List (List ℕ)) (t : Trans) → Fits c earlier known t → trans_count net.components + length earlier < 50000
    → grown (with_last net name (partial c earlier known)) (line_of_transition c t) ≡ Some (with_last net name (partial c (earlier ++ t ∷ []) (with_action (name_at c.action_names t.action) known)))
transition_added net name c earlier known t f few =
    let p = partial c earlier known in
    let whole = with_last net name p in
    let all = net.components ++ p ∷ [] in
    let at = length all - 1 in
    let action = name_at c.action_names t.action in
    let source : place_of (name_at c.state_names t.from) (last_states whole) ≡ Some t.from =
    ap (λ (d : Automaton). place_of (name_at c.state_names t.from) d.state_names) (slice_index_or-last net.components p) ∙ own_place c.state_names t.from f.states f.inside.from in
    let target : place_of (name_at c.state_names t.to) (last_states whole) ≡ Some t.to =
    ap (λ (d : Automaton). place_of (name_at c.state_names t.to) d.state_names) (slice_index_or-last net.components p) ∙ own_place c.state_names t.to f.states f.inside.to in
    (λ i. cond (is_name_text action) (grown_by_transition whole action (source i) (target i)) None)
    ∙ adds (is_name_text action) (trans_refusal all at t.from action t.to) (change_component at (with_trans t.from action t.to) whole) f.named
    (trans_refusal-at all at t.from action t.to p (slice_get-last net.components p) f.inside.from f.inside.to
    ∙ unlimited (has_trans p t.from action t.to) (nat_le 50000 (trans_count all)) f.absent (not_most 50000 (trans_count all) (omega (arith, count_last net.components p))))
    ∙ ap (λ cs. Some (record whole { components = cs })) (change_at-last net.components p (with_trans t.from action t.to))
    ∙ (λ i. Some (with_last net name (partial c (earlier ++ record { from = t.from; action = f.place i; to = t.to } ∷ []) (with_action action known))))

KeepsPlaces-each_once : (known texts : List (List ℕ)) → KeepsPlaces known (each_once known texts)
KeepsPlaces-each_once known [] = KeepsPlaces-itself known
KeepsPlaces-each_once known (text ∷ texts) =
    record { kept = λ other k h. (KeepsPlaces-each_once (with_action text known) texts).kept other k ((KeepsPlaces-with_action text known).kept other k h) }

same_place : (o : Option ℕ) (i j : ℕ) → o ≡ Some i → o ≡ Some j → i ≡ j
same_place o i j h k = same_Some i j (sym h ∙ k)

absent_has : (from action to : ℕ) (earlier : List Trans) (o : Option ℕ) → ((k : ℕ) → o ≡ Some k → k ≡ action) → list_any (is_trans from action to) earlier ≡ false
    → option_map_or (λ a. list_any (is_trans from a to) earlier) o false ≡ false
absent_has from action to earlier None same h = refl
absent_has from action to earlier (Some k) same h = ap (λ a. list_any (is_trans from a to) earlier) (same k refl) ∙ h

fits : (c : Automaton) (earlier : List Trans) (known : List (List ℕ)) (t : Trans) (ts : List Trans) → IsDraftComponent c → IsTransOf (length c.state_names) (length c.action_names) t
    → list_any (is_trans t.from t.action t.to) earlier ≡ false → each_once known (map (λ t. name_at c.action_names t.action) (t ∷ ts)) ≡ c.action_names → Fits c earlier known t
fits c earlier known t ts d inside new order =
    let action = name_at c.action_names t.action in
    let kept : KeepsPlaces (with_action action known) c.action_names = subst (KeepsPlaces (with_action action known)) order (KeepsPlaces-each_once (with_action action known) (map (λ (t : Trans). name_at c.action_names t.action) ts)) in
    let own = own_place c.action_names t.action d.actions.distinct inside.action in
    record {
      states = d.states.distinct;
      inside = inside;
      named = named_at c.action_names t.action d.actions.each inside.action;
      place = same_place (place_of action c.action_names) (action_place known action) t.action (kept.kept action (action_place known action) (placed_action action known)) own;
      absent = absent_has t.from t.action t.to earlier (place_of action known)
          (λ k h. same_place (place_of action c.action_names) k t.action (kept.kept action k ((KeepsPlaces-with_action action known).kept action k h)) own) new;
    }

transitions_grow : (net : Net) (name : List ℕ) (c : Automaton) (earlier : List Trans) (known : List (List ℕ)) (ts : List Trans) → IsDraftComponent c
    → AllByRecursion (IsTransOf (length c.state_names) (length c.action_names)) ts → AreNew earlier ts → each_once known (map (λ t. name_at c.action_names t.action) ts) ≡ c.action_names
    → trans_count net.components + length earlier + length ts ≤ 50000
    → AllGrow (with_last net name (partial c earlier known)) (map (line_of_transition c) ts) (with_last net name (record c { transitions = earlier ++ ts }))
transitions_grow net name c earlier known [] d inside new order few = λ i. with_last net name (partial c (sym (append-nil earlier) i) (order i))
transitions_grow net name c earlier known (t ∷ ts) d inside new order few =
    let action = name_at c.action_names t.action in (
      with_last net name (partial c (earlier ++ t ∷ []) (with_action action known)),
      transition_added net name c earlier known t (fits c earlier known t ts d inside.0 new.0 order) (omega arith),
      tt,
      AllGrow-to (with_last net name (partial c (earlier ++ t ∷ []) (with_action action known))) _ _ (map (line_of_transition c) ts)
          (λ i. with_last net name (record c { transitions = one_more Trans earlier t ts i }))
          (transitions_grow net name c (earlier ++ t ∷ []) (with_action action known) ts d inside.1 new.1 order (omega (arith, longer earlier t))),
    )

-- ---- components

component_grows : (net : Net) (name : List ℕ) (c : Automaton) → IsName name → place_of name net.component_names ≡ None → length net.components < 1000 → IsDraftComponent c → IsInOrder c
    → trans_count net.components + length c.transitions ≤ 50000 → AllGrow net (lines_of_component name c) (with_last net name c)
component_grows net name c n absent few d o count = (
  with_last net name no_component,
  component_added net name n absent few,
  tt,
  AllGrow-append (with_last net name no_component) (with_last net name (of_states c.state_names c.initial)) (with_last net name c) (each_named line_of_state c.state_names c.initial) (map (line_of_transition c) c.transitions)
      (states_grow net name [] [] c.state_names c.initial d.marked d.states.each d.states.distinct (let m = d.few_states in omega arith))
      (transitions_grow net name c [] [] c.transitions d (recursion_from_All (IsTransOf (length c.state_names) (length c.action_names)) c.transitions d.trans) o.once o.in_order (omega arith)),
)

components_grow : (net : Net) (names : List (List ℕ)) (components : List Automaton) → length names ≡ length components → AllByRecursion IsName names → AreDistinct (net.component_names ++ names)
    → length net.components + length components ≤ 1000 → AllByRecursion IsDraftComponent components → AllByRecursion IsInOrder components → trans_count net.components + trans_count components ≤ 50000
    → AllGrow net (each_named lines_of_component names components) (record net { component_names = net.component_names ++ names; components = net.components ++ components })
components_grow net [] [] same n distinct few d o count = λ i. record net { component_names = sym (append-nil net.component_names) i; components = sym (append-nil net.components) i }
components_grow net [] (c ∷ cs) same n distinct few d o count = absurd (omega (arith, same))
components_grow net (name ∷ names) [] same n distinct few d o count = absurd (omega (arith, same))
components_grow net (name ∷ names) (c ∷ cs) same n distinct few d o count =
    let first = count_first c cs in
    AllGrow-append net (with_last net name c) _ (lines_of_component name c) (each_named lines_of_component names cs)
    (component_grows net name c n.0 (new_name net.component_names name names distinct) (omega arith) d.0 o.0 (omega (arith, first)))
    (AllGrow-to (with_last net name c) _ _ (each_named lines_of_component names cs)
    (λ i. record net { component_names = one_more (List ℕ) net.component_names name names i; components = one_more Automaton net.components c cs i })
    (components_grow (with_last net name c) names cs (omega arith) n.1 (subst AreDistinct (sym (one_more (List ℕ) net.component_names name names)) distinct) (omega (arith, longer net.components c)) d.1 o.1
    (omega (arith, first, count_last net.components c))))

-- ---- events

abbrev with_events : Net → List (List ℕ) → List Happening → Net
with_events net names events = record net { event_names = names; events = events }

module _ (net : Net) (d : IsDraft net) where
  part_found : (names : List (List ℕ)) (events : List Happening) (p : Part) → IsPart net.components p → part_of (with_events net names events) (part_by_name net p) ≡ Some p
  part_found names events p h =
      let place : place_of (name_at net.component_names p.comp) net.component_names ≡ Some p.comp =
      own_place net.component_names p.comp d.component_names.distinct (let l = d.named in let m = h.component in omega arith) in
      let action : place_of (name_at (component_at net p.comp).action_names p.action) (component_at net p.comp).action_names ≡ Some p.action =
      own_place (component_at net p.comp).action_names p.action (All-get_or IsDraftComponent net.components p.comp no_component h.component d.components.each).actions.distinct h.action in
      ap (λ o. option_and_then (λ c. option_map (λ a. record { comp = c; action = a }) (place_of (name_at (component_at net p.comp).action_names p.action) (component_at net c).action_names)) o) place
      ∙ ap (λ o. option_map (λ a. record { comp = p.comp; action = a }) o) action

  all_step : (o : Option Part) (r : Option (List Part)) (p : Part) (ps : List Part) → o ≡ Some p → r ≡ Some ps → option_and_then (λ y. option_map (λ ys. y ∷ ys) r) o ≡ Some (p ∷ ps)
  all_step o r p ps h k = rw (h, k) refl

  parts_found : (names : List (List ℕ)) (events : List Happening) (parts : List Part) → AllByRecursion (IsPart net.components) parts
      → parts_by_name (with_events net names events) (map (part_by_name net) parts) ≡ Some parts
  parts_found names events [] h = refl
  parts_found names events (p ∷ ps) h =
      all_step (part_of (with_events net names events) (part_by_name net p)) (parts_by_name (with_events net names events) (map (part_by_name net) ps)) p ps (part_found names events p h.0) (parts_found names events ps h.1)

  either : (a b : Bool) → a ≡ false → b ≡ false → (a || b) ≡ false
  either a b h k = rw (h, k) refl

  event_added : (names : List (List ℕ)) (events : List Happening) (name : List ℕ) (e : Happening) → IsName name → place_of name names ≡ None → length events < 4000 → IsEvent net.components e → IsDraftEvent net.components e → HasNamedLabel e
      → grown (with_events net names events) (event name e.label e.fault (map (part_by_name net) e.parts)) ≡ Some (with_events net (names ++ name ∷ []) (events ++ e ∷ []))
  event_added names events name e n absent few known draft label =
      let now = with_events net names events in
      ap (λ o. cond (list_all is_name_text (name ∷ option_to_list e.label)) (grown_by_event now name e.label e.fault o) None) (parts_found names events e.parts known.known)
      ∙ adds (list_all is_name_text (name ∷ option_to_list e.label)) (event_refusal now name e.parts) (with_event now name e.parts e.label e.fault)
      (join (is_name_text name) (list_all is_name_text (option_to_list e.label)) n label)
      (event_refusal-known now name e.parts draft.known
      ∙ unlimited (is_some (place_of name names) || repeats e.parts) (nat_le 4000 (length events) || nat_lt 16 (length e.parts))
      (either (is_some (place_of name names)) (repeats e.parts) (none (place_of name names) absent) draft.once)
      (either (nat_le 4000 (length events)) (nat_lt 16 (length e.parts)) (not_most 4000 (length events) few) (not_less 16 (length e.parts) draft.few)))

  events_grow : (before : List (List ℕ)) (earlier : List Happening) (names : List (List ℕ)) (events : List Happening) → length names ≡ length events → AllByRecursion IsName names → AreDistinct (before ++ names)
      → length earlier + length events ≤ 4000 → AllByRecursion (IsEvent net.components) events → AllByRecursion (IsDraftEvent net.components) events → AllByRecursion HasNamedLabel events
      → AllGrow (with_events net before earlier) (each_named (line_of_event net) names events) (with_events net (before ++ names) (earlier ++ events))
  events_grow before earlier [] [] same n distinct few known draft label = λ i. with_events net (sym (append-nil before) i) (sym (append-nil earlier) i)
  events_grow before earlier [] (e ∷ es) same n distinct few known draft label = absurd (omega (arith, same))
  events_grow before earlier (name ∷ names) [] same n distinct few known draft label = absurd (omega (arith, same))
  events_grow before earlier (name ∷ names) (e ∷ es) same n distinct few known draft label = (
    with_events net (before ++ name ∷ []) (earlier ++ e ∷ []),
    event_added before earlier name e n.0 (new_name before name names distinct) (omega arith) known.0 draft.0 label.0,
    (let some = draft.0.some in omega (arith, length-map e.parts (part_by_name net))),
    AllGrow-to (with_events net (before ++ name ∷ []) (earlier ++ e ∷ [])) _ _ (each_named (line_of_event net) names es)
        (λ i. with_events net (one_more (List ℕ) before name names i) (one_more Happening earlier e es i))
        (events_grow (before ++ name ∷ []) (earlier ++ e ∷ []) names es (omega arith) n.1 (subst AreDistinct (sym (one_more (List ℕ) before name names)) distinct) (omega (arith, longer earlier e)) known.1 draft.1 label.1),
  )

-- ---- the whole network

pub network_grows : (net : Net) → IsDraft net → IsNetwork net → IsAsRead net → AllGrow no_net (lines_of_network net) net
network_grows net d whole r =
    AllGrow-append no_net (with_events net [] []) net (each_named lines_of_component net.component_names net.components) (each_named (line_of_event net) net.event_names net.events)
    (components_grow no_net net.component_names net.components d.named d.component_names.each d.component_names.distinct (let f = d.few_comps in omega arith)
    (recursion_from_All IsDraftComponent net.components d.components.each) (recursion_from_All IsInOrder net.components r.components) (let f = d.few_trans in omega (arith, trans_count-none)))
    (events_grow net d [] [] net.event_names net.events d.called d.event_names.each d.event_names.distinct (let f = d.few_events in omega arith)
    whole.events (recursion_from_All (IsDraftEvent net.components) net.events d.events.each) (recursion_from_All HasNamedLabel net.events r.events))
