-- A network stays one under each addition.
use Rattle.std.proofs.Common.{◌≡◌, ◌<◌, ◌≤◌, ◌+◌, ℕ, zero, suc, Bool, true, false, cond, List, [], ◌∷◌, ◌++◌, length, Option, None, Some, refl, arith, ap, sym, ◌∙◌, subst, length-append, add-zero, get_or, Result, Ok, Err}
use Rattle.std.specs.Prelude.{IsErr, OnOk, is_some, nat_le, nat_lt, slice_get, slice_set, sum_by, ◌&&◌, ◌||◌}
use Rattle.std.specs.List.{list_all}
use Rattle.std.specs.Option.{option_map_or}
use Rattle.std.proofs.lemmas.List.Elements.{All-push, All-weaker, All-nil, All-set}
use Rattle.std.proofs.lemmas.List.Sums.{sum_by-cons, sum_by_push}
use Rattle.std.proofs.lemmas.Bool.Decides.{nat_tests}
use Rattle.std.proofs.lemmas.Option.{slice_get_past, slice_get_read}
use Rattle.std.proofs.lemmas.Grind.{common_steps}
use Rattle.des_base.specs.Names.{place_of, IsName}
use Rattle.des_base.proofs.TableLemmas.{AreNames-push}
use Rattle.des_base.proofs.BoolLemmas.{most_not, less_not, less_is}
pub use Rattle.des_base.proofs.Results.{on_err}
use Rattle.des_net.specs.declared.parts.Part.{Part}
use Rattle.des_net.specs.Limits.{most_components, most_states, most_transitions, most_events, most_parts}
use Rattle.des_net.specs.Network.{Component, Event, Net, no_net, no_component}
use Rattle.des_net.specs.Building.{IsDraft, IsDraftComponent, AreDraftComponents, IsDraftEvent, AreDraftEvents, is_known, change_at, change_component, trans_count, with_component, with_event, with_state, with_trans, action_place, has_trans, trans_refusal, state_refusal, state_count, event_refusal, repeats}
use Rattle.des_net.specs.declared.refusal.BuildRefusal.{BuildRefusal}
use Rattle.des_net.specs.declared.refusal.BuildRefusal.TheVariants.{Double, Unknown, Limit}
use Rattle.des_net.specs.View.{builder_view, IsBuilder}
use Rattle.des_net.specs.declared.builder.Builder.TheInside.{Inside}
use Rattle.des_net.proofs.ComponentLemmas.{AreNames-none, IsDraftComponent-none, with_action-grows}

-- what was known of the components is known after the change
abbrev pub Keeps : List Component → List Component → Type 0
Keeps old new = (p : Part) → is_known old p ≡ true → is_known new p ≡ true

abbrev has : List Component → ℕ → ℕ → Bool
has components j a = option_map_or (λ c. nat_lt a (length c.action_names)) (slice_get components j) false

less : (a m n : ℕ) → m ≤ n → nat_lt a m ≡ true → nat_lt a n ≡ true
less a m n h e = grind (arith, nat_tests)

has_set : (components : List Component) (i j a : ℕ) (c y : Component) → slice_get components i ≡ Some c → length c.action_names ≤ length y.action_names → has components j a ≡ true → has (slice_set components i y) j a ≡ true
has_set [] i j a c y at grows h = cc
has_set (x ∷ xs) zero zero a c y at grows h = let e : x ≡ c = cc in less a _ _ (subst (λ (d : Component). length d.action_names ≤ length y.action_names) (sym e) grows) h
has_set (x ∷ xs) zero (suc j) a c y at grows h = h
has_set (x ∷ xs) (suc i) zero a c y at grows h = h
has_set (x ∷ xs) (suc i) (suc j) a c y at grows h = has_set xs i j a c y at grows h

has_push : (components : List Component) (y : Component) (j a : ℕ) → has components j a ≡ true → has (components ++ y ∷ []) j a ≡ true
has_push [] y j a h = cc
has_push (x ∷ xs) y zero a h = h
has_push (x ∷ xs) y (suc j) a h = has_push xs y j a h

-- changing a component so that its actions stay
changed : (change : Component → Component) → ((c : Component) → length c.action_names ≤ length (change c).action_names) → (components : List Component) (i : ℕ) (o : Option Component) → slice_get components i ≡ o
    → Keeps components (option_map_or (λ c. slice_set components i (change c)) o components)
unfolding is_known
changed change grows components i None at p h = h
changed change grows components i (Some c) at p h = has_set components i p.comp p.action c (change c) at (grows c) h

pub Keeps-change_at : (i : ℕ) (change : Component → Component) → ((c : Component) → length c.action_names ≤ length (change c).action_names) → (components : List Component) → Keeps components (change_at i change components)
unfolding change_at
Keeps-change_at i change grows components = changed change grows components i (slice_get components i) refl

pub Keeps-push : (components : List Component) (y : Component) → Keeps components (components ++ y ∷ [])
unfolding is_known
Keeps-push components y p h = has_push components y p.comp p.action h

and_both : (a b c d : Bool) → (a ≡ true → c ≡ true) → (b ≡ true → d ≡ true) → (a && b) ≡ true → (c && d) ≡ true
and_both true true c d f g h = rw (f refl, g refl) refl
and_both true false c d f g h = cc
and_both false b c d f g h = cc

all_kept : (p q : Part → Bool) → ((x : Part) → p x ≡ true → q x ≡ true) → (xs : List Part) → list_all p xs ≡ true → list_all q xs ≡ true
all_kept p q f [] h = refl
all_kept p q f (x ∷ xs) h = and_both (p x) (list_all p xs) (q x) (list_all q xs) (f x) (all_kept p q f xs) h

event_kept : (old new : List Component) → Keeps old new → (e : Event) → IsDraftEvent old e → IsDraftEvent new e
event_kept old new k e h = record { some = h.some; few = h.few; once = h.once; known = all_kept (is_known old) (is_known new) k e.parts h.known }

pub events_kept : (old new : List Component) (events : List Event) → Keeps old new → AreDraftEvents old events → AreDraftEvents new events
events_kept old new events k h = record { each = All-weaker (IsDraftEvent old) (IsDraftEvent new) (event_kept old new k) events h.each }

-- other components in their place
pub IsDraft-changed : (net : Net) (components : List Component) → IsDraft net → Keeps net.components components → length components ≡ length net.components → trans_count components ≤ most_transitions → AreDraftComponents components → IsDraft (record net { components = components })
IsDraft-changed net components h k same few whole = record {
  components = whole;
  named = omega arith;
  called = h.called;
  component_names = h.component_names;
  event_names = h.event_names;
  few_comps = omega arith;
  few_events = h.few_events;
  few_trans = few;
  events = events_kept net.components components net.events k h.events;
}

length_set : (components : List Component) (i : ℕ) (y : Component) → length (slice_set components i y) ≡ length components
length_set components i y = grind (arith, common_steps)

length_change : (change : Component → Component) (components : List Component) (i : ℕ) (o : Option Component) → length (option_map_or (λ c. slice_set components i (change c)) o components) ≡ length components
length_change change components i None = refl
length_change change components i (Some c) = length_set components i (change c)

pub length-change_at : (i : ℕ) (change : Component → Component) (components : List Component) → length (change_at i change components) ≡ length components
unfolding change_at
length-change_at i change components = length_change change components i (slice_get components i)

-- the count of transitions, by components
abbrev sizes : List Component → ℕ
sizes components = sum_by (λ c. length c.transitions) components

count_set : (components : List Component) (i : ℕ) (c y : Component) → slice_get components i ≡ Some c → sizes (slice_set components i y) + length c.transitions ≡ sizes components + length y.transitions
count_set [] i c y at = cc
count_set (x ∷ xs) zero c y at = let e : x ≡ c = cc in let l : length x.transitions ≡ length c.transitions = ap (λ (d : Component). length d.transitions) e in omega (arith, sum_by-cons (λ (d : Component). length d.transitions) x xs, sum_by-cons (λ (d : Component). length d.transitions) y xs)
count_set (x ∷ xs) (suc i) c y at = omega (arith, count_set xs i c y at, sum_by-cons (λ (d : Component). length d.transitions) x xs, sum_by-cons (λ (d : Component). length d.transitions) x (slice_set xs i y))

-- one component has no more than all have
pub count_at : (components : List Component) (i : ℕ) (c : Component) → slice_get components i ≡ Some c → length c.transitions ≤ trans_count components
unfolding trans_count
count_at [] i c at = cc
count_at (x ∷ xs) zero c at = let e : x ≡ c = cc in let l : length x.transitions ≡ length c.transitions = ap (λ (d : Component). length d.transitions) e in omega (arith, sum_by-cons (λ (d : Component). length d.transitions) x xs)
count_at (x ∷ xs) (suc i) c at = let r : length c.transitions ≤ sizes xs = count_at xs i c at in omega (arith, sum_by-cons (λ (d : Component). length d.transitions) x xs)

pub IsDraft-none : IsDraft no_net
unfolding trans_count
IsDraft-none = record {
  named = refl;
  called = refl;
  component_names = AreNames-none;
  event_names = AreNames-none;
  few_comps = omega arith;
  few_events = omega arith;
  few_trans = omega arith;
  events = record { each = All-nil (IsDraftEvent []) };
  components = record { each = All-nil IsDraftComponent };
}

pub components_set : (components : List Component) (i : ℕ) (c : Component) → AreDraftComponents components → IsDraftComponent c → AreDraftComponents (slice_set components i c)
components_set components i c h w = record { each = All-set IsDraftComponent components i c w h.each }

pub IsDraft-with_component : (net : Net) (name : List ℕ) → IsDraft net → IsName name → place_of name net.component_names ≡ None → length net.components < most_components → IsDraft (with_component net name)
unfolding trans_count
IsDraft-with_component net name h n none few = record {
  components = record { each = All-push IsDraftComponent net.components no_component h.components.each IsDraftComponent-none };
  named = omega (arith, h.named, length-append net.component_names (name ∷ []), length-append net.components (no_component ∷ []));
  called = h.called;
  component_names = AreNames-push net.component_names name h.component_names n none (let l = h.named in omega arith);
  event_names = h.event_names;
  few_comps = omega (arith, length-append net.components (no_component ∷ []));
  few_events = h.few_events;
  few_trans = let f = h.few_trans in omega (arith, sum_by_push (λ (d : Component). length d.transitions) net.components no_component);
  events = events_kept net.components _ net.events (Keeps-push net.components no_component) h.events;
}

pub trans_count-none : trans_count [] ≡ 0
unfolding trans_count
trans_count-none = refl

pub trans_count-push : (components : List Component) → trans_count (components ++ no_component ∷ []) ≡ trans_count components
unfolding trans_count
trans_count-push components = sum_by_push (λ (d : Component). length d.transitions) components no_component ∙ add-zero (sizes components)

pub IsDraft-with_event : (net : Net) (name : List ℕ) (e : Event) → IsDraft net → IsName name → place_of name net.event_names ≡ None → IsDraftEvent net.components e → length net.events < most_events → IsDraft (with_event net name e.parts e.label e.fault)
IsDraft-with_event net name e h n none of few = record {
  components = h.components;
  named = h.named;
  called = omega (arith, h.called, length-append net.event_names (name ∷ []), length-append net.events (e ∷ []));
  component_names = h.component_names;
  event_names = AreNames-push net.event_names name h.event_names n none (let l = h.called in omega arith);
  few_comps = h.few_comps;
  few_events = omega (arith, length-append net.events (e ∷ []));
  few_trans = h.few_trans;
  events = record { each = All-push (IsDraftEvent net.components) net.events e h.events.each of };
}

-- a new state leaves the transitions as they were
state_count_change : (name : List ℕ) (init : Bool) (components : List Component) (i : ℕ) (o : Option Component) → slice_get components i ≡ o → sizes (option_map_or (λ c. slice_set components i (with_state name init c)) o components) ≡ sizes components
state_count_change name init components i None at = refl
state_count_change name init components i (Some c) at = omega (arith, count_set components i c (with_state name init c) at)

pub trans_count-with_state : (name : List ℕ) (init : Bool) (components : List Component) (i : ℕ) → trans_count (change_at i (with_state name init) components) ≡ trans_count components
unfolding trans_count change_at
trans_count-with_state name init components i = state_count_change name init components i (slice_get components i) refl

pub IsDraft-with_state : (net : Net) (i : ℕ) (name : List ℕ) (init : Bool) → IsDraft net → AreDraftComponents (change_at i (with_state name init) net.components) → IsDraft (change_component i (with_state name init) net)
IsDraft-with_state net i name init h whole =
    IsDraft-changed net _ h (Keeps-change_at i (with_state name init) (λ c. omega arith) net.components) (length-change_at i (with_state name init) net.components)
    (let f = h.few_trans in omega (arith, trans_count-with_state name init net.components i)) whole

-- a new transition is one more
trans_count_change : (from : ℕ) (action : List ℕ) (to : ℕ) (components : List Component) (i : ℕ) (c : Component) → slice_get components i ≡ Some c → sizes (slice_set components i (with_trans from action to c)) ≡ sizes components + 1
trans_count_change from action to components i c at = omega (arith, count_set components i c (with_trans from action to c) at, length-append c.transitions (record { from = from; action = action_place c.action_names action; to = to } ∷ []))

pub trans_count-set : (from : ℕ) (action : List ℕ) (to : ℕ) (components : List Component) (i : ℕ) (c : Component) → slice_get components i ≡ Some c → trans_count (slice_set components i (with_trans from action to c)) ≡ trans_count components + 1
unfolding trans_count
trans_count-set from action to components i c at = trans_count_change from action to components i c at

pub IsDraft-with_trans : (net : Net) (i from : ℕ) (action : List ℕ) (to : ℕ) → IsDraft net → trans_count (change_at i (with_trans from action to) net.components) ≤ most_transitions → AreDraftComponents (change_at i (with_trans from action to) net.components) → IsDraft (change_component i (with_trans from action to) net)
IsDraft-with_trans net i from action to h few whole =
    IsDraft-changed net _ h (Keeps-change_at i (with_trans from action to) (λ c. with_action-grows c.action_names action) net.components) (length-change_at i (with_trans from action to) net.components) few whole

-- a builder whose lists are a network's
pub IsBuilder-from : (a : Inside) (net : Net) → builder_view a ≡ net → IsDraft net → a.transition_count ≡ trans_count net.components → IsBuilder a
IsBuilder-from a net e h t = record { plant = subst IsDraft (sym e) h; counted = t ∙ ap (λ (n : Net). trans_count n.components) (sym e) }

pub counted-from : (a : Inside) (net : Net) → builder_view a ≡ net → IsBuilder a → a.transition_count ≡ trans_count net.components
counted-from a net e h = h.counted ∙ ap (λ (n : Net). trans_count n.components) e

pub plant-from : (a : Inside) (net : Net) → builder_view a ≡ net → IsBuilder a → IsDraft net
plant-from a net e h = subst IsDraft e h.plant

-- the change of a component that is there
pub change_at-at : (i : ℕ) (change : Component → Component) (components : List Component) (c : Component) → slice_get components i ≡ Some c → change_at i change components ≡ slice_set components i (change c)
unfolding change_at
change_at-at i change components c at = ap (λ o. option_map_or (λ d. slice_set components i (change d)) o components) at

pub at_least : (m n k : ℕ) → k ≡ n → m ≤ k → nat_le m n ≡ true
at_least m n k e h = grind (arith, nat_tests)

pub not_at_least : (m n k : ℕ) → k ≡ n → k < m → nat_le m n ≡ false
not_at_least m n k e h = grind (arith, nat_tests)

pub below : (m n k l : ℕ) → l ≡ m → k ≡ n → l < k → nat_lt m n ≡ true
below m n k l d e h = grind (arith, nat_tests)

pub not_below : (m n k l : ℕ) → l ≡ m → k ≡ n → k ≤ l → nat_lt m n ≡ false
not_below m n k l d e h = grind (arith, nat_tests)

pub is_found : (name text : List ℕ) (names : List (List ℕ)) (o : Option ℕ) (b c : Bool) → text ≡ name → o ≡ place_of text names → b ≡ is_some o → b ≡ c → is_some (place_of name names) ≡ c
is_found name text names o b c t p e f = sym (ap (λ x. is_some (place_of x names)) t) ∙ sym (ap is_some p) ∙ sym e ∙ f

within_none : {X : Type 0} {R : Type 0} (f : X → Option R) (unknown : R) (xs : List X) (i : ℕ) → option_map_or f (slice_get xs i) (Some unknown) ≡ None → i < length xs
within_none f unknown [] i h = cc
within_none f unknown (x ∷ xs) zero h = omega arith
within_none f unknown (x ∷ xs) (suc i) h = let r : i < length xs = within_none f unknown xs i h in omega arith

-- the component that is read at a place
pub component-read : (components : List Component) (place i : ℕ) (c : Component) → place ≡ i → place < length components → c ≡ get_or components place c → slice_get components i ≡ Some c
component-read components place i c p h r = subst (λ k. slice_get components k ≡ Some c) p (slice_get_read components _ place c refl h r)

-- what is put in the place of an equal one
pub set_same : (components : List Component) (i : ℕ) (c y : Component) → y ≡ c → c ≡ get_or components i c → slice_set components i y ≡ components
set_same [] i c y e h = refl
set_same (x ∷ xs) zero c y e h = ap (λ z. z ∷ xs) (e ∙ h)
set_same (x ∷ xs) (suc i) c y e h = ap (λ zs. x ∷ zs) (set_same xs i c y e h)

pub on_ok : {X E : Type 0} (r : Result X E) (P : Type 0) → IsErr r → OnOk r P
on_ok (Ok x) P e = cc
on_ok (Err e) P f = tt

-- why a state is refused
abbrev state_tests : Bool → Bool → Option BuildRefusal
state_tests double limit = cond double (Some Double) (cond limit (Some Limit) None)

pub state_refusal-past : (components : List Component) (place i : ℕ) (name : List ℕ) → place ≡ i → length components ≤ place → state_refusal components i name ≡ Some Unknown
unfolding state_refusal
state_refusal-past components place i name p h = ap (λ o. option_map_or (λ c. state_tests (is_some (place_of name c.state_names)) (nat_le most_states (length c.state_names))) o (Some Unknown)) (slice_get_past components i (subst (λ k. length components ≤ k) p h))

pub state_refusal-at : (components : List Component) (i : ℕ) (name : List ℕ) (c : Component) (double limit : Bool) → slice_get components i ≡ Some c → is_some (place_of name c.state_names) ≡ double → nat_le most_states (length c.state_names) ≡ limit
    → state_refusal components i name ≡ state_tests double limit
unfolding state_refusal
state_refusal-at components i name c double limit at d l =
    ap (λ o. option_map_or (λ c. state_tests (is_some (place_of name c.state_names)) (nat_le most_states (length c.state_names))) o (Some Unknown)) at ∙ rw (d, l) refl

-- what is true where a state isn't refused
pub record MayAddState (c : Component) (name : List ℕ) : Type 0 where
  pub new : place_of name c.state_names ≡ None
  pub room : length c.state_names < most_states

may_add_state : (c : Component) (name : List ℕ) (o : Option ℕ) (limit : Bool) → place_of name c.state_names ≡ o → nat_le most_states (length c.state_names) ≡ limit → state_tests (is_some o) limit ≡ None → MayAddState c name
may_add_state c name None false e f h = record { new = e; room = most_not _ _ f }
may_add_state c name None true e f h = cc
may_add_state c name (Some i) limit e f h = cc

pub state-within : (components : List Component) (i : ℕ) (name : List ℕ) → state_refusal components i name ≡ None → i < length components
unfolding state_refusal
state-within components i name h = within_none _ _ components i h

pub may-add-state : (components : List Component) (i : ℕ) (name : List ℕ) (c : Component) → slice_get components i ≡ Some c → state_refusal components i name ≡ None → MayAddState c name
may-add-state components i name c at h = may_add_state c name _ _ refl refl (sym (state_refusal-at components i name c _ _ at refl refl) ∙ h)

pub state_count-at : (components : List Component) (i : ℕ) (c : Component) → slice_get components i ≡ Some c → state_count components i ≡ length c.state_names
unfolding state_count
state_count-at components i c at = ap (λ o. option_map_or (λ d. length d.state_names) o 0) at

-- why a transition is refused
abbrev trans_tests : Bool → Bool → Bool → Bool → Option BuildRefusal
trans_tests double leaves enters limit = cond double (Some Double) (cond (leaves && enters) (cond limit (Some Limit) None) (Some Unknown))

pub trans_refusal-past : (components : List Component) (place i from : ℕ) (action : List ℕ) (to : ℕ) → place ≡ i → length components ≤ place → trans_refusal components i from action to ≡ Some Unknown
unfolding trans_refusal
trans_refusal-past components place i from action to p h =
    ap (λ o. option_map_or (λ c. trans_tests (has_trans c from action to) (nat_lt from (length c.state_names)) (nat_lt to (length c.state_names)) (nat_le most_transitions (trans_count components))) o (Some Unknown)) (slice_get_past components i (subst (λ k. length components ≤ k) p h))

pub trans_refusal-at : (components : List Component) (i from : ℕ) (action : List ℕ) (to : ℕ) (c : Component) (double leaves enters limit : Bool) → slice_get components i ≡ Some c
    → has_trans c from action to ≡ double → nat_lt from (length c.state_names) ≡ leaves → nat_lt to (length c.state_names) ≡ enters → nat_le most_transitions (trans_count components) ≡ limit
    → trans_refusal components i from action to ≡ trans_tests double leaves enters limit
unfolding trans_refusal
trans_refusal-at components i from action to c double leaves enters limit at d f t l =
    ap (λ o. option_map_or (λ c. trans_tests (has_trans c from action to) (nat_lt from (length c.state_names)) (nat_lt to (length c.state_names)) (nat_le most_transitions (trans_count components))) o (Some Unknown)) at ∙ rw (d, f, t, l) refl

-- what is true where a transition isn't refused
pub record MayAddTrans (components : List Component) (c : Component) (from : ℕ) (action : List ℕ) (to : ℕ) : Type 0 where
  pub new : has_trans c from action to ≡ false
  pub leaves : from < length c.state_names
  pub enters : to < length c.state_names
  pub room : trans_count components < most_transitions

may_add_trans : (components : List Component) (c : Component) (from : ℕ) (action : List ℕ) (to : ℕ) (double leaves enters limit : Bool)
    → has_trans c from action to ≡ double → nat_lt from (length c.state_names) ≡ leaves → nat_lt to (length c.state_names) ≡ enters → nat_le most_transitions (trans_count components) ≡ limit
    → trans_tests double leaves enters limit ≡ None → MayAddTrans components c from action to
may_add_trans components c from action to false true true false d f t l h = record { new = d; leaves = less_is _ _ f; enters = less_is _ _ t; room = most_not _ _ l }
may_add_trans components c from action to false true true true d f t l h = cc
may_add_trans components c from action to false true false limit d f t l h = cc
may_add_trans components c from action to false false enters limit d f t l h = cc
may_add_trans components c from action to true leaves enters limit d f t l h = cc

pub trans-within : (components : List Component) (i from : ℕ) (action : List ℕ) (to : ℕ) → trans_refusal components i from action to ≡ None → i < length components
unfolding trans_refusal
trans-within components i from action to h = within_none _ _ components i h

pub may-add-trans : (components : List Component) (i from : ℕ) (action : List ℕ) (to : ℕ) (c : Component) → slice_get components i ≡ Some c → trans_refusal components i from action to ≡ None → MayAddTrans components c from action to
may-add-trans components i from action to c at h = may_add_trans components c from action to _ _ _ _ refl refl refl refl (sym (trans_refusal-at components i from action to c _ _ _ _ at refl refl refl refl) ∙ h)

-- why an event is refused
abbrev event_tests : Bool → Bool → Bool → Bool → Bool → Option BuildRefusal
event_tests named repeated known full wide = cond (named || repeated) (Some Double) (cond known (cond (full || wide) (Some Limit) None) (Some Unknown))

pub event_refusal-by : (net : Net) (name : List ℕ) (parts : List Part) (named repeated known full wide : Bool)
    → is_some (place_of name net.event_names) ≡ named → repeats parts ≡ repeated → list_all (is_known net.components) parts ≡ known → nat_le most_events (length net.events) ≡ full → nat_lt most_parts (length parts) ≡ wide
    → event_refusal net name parts ≡ event_tests named repeated known full wide
unfolding event_refusal
event_refusal-by net name parts named repeated known full wide n r k f w = rw (n, r, k, f, w) refl

-- what is true where an event isn't refused
pub record MayAddEvent (net : Net) (name : List ℕ) (parts : List Part) : Type 0 where
  pub new : place_of name net.event_names ≡ None
  pub once : repeats parts ≡ false
  pub known : list_all (is_known net.components) parts ≡ true
  pub room : length net.events < most_events
  pub few : length parts ≤ most_parts

may_add_event : (net : Net) (name : List ℕ) (parts : List Part) (o : Option ℕ) (repeated known full wide : Bool)
    → place_of name net.event_names ≡ o → repeats parts ≡ repeated → list_all (is_known net.components) parts ≡ known → nat_le most_events (length net.events) ≡ full → nat_lt most_parts (length parts) ≡ wide
    → event_tests (is_some o) repeated known full wide ≡ None → MayAddEvent net name parts
may_add_event net name parts None false true false false n r k f w h = record { new = n; once = r; known = k; room = most_not _ _ f; few = less_not _ _ w }
may_add_event net name parts None false true false true n r k f w h = cc
may_add_event net name parts None false true true wide n r k f w h = cc
may_add_event net name parts None false false full wide n r k f w h = cc
may_add_event net name parts None true known full wide n r k f w h = cc
may_add_event net name parts (Some i) repeated known full wide n r k f w h = cc

pub may-add-event : (net : Net) (name : List ℕ) (parts : List Part) → event_refusal net name parts ≡ None → MayAddEvent net name parts
may-add-event net name parts h = may_add_event net name parts _ _ _ _ _ refl refl refl refl refl (sym (event_refusal-by net name parts _ _ _ _ _ refl refl refl refl refl) ∙ h)

pub IsDraft-added : (net : Net) (name : List ℕ) (parts : List Part) (label : Option (List ℕ)) (fault : Bool) → IsDraft net → IsName name → 0 < length parts → MayAddEvent net name parts → IsDraft (with_event net name parts label fault)
IsDraft-added net name parts label fault h n some may =
    IsDraft-with_event net name (record { parts = parts; label = label; fault = fault }) h n may.new (record { some = omega arith; few = may.few; once = may.once; known = may.known }) may.room
