-- The events that touch a component tell by which action each event moves it.
use Rattle.std.proofs.Common.{◌≡◌, ◌≢◌, inl, inr, ℕ, zero, suc, ◌+◌, ◌<◌, ◌≤◌, Bool, true, false, cond, List, [], ◌∷◌, ◌++◌, length, drop, Option, None, Some, get_or, replicate, slice_get, refl, sym, ap, ◌∙◌, subst, arith, get_or-set_same, get_or-set_other, length-set}
use Rattle.std.specs.Prelude.{◌==◌}
use Rattle.std.specs.List.{AllByRecursion}
use Rattle.std.proofs.Math.ListN.{drop_of_length-le}
use Rattle.std.proofs.Math.Seq.{drop-cons}
use Rattle.std.proofs.lemmas.List.{append-nil, append_assoc, get_or-replicate, length-replicate}
use Rattle.std.proofs.lemmas.Option.{get_or_from_slice_get, slice_get_within}
use Rattle.des_base.proofs.BoolLemmas.{differ, itself, same}
use Rattle.des_base.proofs.Elements.{all_append, all_change}
use Rattle.des_base.specs.Lists.{EachPair}
use Rattle.des_net.specs.declared.parts.Part.{Part}
use Rattle.des_net.specs.Network.{Component, Event, IsEvent, IsNetwork, IsPart, Net, action_at, no_event, parts_of}
use Rattle.refinement.specs.declared.effect.Effect.{Effect}
use Rattle.refinement.specs.declared.touches.Touch.{Touch}
use Rattle.refinement.specs.Marking.{Passes, with_one, with_touches}
use Rattle.refinement.specs.Seen.{AreEffects, MoveAlike, MovesAlike}
use Rattle.refinement.specs.Touching.{AreCompared, AreTouches, TouchAlike, touch, touched_by, touches_from}

-- ---- lists that grow

pub length-with_one : {X : Type 0} (lists : List (List X)) (at : ℕ) (x : X) → length (with_one lists at x) ≡ length lists
length-with_one lists at x = length-set lists at _

pub with_one_here : {X : Type 0} (lists : List (List X)) (at : ℕ) (x : X) → at < length lists → get_or (with_one lists at x) at [] ≡ get_or lists at [] ++ x ∷ []
with_one_here lists at x within = get_or-set_same lists at (get_or lists at [] ++ x ∷ []) [] within

pub with_one_elsewhere : {X : Type 0} (lists : List (List X)) (at i : ℕ) (x : X) → at ≢ i → get_or (with_one lists at x) i [] ≡ get_or lists i []
with_one_elsewhere lists at i x other = get_or-set_other lists at i (get_or lists at [] ++ x ∷ []) [] (λ e. other (sym e))

-- ---- one more event

abbrev pub AreBelow : ℕ → List Part → Type 0
AreBelow n parts = AllByRecursion (λ part. part.comp < n) parts

pub length-with_touches : (e : ℕ) (parts : List Part) (lists : List (List Touch)) → length (with_touches e parts lists) ≡ length lists
length-with_touches e [] lists = refl
length-with_touches e (part ∷ parts) lists = length-with_touches e parts (with_one lists part.comp (touch e part.action)) ∙ length-with_one lists part.comp (touch e part.action)

pub with_touches_at : (e : ℕ) (parts : List Part) (lists : List (List Touch)) (c : ℕ) → AreBelow (length lists) parts → get_or (with_touches e parts lists) c [] ≡ get_or lists c [] ++ touched_by c e parts
with_touches_at e [] lists c below = sym (append-nil (get_or lists c []))
with_touches_at e (part ∷ parts) lists c below =
    with_touches_at e parts (with_one lists part.comp (touch e part.action)) c (subst (λ n. AreBelow n parts) (sym (length-with_one lists part.comp (touch e part.action))) below.1)
    ∙ by (part.comp == c) refl
  where
    by : (b : Bool) → (part.comp == c) ≡ b
        → get_or (with_one lists part.comp (touch e part.action)) c [] ++ touched_by c e parts ≡ get_or lists c [] ++ cond b (touch e part.action ∷ touched_by c e parts) (touched_by c e parts)
    by true h =
        let is = same part.comp c h in
        ap (λ xs. xs ++ touched_by c e parts)
        (subst (λ k. get_or (with_one lists part.comp (touch e part.action)) k [] ≡ get_or lists k [] ++ touch e part.action ∷ []) is (with_one_here lists part.comp (touch e part.action) below.0))
        ∙ append_assoc (get_or lists c []) (touch e part.action ∷ []) (touched_by c e parts)
    by false h = ap (λ xs. xs ++ touched_by c e parts) (with_one_elsewhere lists part.comp c (touch e part.action) (λ is. let t : true ≡ false = sym (subst (λ k. (part.comp == k) ≡ true) is (itself part.comp)) ∙ h in cc))

-- the lists are those of the events before number e
pub record AreSoFar (net : Net) (e : ℕ) (lists : List (List Touch)) : Type 0 where
  pub count : length lists ≡ length net.components
  pub each : (c : ℕ) → c < length net.components → get_or lists c [] ++ touches_from c e (drop e net.events) ≡ touches_from c 0 net.events

one_more_event : (net : Net) (e : ℕ) (lists : List (List Touch)) → AreSoFar net e lists → e < length net.events → AreBelow (length lists) (parts_of net e) → AreSoFar net (suc e) (with_touches e (parts_of net e) lists)
one_more_event net e lists so below known = record {
  count = length-with_touches e (parts_of net e) lists ∙ so.count;
  each = λ c there.
      ap (λ xs. xs ++ touches_from c (suc e) (drop (suc e) net.events)) (with_touches_at e (parts_of net e) lists c known)
      ∙ append_assoc (get_or lists c []) (touched_by c e (parts_of net e)) (touches_from c (suc e) (drop (suc e) net.events))
      ∙ ap (λ events. get_or lists c [] ++ touches_from c e events) (sym (drop-cons net.events e no_event below))
      ∙ so.each c there;
}

pub all_events : (net : Net) (e : ℕ) (lists : List (List Touch)) → AreSoFar net e lists → length net.events ≤ e → AreTouches net lists
all_events net e lists so past = record {
  count = so.count;
  each = λ c there. sym (append-nil (get_or lists c [])) ∙ ap (λ events. get_or lists c [] ++ touches_from c e events) (sym (drop_of_length-le net.events past)) ∙ so.each c there;
}

-- ---- by which action

-- the action by which event number e touches the component, as the list tells
abbrev pub touch_at : List Touch → ℕ → Option ℕ
touch_at [] e = None
touch_at (t ∷ ts) e = cond (t.event == e) (Some t.action) (touch_at ts e)

one_later : (b : Bool) (e action k : ℕ) (ts us : List Touch) → e ≢ k → touch_at (ts ++ us) k ≡ touch_at us k → touch_at (cond b (touch e action ∷ ts) ts ++ us) k ≡ touch_at us k
one_later true e action k ts us other rest = ap (λ c. cond c (Some action) (touch_at (ts ++ us) k)) (differ e k other) ∙ rest
one_later false e action k ts us other rest = rest

later : (c e k : ℕ) (parts : List Part) (ts : List Touch) → e ≢ k → touch_at (touched_by c e parts ++ ts) k ≡ touch_at ts k
later c e k [] ts other = refl
later c e k (part ∷ parts) ts other = one_later (part.comp == c) e part.action k (touched_by c e parts) ts other (later c e k parts ts other)

one_here : (b : Bool) (c e : ℕ) (part : Part) (parts : List Part) (ts us : List Touch) → (part.comp == c) ≡ b → touch_at (ts ++ us) e ≡ action_at parts c → touch_at (cond b (touch e part.action ∷ ts) ts ++ us) e ≡ action_at (part ∷ parts) c
one_here true c e part parts ts us h rest = rw (itself e, h) refl
one_here false c e part parts ts us h rest = rw h rest

here : (c e : ℕ) (parts : List Part) (ts : List Touch) → touch_at ts e ≡ None → touch_at (touched_by c e parts ++ ts) e ≡ action_at parts c
here c e [] ts none = none
here c e (part ∷ parts) ts none = one_here (part.comp == c) c e part parts (touched_by c e parts) ts refl (here c e parts ts none)

none_before : (c e k : ℕ) (events : List Event) → k < e → touch_at (touches_from c e events) k ≡ None
none_before c e k [] before = refl
none_before c e k (event ∷ events) before = later c e k event.parts (touches_from c (suc e) events) (λ is. absurd (omega arith)) ∙ none_before c (suc e) k events (omega arith)

touch_from : (c e i : ℕ) (events : List Event) → touch_at (touches_from c e events) (e + i) ≡ action_at (get_or events i no_event).parts c
touch_from c e i [] = refl
touch_from c e zero (event ∷ events) =
    let at : e + 0 ≡ e = omega arith in
    subst (λ k. touch_at (touches_from c e (event ∷ events)) k ≡ action_at event.parts c) (sym at) (here c e event.parts (touches_from c (suc e) events) (none_before c (suc e) e events (omega arith)))
touch_from c e (suc i) (event ∷ events) =
    let at : suc e + i ≡ e + suc i = omega arith in
    later c e (e + suc i) event.parts (touches_from c (suc e) events) (λ is. absurd (omega arith))
    ∙ subst (λ k. touch_at (touches_from c (suc e) events) k ≡ action_at (get_or events i no_event).parts c) at (touch_from c (suc e) i events)

pub touch_is : (net : Net) (c e : ℕ) → touch_at (touches_from c 0 net.events) e ≡ action_at (parts_of net e) c
touch_is net c e = let at : 0 + e ≡ e = omega arith in subst (λ k. touch_at (touches_from c 0 net.events) k ≡ action_at (parts_of net e) c) at (touch_from c 0 e net.events)

-- ---- each event once

abbrev AreOnce : List Touch → Type 0
AreOnce ts = EachPair (λ t u. t.event ≢ u.event) ts

none_of : (c e : ℕ) (part : Part) (parts : List Part) → part.comp ≡ c → AllByRecursion (λ other. part.comp ≢ other.comp) parts → touched_by c e parts ≡ []
none_of c e part [] is apart = refl
none_of c e part (other ∷ parts) is apart =
    let not : (other.comp == c) ≡ false = differ other.comp c (λ e. apart.0 (is ∙ sym e)) in
    ap (λ b. cond b (touch e other.action ∷ touched_by c e parts) (touched_by c e parts)) not ∙ none_of c e part parts is apart.1

one_from : (b : Bool) (e k action : ℕ) (ts : List Touch) → k ≤ e → AllByRecursion (λ t. k ≤ t.event) ts → AllByRecursion (λ t. k ≤ t.event) (cond b (touch e action ∷ ts) ts)
one_from true e k action ts most rest = (most, rest)
one_from false e k action ts most rest = rest

these_from : (c e k : ℕ) (parts : List Part) → k ≤ e → AllByRecursion (λ t. k ≤ t.event) (touched_by c e parts)
these_from c e k [] most = tt
these_from c e k (part ∷ parts) most = one_from (part.comp == c) e k part.action (touched_by c e parts) most (these_from c e k parts most)

from_on : (c e k : ℕ) (events : List Event) → k ≤ e → AllByRecursion (λ t. k ≤ t.event) (touches_from c e events)
from_on c e k [] most = tt
from_on c e k (event ∷ events) most = all_append (λ t. k ≤ t.event) (touched_by c e event.parts) (touches_from c (suc e) events) (these_from c e k event.parts most) (from_on c (suc e) k events (omega arith))

one_once : (b : Bool) (e action : ℕ) (ts us : List Touch) → (b ≡ true → ts ≡ []) → AllByRecursion (λ t. suc e ≤ t.event) us → AreOnce us → AreOnce (ts ++ us) → AreOnce (cond b (touch e action ∷ ts) ts ++ us)
one_once true e action ts us none after once rest =
    subst (λ xs. AreOnce (touch e action ∷ xs ++ us)) (sym (none refl)) (all_change (λ t. suc e ≤ t.event) (λ (t : Touch). e ≢ t.event) us (λ t more is. absurd (omega arith)) after, once)
one_once false e action ts us none after once rest = rest

once_more : (c e : ℕ) (parts : List Part) (ts : List Touch) → EachPair (λ a b. a.comp ≢ b.comp) parts → AllByRecursion (λ t. suc e ≤ t.event) ts → AreOnce ts → AreOnce (touched_by c e parts ++ ts)
once_more c e [] ts apart after once = once
once_more c e (part ∷ parts) ts apart after once =
    one_once (part.comp == c) e part.action (touched_by c e parts) ts (λ h. none_of c e part parts (same part.comp c h) apart.0) after once (once_more c e parts ts apart.1 after once)

pub each_once : (c e : ℕ) (components : List Component) (events : List Event) → AllByRecursion (IsEvent components) events → AreOnce (touches_from c e events)
each_once c e components [] are = tt
each_once c e components (event ∷ events) are = once_more c e event.parts (touches_from c (suc e) events) are.0.once (from_on c (suc e) (suc e) events (omega arith)) (each_once c (suc e) components events are.1)

-- ---- two components

-- the list has no event that each of its events isn't
none_at : (ts : List Touch) (e : ℕ) → AllByRecursion (λ t. e ≢ t.event) ts → touch_at ts e ≡ None
none_at [] e apart = refl
none_at (t ∷ ts) e apart = ap (λ b. cond b (Some t.action) (touch_at ts e)) (differ t.event e (λ is. apart.0 (sym is))) ∙ none_at ts e apart.1

no_second : (old new : List Effect) (a b : Option ℕ) → a ≡ None → MovesAlike old new a b → b ≡ None
no_second old new None None none alike = refl
no_second old new None (Some b) none alike = absurd alike
no_second old new (Some a) b none alike = cc

-- where an event that touches the one is passed over
passed : (old new : List Effect) (t : Touch) (ts us : List Touch) → AreOnce (t ∷ ts) → MovesAlike old new (Some t.action) None → ((e : ℕ) → MovesAlike old new (touch_at ts e) (touch_at us e)) → (e : ℕ) → MovesAlike old new (touch_at (t ∷ ts) e) (touch_at us e)
passed old new t ts us once idle rest e = by (t.event == e) refl
  where
    by : (b : Bool) → (t.event == e) ≡ b → MovesAlike old new (cond b (Some t.action) (touch_at ts e)) (touch_at us e)
    by true h =
        let is = same t.event e h in
        let none : touch_at us e ≡ None = no_second old new (touch_at ts e) (touch_at us e) (none_at ts e (subst (λ k. AllByRecursion (λ (u : Touch). k ≢ u.event) ts) is once.0)) (rest e) in
        subst (MovesAlike old new (Some t.action)) (sym none) idle
    by false h = rest e

met : (old new : List Effect) (t u : Touch) (ts us : List Touch) → t.event ≡ u.event → MovesAlike old new (Some t.action) (Some u.action) → ((e : ℕ) → MovesAlike old new (touch_at ts e) (touch_at us e)) → (e : ℕ) → MovesAlike old new (touch_at (t ∷ ts) e) (touch_at (u ∷ us) e)
met old new t u ts us is alike rest e = by (t.event == e) refl
  where
    by : (b : Bool) → (t.event == e) ≡ b → MovesAlike old new (cond b (Some t.action) (touch_at ts e)) (touch_at (u ∷ us) e)
    by true h = subst (λ b. MovesAlike old new (Some t.action) (cond b (Some u.action) (touch_at us e))) (sym (subst (λ k. (k == e) ≡ true) is h)) alike
    by false h = subst (λ b. MovesAlike old new (touch_at ts e) (cond b (Some u.action) (touch_at us e))) (sym (subst (λ k. (k == e) ≡ false) is h)) (rest e)

pub touch_alike : (old new : List Effect) (ts us : List Touch) → AreOnce ts → TouchAlike old new ts us → (e : ℕ) → MovesAlike old new (touch_at ts e) (touch_at us e)
touch_alike old new [] [] once alike e = tt
touch_alike old new [] (u ∷ us) once alike e = absurd alike
touch_alike old new (t ∷ ts) [] once alike e = passed old new t ts [] once alike.0 (touch_alike old new ts [] once.1 alike.1) e
touch_alike old new (t ∷ ts) (u ∷ us) once (inl idle) e = passed old new t ts (u ∷ us) once idle.0 (touch_alike old new ts (u ∷ us) once.1 idle.1) e
touch_alike old new (t ∷ ts) (u ∷ us) once (inr both) e = met old new t u ts us both.0 both.1 (touch_alike old new ts us once.1 both.2) e

-- what the lists for two networks tell of each event
pub each_alike : (old new : List Effect) (net fine : Net) (c d : ℕ) → IsNetwork net → TouchAlike old new (touches_from c 0 net.events) (touches_from d 0 fine.events)
    → (e : ℕ) → MovesAlike old new (action_at (parts_of net e) c) (action_at (parts_of fine e) d)
each_alike old new net fine c d network alike e =
    subst (λ a. MovesAlike old new a (action_at (parts_of fine e) d)) (touch_is net c e)
    (subst (MovesAlike old new (touch_at (touches_from c 0 net.events) e)) (touch_is fine d e)
    (touch_alike old new (touches_from c 0 net.events) (touches_from d 0 fine.events) (each_once c 0 net.components net.events network.events) alike e))

-- so a test that goes through the lists tells it of each event
pub moves_are_alike : (net fine : Net) (c state d : ℕ) (touches further : List (List Touch)) (old new olds news : List Effect) (ts us : List Touch) → IsNetwork net → AreCompared net fine touches further
    → c < length net.components → d < length fine.components → AreEffects net c state old → AreEffects fine d 1 new → olds ≡ old → news ≡ new → ts ≡ get_or touches c [] → us ≡ get_or further d []
    → TouchAlike olds news ts us → MoveAlike net fine c state d
moves_are_alike net fine c state d touches further old new olds news ts us network compared known_c known_d of_old of_new is_old is_new is_ts is_us alike =
    (old, new, of_old, of_new, λ e below. each_alike old new net fine c d network all e)
  where
    all : TouchAlike old new (touches_from c 0 net.events) (touches_from d 0 fine.events)
    all = subst (TouchAlike old new (touches_from c 0 net.events)) (is_us ∙ compared.new.each d known_d)
        (subst (λ xs. TouchAlike old new xs us) (is_ts ∙ compared.old.each c known_c)
        (subst (λ ys. TouchAlike old ys ts us) is_new
        (subst (λ xs. TouchAlike xs news ts us) is_old alike)))

-- ---- one event after another

pub passes_idle : (old new : List Effect) (t : Touch) (us : List Touch) (next : ℕ) → MovesAlike old new (Some t.action) None → Passes old new t us next next
passes_idle old new t us next idle ts rest = by (drop next us) rest
  where
    by : (vs : List Touch) → TouchAlike old new ts vs → TouchAlike old new (t ∷ ts) vs
    by [] rest = (idle, rest)
    by (v ∷ vs) rest = inl (idle, rest)

pub passes_both : (old new : List Effect) (t u : Touch) (us : List Touch) (next : ℕ) → slice_get us next ≡ Some u → t.event ≡ u.event → MovesAlike old new (Some t.action) (Some u.action) → Passes old new t us next (next + 1)
passes_both old new t u us next at is alike ts rest = subst (TouchAlike old new (t ∷ ts)) (sym (here ∙ ap (λ k. u ∷ drop k us) more)) (inr (is, alike, rest))
  where
    more : suc next ≡ next + 1
    more = omega arith

    here : drop next us ≡ u ∷ drop (suc next) us
    here = drop-cons us next u (slice_get_within us next u at) ∙ ap (λ v. v ∷ drop (suc next) us) (get_or_from_slice_get us next u u at)

-- before any event
pub no_event_yet : (net : Net) → AreSoFar net 0 (replicate (length net.components) [])
no_event_yet net = record {
  count = length-replicate (length net.components) [];
  each = λ c there. ap (λ ts. ts ++ touches_from c 0 net.events) (get_or-replicate (length net.components) c [] [] there);
}

-- the components of an event's parts
pub parts_below : (net : Net) (e : ℕ) → IsNetwork net → e < length net.events → AreBelow (length net.components) (parts_of net e)
parts_below net e network below = all_change (IsPart net.components) (λ (p : Part). p.comp < length net.components) (parts_of net e) (λ p is. is.component) (known net.events e network.events below)
  where
    known : (events : List Event) (e : ℕ) → AllByRecursion (IsEvent net.components) events → e < length events → AllByRecursion (IsPart net.components) (get_or events e no_event).parts
    known [] e are below = absurd (omega arith)
    known (x ∷ xs) zero are below = are.0.known
    known (x ∷ xs) (suc e) are below = known xs e are.1 (omega arith)

-- what adding an event leaves
pub event_added : (net : Net) (e : ℕ) (lists new : List (List Touch)) → IsNetwork net → AreSoFar net e lists → e < length net.events → new ≡ with_touches e (parts_of net e) lists → AreSoFar net (e + 1) new
event_added net e lists new network so below is =
    let more : suc e ≡ e + 1 = omega arith in
    subst (λ k. AreSoFar net k new) more (subst (AreSoFar net (suc e)) (sym is)
    (one_more_event net e lists so below (subst (λ n. AreBelow n (parts_of net e)) (sym so.count) (parts_below net e network below))))

pub behind_all : (old new : List Effect) (touches further : List Touch) (i next : ℕ) → (TouchAlike old new (drop i touches) (drop next further) → TouchAlike old new touches further) → length touches ≤ i → next ≡ length further → TouchAlike old new touches further
behind_all old new touches further i next so past is = so (subst (λ ts. TouchAlike old new ts (drop next further)) (sym (drop_of_length-le touches past))
    (subst (TouchAlike old new []) (sym (drop_of_length-le further (subst (λ n. n ≤ next) is (omega arith)))) tt))

pub one_passed : (old new : List Effect) (touches further : List Touch) (i next after : ℕ) (t : Touch) → (TouchAlike old new (drop i touches) (drop next further) → TouchAlike old new touches further) → i < length touches → get_or touches i t ≡ t → Passes old new t further next after
    → TouchAlike old new (drop (i + 1) touches) (drop after further) → TouchAlike old new touches further
one_passed old new touches further i next after t so below is passes rest =
    so (subst (λ ts. TouchAlike old new ts (drop next further)) (sym (drop-cons touches i t below ∙ ap (λ u. u ∷ drop (suc i) touches) is)) (passes (drop (suc i) touches) (subst (λ k. TouchAlike old new (drop k touches) (drop after further)) more rest)))
  where
    more : i + 1 ≡ suc i
    more = omega arith
