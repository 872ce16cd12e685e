-- A network refines itself, refinements go on from one to another, and a component that follows another sharply tells where that one is.
use Rattle.std.proofs.Common.{◌≡◌, ℕ, ◌<◌, ◌≤◌, Bool, true, false, ◌++◌, List, [], ◌∷◌, length, refl, sym, ap, ◌∙◌, subst, arith, Contains, inl, inr, append_assoc}
use Rattle.std.specs.Prelude.{Some, slice_get, slice_index_or}
use Rattle.std.specs.List.{AllZip}
use Rattle.std.proofs.lemmas.Bool.{cases_lt, cases_Bool}
use Rattle.std.proofs.lemmas.List.{append-nil}
use Rattle.des_base.proofs.Elements.{all_append, all_change}
use Rattle.des_net.proofs.Local.{LocalLeads, cons_cases}
use Rattle.des_net.proofs.Steps.{no_action}
use Rattle.des_net.specs.Network.{Event, Net, action_at, component_at, parts_of, touches}
use Rattle.des_net.specs.Run.{next_states}
use Rattle.refinement.specs.Refinement.{CanGo, CanStart, Follows, FollowsSome, HasFurtherParts, IsRefinementOf, told}
use Rattle.refined_answers.specs.Laws.{NetworksRefineThemselves, RefinementsGoOn}
use Rattle.refined_answers.specs.Sharp.{IsSharp, SharpFollowersTell}
use Rattle.refined_answers.proofs.EventLemmas.{same_action, same_touch}
use Rattle.refined_answers.proofs.RunLemmas.{leads_alike, leads_of, more_components, same_component, start_at}

-- ---- a network refines itself

same_events : (k : ℕ) (events : List Event) → AllZip (HasFurtherParts k) events events
same_events k [] = tt
same_events k (event ∷ events) = (record { label = refl; fault = refl; further = []; parts = sym (append-nil event.parts); new = tt }, same_events k events)

pub networks_refine_themselves : NetworksRefineThemselves
networks_refine_themselves net = record {
  components = ([], sym (append-nil net.components));
  component_names = ([], sym (append-nil net.component_names));
  event_names = refl;
  events = same_events (length net.components) net.events;
  new = λ d from below. absurd (omega arith);
}

-- ---- refinements go on

-- component c is the same in both networks, and so is what each event does to it
record SameAt (a b : Net) (c : ℕ) : Type 0 where
  component : component_at a c ≡ component_at b c
  action : (e : ℕ) → action_at (parts_of a e) c ≡ action_at (parts_of b e) c
  touch : (e : ℕ) → touches a e c ≡ touches b e c

same_at : (net fine : Net) → IsRefinementOf fine net → (c : ℕ) → c < length net.components → SameAt fine net c
same_at net fine refines c below = record { component = same_component net fine refines c below; action = λ e. same_action net fine refines e c below; touch = λ e. same_touch net fine refines e c below }

back_at : (a b : Net) (c : ℕ) → SameAt a b c → SameAt b a c
back_at a b c same = record { component = sym same.component; action = λ e. sym (same.action e); touch = λ e. sym (same.touch e) }

start_over : (a b : Net) (c q : ℕ) → SameAt a b c → CanStart a c q → CanStart b c q
start_over a b c q same start = subst (λ component. slice_get component.initial q ≡ Some true) same.component start

go_over : (a b : Net) (c e q r : ℕ) → SameAt a b c → CanGo a c e q r → CanGo b c e q r
go_over a b c e q r same go =
    subst (λ component. Contains (next_states component (action_at (parts_of b e) c) q) r) same.component
    (subst (λ action. Contains (next_states (component_at a c) action q) r) (same.action e) go)

-- what follows in the one pair of networks follows in the other
follows_over : (a b fine other : Net) (members : ℕ → Bool) (c d : ℕ) → SameAt a b c → SameAt fine other d → Follows a fine members c d → Follows b other members c d
follows_over a b fine other members c d c_same d_same follows = record {
  starts = λ q start. start_over fine other d _ d_same (follows.starts q (start_over b a c q (back_at a b c c_same) start));
  goes = λ e q r go. go_over fine other d e _ _ d_same (follows.goes e q r (go_over b a c e q r (back_at a b c c_same) go));
  beside = λ e touched. sym (c_same.touch e) ∙ follows.beside e (d_same.touch e ∙ touched);
  starts_only = λ s start.
      let old = follows.starts_only s (start_over other fine d s (back_at fine other d d_same) start) in
      (old.0, old.1, start_over a b c old.0 c_same old.2);
  goes_only = λ e s t touched go.
      let old = follows.goes_only e s t (d_same.touch e ∙ touched) (go_over other fine d e s t (back_at fine other d d_same) go) in
      (old.0, old.1, old.2, old.3, go_over a b c e old.0 old.1 c_same old.4);
}

-- a component that follows one that follows another follows that one
follows_on : (net fine finer : Net) (m n : ℕ → Bool) (c d f : ℕ) → Follows net fine m c d → Follows fine finer n d f → Follows net finer (λ q. n (told (m q))) c f
follows_on net fine finer m n c d f first second = record {
  starts = λ q start. second.starts (told (m q)) (first.starts q start);
  goes = λ e q r go. second.goes e (told (m q)) (told (m r)) (first.goes e q r go);
  beside = λ e touched. first.beside e (second.beside e touched);
  starts_only = λ s start.
      let mid = second.starts_only s start in
      let old = first.starts_only mid.0 mid.2 in
      (old.0, ap (λ q. told (n q)) old.1 ∙ mid.1, old.2);
  goes_only = λ e s t touched go.
      let mid = second.goes_only e s t touched go in
      let old = first.goes_only e mid.0 mid.1 (second.beside e touched) mid.4 in
      (old.0, old.1, ap (λ q. told (n q)) old.2 ∙ mid.2, ap (λ q. told (n q)) old.3 ∙ mid.3, old.4);
}

further_on : (k l : ℕ) (event fine finer : Event) → k ≤ l → HasFurtherParts k event fine → HasFurtherParts l fine finer → HasFurtherParts k event finer
further_on k l event fine finer less first second = record {
  label = second.label ∙ first.label;
  fault = second.fault ∙ first.fault;
  further = first.further ++ second.further;
  parts = second.parts ∙ ap (λ parts. parts ++ second.further) first.parts ∙ append_assoc event.parts first.further second.further;
  new = all_append (λ part. k ≤ part.comp) first.further second.further first.new (all_change (λ part. l ≤ part.comp) (λ part. k ≤ part.comp) second.further (λ part above. omega arith) second.new);
}

events_on : (k l : ℕ) (events fines finers : List Event) → k ≤ l → AllZip (HasFurtherParts k) events fines → AllZip (HasFurtherParts l) fines finers → AllZip (HasFurtherParts k) events finers
events_on k l [] [] [] less first second = tt
events_on k l [] [] (finer ∷ finers) less first second = absurd second
events_on k l [] (fine ∷ fines) finers less first second = absurd first
events_on k l (event ∷ events) [] finers less first second = absurd first
events_on k l (event ∷ events) (fine ∷ fines) [] less first second = absurd second
events_on k l (event ∷ events) (fine ∷ fines) (finer ∷ finers) less first second = (further_on k l event fine finer less first.0 second.0, events_on k l events fines finers less first.1 second.1)

added_on : {X : Type 0} (xs ys zs : List X) → ((added : List X) × (ys ≡ xs ++ added)) → ((added : List X) × (zs ≡ ys ++ added)) → (added : List X) × (zs ≡ xs ++ added)
added_on xs ys zs first second = (first.0 ++ second.0, second.1 ∙ ap (λ l. l ++ second.0) first.1 ∙ append_assoc xs first.0 second.0)

pub refinements_go_on : RefinementsGoOn
refinements_go_on net fine finer first second = record {
  components = added_on net.components fine.components finer.components first.components second.components;
  component_names = added_on net.component_names fine.component_names finer.component_names first.component_names second.component_names;
  event_names = second.event_names ∙ first.event_names;
  events = events_on (length net.components) (length fine.components) net.events fine.events finer.events (more_components net fine first) first.events second.events;
  new = λ d from below. elim (cases_lt d (length fine.components)) [
    | inl middle ↦ kept d middle (first.new d from middle)
    | inr last ↦ followed d (second.new d (omega arith) below)
  ];
}
  where
    -- it was there in the middle one
    kept : (d : ℕ) → d < length fine.components → FollowsSome net fine d → FollowsSome net finer d
    kept d middle some = record {
      members = some.members;
      component = some.component;
      known = some.known;
      follows = follows_over net net fine finer some.members some.component d (record { component = refl; action = λ e. refl; touch = λ e. refl }) (back_at finer fine d (same_at fine finer second d middle)) some.follows;
    }

    -- it follows a component of the middle one
    followed : (d : ℕ) → FollowsSome fine finer d → FollowsSome net finer d
    followed d some = elim (cases_lt some.component (length net.components)) [
      | inl old ↦ record {
        members = some.members;
        component = some.component;
        known = old;
        follows = follows_over fine net finer finer some.members some.component d (same_at net fine first some.component old) (record { component = refl; action = λ e. refl; touch = λ e. refl }) some.follows;
      }
      | inr new ↦
          let mid = first.new some.component (omega arith) some.known in
          record {
            members = λ q. some.members (told (mid.members q));
            component = mid.component;
            known = mid.known;
            follows = follows_on net fine finer mid.members some.members mid.component some.component d mid.follows some.follows;
          }
    ]

-- ---- what follows sharply tells

pub told_once : (a b : Bool) → told a ≡ told b → a ≡ b
told_once true true is = refl
told_once true false is = absurd (omega (arith, is))
told_once false true is = absurd (omega (arith, is))
told_once false false is = refl

-- without a part it stays
stays : (fine : Net) (d e s t : ℕ) → touches fine e d ≡ false → CanGo fine d e s t → s ≡ t
stays fine d e s t none go = elim (cons_cases s t [] (subst (λ action. Contains (next_states (component_at fine d) action s) t) (no_action (parts_of fine e) d none) go)) [ inl same ↦ same | inr (k, below, is) ↦ absurd (omega arith) ]

tells_after : (net fine : Net) (members : ℕ → Bool) (c d : ℕ) → Follows net fine members c d → IsSharp net members c → (e q r s t : ℕ) → told (members q) ≡ s → CanGo net c e q r → CanGo fine d e s t → told (members r) ≡ t
tells_after net fine members c d follows sharp e q r s t is go went = elim (cases_Bool (touches fine e d)) [
  | inl touched ↦
      let old = follows.goes_only e s t touched went in
      let in_both : members old.0 ≡ members q = told_once (members old.0) (members q) (old.2 ∙ sym is) in
      ap told (sharp.goes e q r old.0 old.1 (sym in_both) go old.4) ∙ old.3
  | inr none ↦ sym (stays fine d e (told (members q)) (told (members r)) none (follows.goes e q r go)) ∙ is ∙ stays fine d e s t none went
]

tells_along : (net fine : Net) (members : ℕ → Bool) (c d : ℕ) → Follows net fine members c d → IsSharp net members c → (word : List ℕ) (q r s t : ℕ) → told (members q) ≡ s →
    LocalLeads net c (component_at net c) q word r → LocalLeads fine d (component_at fine d) s word t → told (members r) ≡ t
tells_along net fine members c d follows sharp [] q r s t is leads led = sym (ap (λ p. told (members p)) leads) ∙ is ∙ led
tells_along net fine members c d follows sharp (e ∷ word) q r s t is (m, go, leads) (n, went, led) =
    tells_along net fine members c d follows sharp word m r n t (tells_after net fine members c d follows sharp e q m s n is go went) leads led

pub sharp_followers_tell : SharpFollowersTell
sharp_followers_tell net fine members c d refines known there follows sharp before word after start leads =
    let more : c < length fine.components = let l = more_components net fine refines in omega arith in
    let here = same_at net fine refines c known in
    let q = slice_index_or before c 0 in
    let r = slice_index_or after c 0 in
    let at_start : CanStart net c q = start_over fine net c q here (start_at fine.components before start c more) in
    let told_start = follows.starts_only (slice_index_or before d 0) (start_at fine.components before start d there) in
    let first : told (members q) ≡ slice_index_or before d 0 = ap told (sharp.starts q told_start.0 at_start told_start.2) ∙ told_start.1 in
    let led = subst (λ component. LocalLeads fine c component q word r) here.component (leads_of fine before word after start leads c more) in
    sym (tells_along net fine members c d follows sharp word q r _ _ first (leads_alike fine net c (component_at net c) (λ e. sym (here.action e)) word q r led) (leads_of fine before word after start leads d there))
