-- The same words are runs of a network and of a refinement, and the same events share a component.
use Rattle.std.proofs.Common.{◌≡◌, ℕ, zero, suc, ◌+◌, ◌<◌, ◌≤◌, Bool, List, [], ◌∷◌, length, sym, ap, ◌∙◌, subst, arith, Contains, IsTrue, nat_lt, inl, inr}
use Rattle.std.specs.Prelude.{slice_index_or}
use Rattle.std.specs.List.{AllZip, list_all}
use Rattle.std.proofs.lemmas.Bool.{cases_lt}
use Rattle.std.proofs.lemmas.List.{get_or_append_left, length-append}
use Rattle.des_base.proofs.BoolLemmas.{both}
use Rattle.des_net.specs.Network.{Component, Net, IsNetwork, no_component, action_at, component_at, parts_of}
use Rattle.des_net.specs.LocalRuns.{can_run_from}
use Rattle.des_net.specs.Run.{next_states, IsRun, IsStart, Leads}
use Rattle.des_net.specs.Width.{AreApart}
use Rattle.des_net.proofs.Local.{IsInitial, LocalLeads, LocalsFrom, leads_from_locals, locals_from_leads, runs_are_local, shape_of_start}
use Rattle.refinement.specs.Refinement.{CanGo, FollowsSome, IsRefinementOf, told}
use Rattle.refined_answers.specs.Laws.{RefinementsHaveSameRuns, RefinementsBehaveAlike}
use Rattle.refined_answers.proofs.EventLemmas.{as_many, further_at, same_action, same_touch, touched_is_known}

-- ---- a word is a run exactly if its events are known and each component can perform it by itself

-- component number c goes by the word from a state in which it can start
abbrev Performs : Net → ℕ → Component → List ℕ → Type 0
Performs net c component word = (q : ℕ) × (r : ℕ) × IsInitial component.initial q × LocalLeads net c component q word r

abbrev AllPerform : Net → ℕ → List Component → List ℕ → Type 0
AllPerform net k components word = (j : ℕ) → j < length components → Performs net (k + j) (slice_index_or components j no_component) word

-- its events are known
abbrev AreKnown : Net → List ℕ → Type 0
AreKnown net word = IsTrue (list_all (λ e. nat_lt e (length net.events)) word)

-- what each component does, in a list of their states
pub start_at : (components : List Component) (before : List ℕ) → AllZip (λ component q. IsInitial component.initial q) components before → (j : ℕ) → j < length components → IsInitial (slice_index_or components j no_component).initial (slice_index_or before j 0)
start_at [] before start j below = absurd (omega arith)
start_at (component ∷ components) [] start j below = absurd start
start_at (component ∷ components) (q ∷ before) start zero below = start.0
start_at (component ∷ components) (q ∷ before) start (suc j) below = start_at components before start.1 j (omega arith)

leads_at : (net : Net) (k : ℕ) (components : List Component) (before word after : List ℕ) → LocalsFrom net k components before word after →
    (j : ℕ) → j < length components → LocalLeads net (k + j) (slice_index_or components j no_component) (slice_index_or before j 0) word (slice_index_or after j 0)
leads_at net k [] before word after locals j below = absurd (omega arith)
leads_at net k (component ∷ components) [] word after locals j below = absurd locals
leads_at net k (component ∷ components) (q ∷ before) word [] locals j below = absurd locals
leads_at net k (component ∷ components) (q ∷ before) word (r ∷ after) locals zero below = subst (λ c. LocalLeads net c component q word r) (omega arith) locals.0
leads_at net k (component ∷ components) (q ∷ before) word (r ∷ after) locals (suc j) below =
    subst (λ c. LocalLeads net c (slice_index_or components j no_component) (slice_index_or before j 0) word (slice_index_or after j 0)) (omega arith)
    (leads_at net (k + 1) components before word after locals.1 j (omega arith))

pub leads_of : (net : Net) (before word after : List ℕ) → IsStart net before → Leads net before word after → (c : ℕ) → c < length net.components → LocalLeads net c (component_at net c) (slice_index_or before c 0) word (slice_index_or after c 0)
leads_of net before word after start leads c below =
    let locals = locals_from_leads net word before after (shape_of_start net.components before start) leads in
    subst (λ d. LocalLeads net d (component_at net c) (slice_index_or before c 0) word (slice_index_or after c 0)) (omega arith) (leads_at net 0 net.components before word after locals c below)

abbrev Together : Net → ℕ → List Component → List ℕ → Type 0
Together net k components word = (before : List ℕ) × (after : List ℕ) × AllZip (λ component q. IsInitial component.initial q) components before × LocalsFrom net k components before word after

all_perform : (net : Net) (k : ℕ) (components : List Component) (word : List ℕ) → AllPerform net k components word → Together net k components word
all_perform net k [] word each = ([], [], tt, tt)
all_perform net k (component ∷ components) word each =
    let first : Performs net k component word = subst (λ c. Performs net c component word) (omega arith) (each 0 (omega arith)) in
    let rest = all_perform net (k + 1) components word (λ j below. subst (λ c. Performs net c (slice_index_or components j no_component) word) (omega arith) (each (suc j) (omega arith))) in
    (first.0 ∷ rest.0, first.1 ∷ rest.1, (first.2, rest.2), (first.3, rest.3))

known_in_run : (net : Net) (word : List ℕ) → IsRun net word → AreKnown net word
known_in_run net word run = (both (list_all (λ e. nat_lt e (length net.events)) word) (can_run_from net 0 net.components word) ((runs_are_local net word).1 run)).0

performs_in_run : (net : Net) (word : List ℕ) → IsRun net word → (c : ℕ) → c < length net.components → Performs net c (component_at net c) word
performs_in_run net word (before, after, start, leads) c below =
    (slice_index_or before c 0, slice_index_or after c 0, start_at net.components before start c below, leads_of net before word after start leads c below)

run_if_all_perform : (net : Net) (word : List ℕ) → AreKnown net word → ((c : ℕ) → c < length net.components → Performs net c (component_at net c) word) → IsRun net word
run_if_all_perform net word known each =
    let together = all_perform net 0 net.components word (λ c below. subst (λ d. Performs net d (component_at net c) word) (omega arith) (each c below)) in
    (together.0, together.1, together.2, leads_from_locals net word together.0 together.1 known together.3)

-- ---- what a component can do by itself

-- the same where each event moves it by the same action
pub leads_alike : (net other : Net) (c : ℕ) (component : Component) → ((e : ℕ) → action_at (parts_of other e) c ≡ action_at (parts_of net e) c) →
    (word : List ℕ) (q r : ℕ) → LocalLeads net c component q word r → LocalLeads other c component q word r
leads_alike net other c component same [] q r leads = leads
leads_alike net other c component same (e ∷ word) q r (m, step, leads) =
    (m, subst (λ action. Contains (next_states component action q) m) (sym (same e)) step, leads_alike net other c component same word m r leads)

performs_alike : (net other : Net) (c : ℕ) (component : Component) → ((e : ℕ) → action_at (parts_of other e) c ≡ action_at (parts_of net e) c) → (word : List ℕ) → Performs net c component word → Performs other c component word
performs_alike net other c component same word (q, r, start, leads) = (q, r, start, leads_alike net other c component same word q r leads)

-- a component that goes where another tells
leads_as_told : (net fine : Net) (members : ℕ → Bool) (c d : ℕ) → ((e q r : ℕ) → CanGo net c e q r → CanGo fine d e (told (members q)) (told (members r))) →
    (word : List ℕ) (q r : ℕ) → LocalLeads net c (component_at net c) q word r → LocalLeads fine d (component_at fine d) (told (members q)) word (told (members r))
leads_as_told net fine members c d goes [] q r leads = ap (λ s. told (members s)) leads
leads_as_told net fine members c d goes (e ∷ word) q r (m, step, leads) = (told (members m), goes e q m step, leads_as_told net fine members c d goes word m r leads)

performs_as_told : (net fine : Net) (d : ℕ) (word : List ℕ) → IsRun net word → FollowsSome net fine d → Performs fine d (component_at fine d) word
performs_as_told net fine d word run some =
    let old = performs_in_run net word run some.component some.known in
    (told (some.members old.0), told (some.members old.1), some.follows.starts old.0 old.2, leads_as_told net fine some.members some.component d some.follows.goes word old.0 old.1 old.3)

-- ---- both ways

pub same_component : (net fine : Net) → IsRefinementOf fine net → (c : ℕ) → c < length net.components → component_at fine c ≡ component_at net c
same_component net fine refines c below =
    ap (λ components. slice_index_or components c no_component) refines.components.1 ∙ get_or_append_left net.components refines.components.0 no_component c below

pub more_components : (net fine : Net) → IsRefinementOf fine net → length net.components ≤ length fine.components
more_components net fine refines = let long = ap length refines.components.1 ∙ length-append net.components refines.components.0 in omega (arith, long)

same_known : (net fine : Net) → IsRefinementOf fine net → length fine.events ≡ length net.events
same_known net fine refines = as_many (length net.components) net.events fine.events refines.events

run_dropped : (net fine : Net) → IsRefinementOf fine net → (word : List ℕ) → IsRun fine word → IsRun net word
run_dropped net fine refines word run =
    run_if_all_perform net word (subst (λ n. IsTrue (list_all (λ e. nat_lt e n) word)) (same_known net fine refines) (known_in_run fine word run))
    (λ c below. performs_alike fine net c (component_at net c) (λ e. sym (same_action net fine refines e c below)) word
    (subst (λ component. Performs fine c component word) (same_component net fine refines c below)
    (performs_in_run fine word run c (let more = more_components net fine refines in omega arith))))

run_told : (net fine : Net) → IsRefinementOf fine net → (word : List ℕ) → IsRun net word → IsRun fine word
run_told net fine refines word run =
    run_if_all_perform fine word (subst (λ n. IsTrue (list_all (λ e. nat_lt e n) word)) (sym (same_known net fine refines)) (known_in_run net word run)) each
  where
    each : (c : ℕ) → c < length fine.components → Performs fine c (component_at fine c) word
    each c below = elim (cases_lt c (length net.components)) [
      | inl old ↦
          subst (λ component. Performs fine c component word) (sym (same_component net fine refines c old))
          (performs_alike net fine c (component_at net c) (λ e. same_action net fine refines e c old) word (performs_in_run net word run c old))
      | inr new ↦ performs_as_told net fine c word run (refines.new c (omega arith) below)
    ]

pub refinements_have_same_runs : RefinementsHaveSameRuns
refinements_have_same_runs net fine refines word = (run_dropped net fine refines word, run_told net fine refines word)

-- ---- which events share a component

apart_in_net : (net fine : Net) → IsNetwork net → IsRefinementOf fine net → (e f : ℕ) → AreApart fine e f → AreApart net e f
apart_in_net net fine network refines e f apart c first second =
    let known = touched_is_known net network e c first in
    apart c (same_touch net fine refines e c known ∙ first) (same_touch net fine refines f c known ∙ second)

apart_in_fine : (net fine : Net) → IsNetwork fine → IsRefinementOf fine net → (e f : ℕ) → AreApart net e f → AreApart fine e f
apart_in_fine net fine network refines e f apart c first second = elim (cases_lt c (length net.components)) [
  | inl old ↦ apart c (sym (same_touch net fine refines e c old) ∙ first) (sym (same_touch net fine refines f c old) ∙ second)
  | inr new ↦
      let some = refines.new c (omega arith) (touched_is_known fine network e c first) in
      apart some.component (some.follows.beside e first) (some.follows.beside f second)
]

pub refinements_behave_alike : RefinementsBehaveAlike
refinements_behave_alike net fine network fine_network refines = record {
  event_names = refines.event_names;
  events = same_known net fine refines;
  labels = λ e. (further_at (length net.components) net.events fine.events refines.events e).label;
  faults = λ e. (further_at (length net.components) net.events fine.events refines.events e).fault;
  apart = λ e f. (apart_in_net net fine network refines e f, apart_in_fine net fine fine_network refines e f);
  runs = refinements_have_same_runs net fine refines;
}
