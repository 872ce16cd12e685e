-- The parts of the events that are there keep their numbers when the components grow.
use Rattle.std.proofs.Common.{◌≡◌, ◌<◌, ℕ, suc, zero, true, false, List, [], ◌∷◌, ◌++◌, length, Option, None, Some, refl, sym, ◌∙◌, subst, arith}
use Rattle.std.specs.Prelude.{map, nat_lt, slice_get, slice_index_or}
use Rattle.std.specs.List.{AllByRecursion, list_all}
use Rattle.std.specs.Option.{option_map_or}
use Rattle.std.proofs.lemmas.Bool.Decides.{Decides-ltb}
use Rattle.std.proofs.lemmas.Option.{slice_get_within, get_or_from_slice_get}
use Rattle.std.proofs.lemmas.List.Elements.{recursion_from_All}
use Rattle.des_base.proofs.NameLemmas.{and_left, and_right}
use Rattle.des_net.specs.declared.parts.Part.{Part}
use Rattle.des_net.specs.Network.{Component as Automaton, no_component}
use Rattle.des_net.specs.Building.{is_known, IsDraftEvent, AreDraftEvents}
use Rattle.model_text.specs.ModelLines.{NamedPart}
use Rattle.model_text.specs.ModelNetwork.{number, numbered_part, numbered_event, NamedEvent}
use Rattle.model_text.proofs.NumberLemmas.{KeepsPlaces, KeepsPlaces-itself, number-kept}

-- each component keeps the numbers of its actions
abbrev pub ActionsGrow : List Automaton → List Automaton → Type 0
ActionsGrow old new = (c : ℕ) → c < length old → KeepsPlaces (slice_index_or old c no_component).action_names (slice_index_or new c no_component).action_names

pub ActionsGrow-push : (components : List Automaton) (c : Automaton) → ActionsGrow components (components ++ c ∷ [])
ActionsGrow-push [] c k h = absurd (omega arith)
ActionsGrow-push (x ∷ xs) c zero h = KeepsPlaces-itself x.action_names
ActionsGrow-push (x ∷ xs) c (suc k) h = ActionsGrow-push xs c k (omega arith)

pub ActionsGrow-last : (front : List Automaton) (c d : Automaton) → KeepsPlaces c.action_names d.action_names → ActionsGrow (front ++ c ∷ []) (front ++ d ∷ [])
ActionsGrow-last [] c d g zero h = g
ActionsGrow-last [] c d g (suc k) h = absurd (omega arith)
ActionsGrow-last (x ∷ xs) c d g zero h = KeepsPlaces-itself x.action_names
ActionsGrow-last (x ∷ xs) c d g (suc k) h = ActionsGrow-last xs c d g k (omega arith)

-- a known part's component is there and has its action
record Known (components : List Automaton) (part : Part) : Type 0 where
  place : part.comp < length components
  action : part.action < length (slice_index_or components part.comp no_component).action_names

known_at : (components : List Automaton) (part : Part) (o : Option Automaton) → slice_get components part.comp ≡ o → option_map_or (λ (c : Automaton). nat_lt part.action (length c.action_names)) o false ≡ true → Known components part
known_at components part None at h = cc
known_at components part (Some c) at h = record {
  place = slice_get_within components part.comp c at;
  action = subst (λ (x : Automaton). part.action < length x.action_names) (sym (get_or_from_slice_get components part.comp c no_component at)) ((Decides-ltb part.action (length c.action_names)).0 h);
}

known : (components : List Automaton) (part : Part) → is_known components part ≡ true → Known components part
unfolding is_known
known components part h = known_at components part (slice_get components part.comp) refl h

-- how the lists of a network grow by a line
pub record ListsGrow (names more : List (List ℕ)) (old new : List Automaton) : Type 0 where
  pub named : length names ≡ length old
  pub kept : KeepsPlaces names more
  pub actions : ActionsGrow old new

part_kept : (names more : List (List ℕ)) (old new : List Automaton) → ListsGrow names more old new → (p : NamedPart) → Known old (numbered_part names old p) → numbered_part more new p ≡ numbered_part names old p
part_kept names more old new g p k =
    let c = number names p.component in
    let place : number more p.component ≡ c = number-kept names more g.kept p.component (let l = k.place in let n = g.named in omega arith) in
    let action : number (slice_index_or new c no_component).action_names p.action ≡ number (slice_index_or old c no_component).action_names p.action =
    number-kept (slice_index_or old c no_component).action_names (slice_index_or new c no_component).action_names (g.actions c k.place) p.action k.action in
    (λ i. record { comp = place i; action = number (slice_index_or new (place i) no_component).action_names p.action }) ∙ (λ i. record { comp = c; action = action i })

parts_kept : (names more : List (List ℕ)) (old new : List Automaton) → ListsGrow names more old new → (ps : List NamedPart) → list_all (is_known old) (map (numbered_part names old) ps) ≡ true
    → map (numbered_part more new) ps ≡ map (numbered_part names old) ps
parts_kept names more old new g [] h = refl
parts_kept names more old new g (p ∷ ps) h =
    let rest = list_all (is_known old) (map (numbered_part names old) ps) in
    λ i. part_kept names more old new g p (known old (numbered_part names old p) (and_left (is_known old (numbered_part names old p)) rest h)) i
    ∷ parts_kept names more old new g ps (and_right (is_known old (numbered_part names old p)) rest h) i

events_by : (names more : List (List ℕ)) (old new : List Automaton) → ListsGrow names more old new → (es : List NamedEvent) → AllByRecursion (IsDraftEvent old) (map (numbered_event names old) es)
    → map (numbered_event more new) es ≡ map (numbered_event names old) es
events_by names more old new g [] h = refl
events_by names more old new g (e ∷ es) h = λ i. record { parts = parts_kept names more old new g e.parts h.0.known i; label = e.label; fault = e.fault } ∷ events_by names more old new g es h.1 i

pub events_kept : (names more : List (List ℕ)) (old new : List Automaton) → ListsGrow names more old new → (es : List NamedEvent) → AreDraftEvents old (map (numbered_event names old) es)
    → map (numbered_event more new) es ≡ map (numbered_event names old) es
events_kept names more old new g es h = events_by names more old new g es (recursion_from_All (IsDraftEvent old) (map (numbered_event names old) es) h.each)
