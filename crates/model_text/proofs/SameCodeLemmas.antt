-- A line's code by the lines before it is its code by their network.
use Rattle.std.proofs.Common.{◌≡◌, ◌-◌, ◌<◌, ℕ, Bool, true, false, List, [], ◌∷◌, ◌++◌, length, get_or, Option, None, Some, refl, ap, sym, ◌∙◌, subst}
use Rattle.std.specs.Prelude.{map, not, nat_le, nat_lt, is_some, ◌&&◌, ◌||◌, bytes_eq}
use Rattle.std.specs.List.{list_any, list_all, AllByRecursion}
use Rattle.std.proofs.lemmas.List.{length-map}
use Rattle.std.proofs.lemmas.List.Elements.{recursion_from_All}
use Rattle.std.proofs.lemmas.Option.{get_or_from_slice_get}
use Rattle.std.proofs.lemmas.Slice.Eq.{bytes_eq-Decides}
use Rattle.des_base.specs.Names.{place_of, is_name_text}
use Rattle.des_net.specs.declared.parts.Part.{Part}
use Rattle.des_net.specs.Network.{Component as Automaton, Net, IsTransOf, no_component}
use Rattle.des_net.specs.Building.{IsDraft, trans_count}
use Rattle.model_text.specs.ModelLines.{ModelLine, component, state, transition, event, NamedPart}
use Rattle.model_text.specs.ModelNetwork.{Section, NamedEvent, NamedTransition, sections, current, last_lines, component_names, events_in, state_names_in, transitions_in, actions_in, component_of, numbered_event, number, numbered_transition, network_of_lines}
use Rattle.model_text.specs.ModelFaults.{is_same_transition, has_repeated, stands_in, names_of_line, model_line_code}
use Rattle.model_text.specs.Growth.{parts_by_name}
use Rattle.model_text.specs.LineCodes.{first_of, has_placed, has_named, code_by}
use Rattle.model_text.proofs.SectionLemmas.{last_lines-push, ends}
use Rattle.model_text.proofs.NumberLemmas.{place_of-number}
use Rattle.model_text.proofs.GrowthLemmas.{names_of, automata_of, network_from}
use Rattle.model_text.proofs.CodeLemmas.{none_some, same_transition-places}
use Rattle.model_text.proofs.PartLemmas.{knows, all_found, all_lost, all_known}
use Rattle.model_text.proofs.StepLemmas.{slice_get-automata, draft-last, count_of}

component_count : (ss : List Section) → length ss ≡ length (automata_of ss)
component_count ss = sym (length-map ss (λ (s : Section). component_of s.lines))

coded-component : (earlier : List ModelLine) (name : List ℕ) → model_line_code earlier (component name) ≡ code_by (network_of_lines earlier) (component name)
coded-component earlier name =
    ap (λ k. first_of false (is_name_text name && true) (stands_in (component_names earlier) name) false (nat_le 1000 k)) (component_count (sections earlier))

-- ---- the component that was begun last

last_of_both : (front : List Section) (last : Section)
    → get_or (automata_of (front ++ last ∷ [])) (length (automata_of (front ++ last ∷ [])) - 1) no_component ≡ component_of (last_lines (front ++ last ∷ []))
last_of_both front last =
    get_or_from_slice_get (automata_of (front ++ last ∷ [])) _ (component_of last.lines) no_component (slice_get-automata front last)
    ∙ ap component_of (sym (last_lines-push front last))

last_component : (ss : List Section) → get_or (automata_of ss) (length (automata_of ss) - 1) no_component ≡ component_of (last_lines ss)
last_component [] = refl
last_component (s ∷ ss) =
    let e = ends s ss in
    subst (λ sections. get_or (automata_of sections) (length (automata_of sections) - 1) no_component ≡ component_of (last_lines sections)) (sym e.is) (last_of_both e.front e.last)

coded-state : (earlier : List ModelLine) (name : List ℕ) (initial : Bool) → model_line_code earlier (state name initial) ≡ code_by (network_of_lines earlier) (state name initial)
coded-state earlier name initial = λ i.
    let names = (sym (last_component (sections earlier)) i).state_names in
    first_of (nat_le (component_count (sections earlier) i) 0) (is_name_text name && true) (stands_in names name) false (nat_le 256 (length names))

-- ---- transitions

-- a text that has no place is no text that has one
unlike : (names : List (List ℕ)) (text word : List ℕ) → place_of text names ≡ None → number names word < length names → bytes_eq text word ≡ true → ⊥
unlike names text word none inside same =
    none_some (place_of text names) (number names word) none (ap (λ t. place_of t names) ((bytes_eq-Decides text word).0 same) ∙ place_of-number names word inside)

first_false : (a b c : Bool) → (a ≡ true → ⊥) → (a && b && c) ≡ false
first_false true b c h = absurd (h refl)
first_false false b c h = refl

third_false : (a b c : Bool) → (c ≡ true → ⊥) → (a && b && c) ≡ false
third_false true true true h = absurd (h refl)
third_false true true false h = refl
third_false true false c h = refl
third_false false b c h = refl

-- a transition between states that aren't both known isn't there
module _ (states actions : List (List ℕ)) (from action to : List ℕ) where
  lost_source : (ts : List NamedTransition) → place_of from states ≡ None → AllByRecursion (IsTransOf (length states) (length actions)) (map (numbered_transition states actions) ts)
      → list_any (is_same_transition (record { from = from; action = action; to = to })) ts ≡ false
  lost_source [] none all = refl
  lost_source (t ∷ ts) none all = λ k. first_false (bytes_eq from t.from) (bytes_eq action t.action) (bytes_eq to t.to) (unlike states from t.from none all.0.from) k || lost_source ts none all.1 k

  lost_target : (ts : List NamedTransition) → place_of to states ≡ None → AllByRecursion (IsTransOf (length states) (length actions)) (map (numbered_transition states actions) ts)
      → list_any (is_same_transition (record { from = from; action = action; to = to })) ts ≡ false
  lost_target [] none all = refl
  lost_target (t ∷ ts) none all = λ k. third_false (bytes_eq from t.from) (bytes_eq action t.action) (bytes_eq to t.to) (unlike states to t.to none all.0.to) k || lost_target ts none all.1 k

same_by : (lines : List ModelLine) (from action to : List ℕ) (o p : Option ℕ) → AllByRecursion (IsTransOf (length (state_names_in lines)) (length (actions_in lines))) (component_of lines).transitions
    → place_of from (state_names_in lines) ≡ o → place_of to (state_names_in lines) ≡ p
    → list_any (is_same_transition (record { from = from; action = action; to = to })) (transitions_in lines) ≡ has_placed (component_of lines) action o p
same_by lines from action to None p all source target = lost_source (state_names_in lines) (actions_in lines) from action to (transitions_in lines) source all
same_by lines from action to (Some i) None all source target = lost_target (state_names_in lines) (actions_in lines) from action to (transitions_in lines) target all
same_by lines from action to (Some i) (Some j) all source target = same_transition-places (state_names_in lines) (actions_in lines) from action to i j source target (transitions_in lines) all

same_there : (lines : List ModelLine) (from action to : List ℕ) → AllByRecursion (IsTransOf (length (state_names_in lines)) (length (actions_in lines))) (component_of lines).transitions
    → list_any (is_same_transition (record { from = from; action = action; to = to })) (transitions_in lines) ≡ has_named (component_of lines) from action to
same_there lines from action to all = same_by lines from action to (place_of from (state_names_in lines)) (place_of to (state_names_in lines)) all refl refl

abbrev AreBetween : List ModelLine → Type 0
AreBetween lines = AllByRecursion (IsTransOf (length (state_names_in lines)) (length (actions_in lines))) (component_of lines).transitions

between_last : (front : List Section) (last : Section) (events : List NamedEvent) → IsDraft (network_from (front ++ last ∷ []) events) → AreBetween (last_lines (front ++ last ∷ []))
between_last front last events d =
    let c = component_of last.lines in
    subst AreBetween (sym (last_lines-push front last))
    (recursion_from_All (IsTransOf (length c.state_names) (length c.action_names)) c.transitions (draft-last front last events d).trans)

between : (ss : List Section) (events : List NamedEvent) → IsDraft (network_from ss events) → AreBetween (last_lines ss)
between [] events d = tt
between (s ∷ ss) events d =
    let e = ends s ss in
    subst (λ sections. IsDraft (network_from sections events) → AreBetween (last_lines sections)) (sym e.is) (between_last e.front e.last events) d

coded-transition : (earlier : List ModelLine) (from action to : List ℕ) → IsDraft (network_of_lines earlier)
    → model_line_code earlier (transition from action to) ≡ code_by (network_of_lines earlier) (transition from action to)
coded-transition earlier from action to d =
    let names = list_all is_name_text (from ∷ action ∷ to ∷ []) in
    let same = same_there (current earlier) from action to (between (sections earlier) (events_in earlier) d) in
    let at = sym (last_component (sections earlier)) in
    (λ i. first_of (nat_le (component_count (sections earlier) i) 0) names (same i)
    (not (stands_in (state_names_in (current earlier)) from && stands_in (state_names_in (current earlier)) to)) (nat_le 50000 (count_of (sections earlier) i)))
    ∙ (λ i. let c : Automaton = at i in first_of (nat_le (length (automata_of (sections earlier))) 0) names (has_named c from action to)
    (not (stands_in c.state_names from && stands_in c.state_names to)) (nat_le 50000 (trans_count (automata_of (sections earlier)))))

-- ---- events

known_found : (net : Net) (parts : List NamedPart) (o : Option (List Part)) → parts_by_name net parts ≡ o → list_all (knows net) parts ≡ is_some o
known_found net parts None h = all_lost net parts h
known_found net parts (Some found) h = all_known net parts found (all_found net parts found h)

coded-event : (earlier : List ModelLine) (name : List ℕ) (label : Option (List ℕ)) (fault : Bool) (parts : List NamedPart)
    → model_line_code earlier (event name label fault parts) ≡ code_by (network_of_lines earlier) (event name label fault parts)
coded-event earlier name label fault parts =
    let net = network_of_lines earlier in
    let known = known_found net parts (parts_by_name net parts) refl in
    let many = sym (length-map (events_in earlier) (numbered_event (names_of (sections earlier)) (automata_of (sections earlier)))) in
    λ i. first_of false (list_all is_name_text (names_of_line (event name label fault parts))) (stands_in net.event_names name || has_repeated (map (λ (p : NamedPart). p.component) parts))
    (not (known i)) (nat_le 4000 (many i) || nat_lt 16 (length parts))

pub coded-line : (earlier : List ModelLine) (line : ModelLine) → IsDraft (network_of_lines earlier) → model_line_code earlier line ≡ code_by (network_of_lines earlier) line
coded-line earlier (component name) d = coded-component earlier name
coded-line earlier (state name initial) d = coded-state earlier name initial
coded-line earlier (transition from action to) d = coded-transition earlier from action to d
coded-line earlier (event name label fault parts) d = coded-event earlier name label fault parts
