-- The lines of a model's text, as they are appended.
use Rattle.std.proofs.Common.{◌≡◌, ◌+◌, ◌<◌, ℕ, zero, suc, Bool, true, false, List, [], ◌∷◌, ◌++◌, length, map, take, Option, Some, refl, ap, sym, ◌∙◌, append_assoc, append-nil, add-one}
use Rattle.std.specs.Prelude.{codes, slice_get, slice_index_or}
use Rattle.std.specs.List.{flat_map, join_with_byte}
use Rattle.std.proofs.lemmas.Option.{get_or_from_slice_get, slice_get-get_or}
use Rattle.des_net.specs.declared.parts.Part.{Part}
use Rattle.des_net.specs.declared.parts.Trans.{Trans}
use Rattle.des_net.specs.Network.{Component as Automaton, Net, component_at, event_at}
use Rattle.model_text.specs.ModelLines.{ModelLine, component, transition, event, NamedPart}
use Rattle.model_text.specs.PrintedModel.{each_named, event_head, fault_tokens, label_tokens, line_of_event, line_of_state, line_of_transition, line_text, lines_of_component, mark_tokens, name_at, part_by_name, part_token, spaced}

-- ---- lists

flat_map-append : {X : Type 0} (f : X → List ℕ) (xs ys : List X) → flat_map f (xs ++ ys) ≡ flat_map f xs ++ flat_map f ys
flat_map-append f [] ys = refl
flat_map-append f (x ∷ xs) ys = ap (λ t. f x ++ t) (flat_map-append f xs ys) ∙ sym (append_assoc (f x) (flat_map f xs) (flat_map f ys))

same_some : {X : Type 0} (x y : X) → ◌≡◌ {A = Option X} (Some x) (Some y) → x ≡ y
same_some x y h = cc

-- ---- values with their names

module _ {X : Type 0} (f : List ℕ → X → List ModelLine) where
  -- one more of them
  named-next : (names : List (List ℕ)) (xs : List X) (i : ℕ) (name : List ℕ) (x : X) → slice_get names i ≡ Some name → slice_get xs i ≡ Some x
      → each_named f (take (suc i) names) (take (suc i) xs) ≡ each_named f (take i names) (take i xs) ++ f name x
  named-next [] xs i name x h k = cc
  named-next (n ∷ ns) [] i name x h k = cc
  named-next (n ∷ ns) (y ∷ ys) zero name x h k = append-nil (f n y) ∙ (λ i. f (same_some n name h i) (same_some y x k i))
  named-next (n ∷ ns) (y ∷ ys) (suc i) name x h k = ap (λ ls. f n y ++ ls) (named-next ns ys i name x h k) ∙ sym (append_assoc (f n y) (each_named f (take i ns) (take i ys)) (f name x))

  -- what was appended of those so far, and then of one more
  pub named-on : (v a b : List ℕ) (names : List (List ℕ)) (xs : List X) (i : ℕ) (name : List ℕ) (x : X) → slice_get names i ≡ Some name → slice_get xs i ≡ Some x
      → a ≡ v ++ flat_map line_text (each_named f (take i names) (take i xs)) → b ≡ a ++ flat_map line_text (f name x)
      → b ≡ v ++ flat_map line_text (each_named f (take (i + 1) names) (take (i + 1) xs))
  named-on v a b names xs i name x h k p q =
      q ∙ ap (λ t. t ++ flat_map line_text (f name x)) p
      ∙ append_assoc v (flat_map line_text (each_named f (take i names) (take i xs))) (flat_map line_text (f name x))
      ∙ ap (λ t. v ++ t) (sym (flat_map-append line_text (each_named f (take i names) (take i xs)) (f name x)))
      ∙ ap (λ ls. v ++ flat_map line_text ls) (sym (named-next names xs i name x h k) ∙ ap (λ n. each_named f (take n names) (take n xs)) (sym (add-one i)))

pub name_at-get : (names : List (List ℕ)) (i : ℕ) (name : List ℕ) → slice_get names i ≡ Some name → name_at names i ≡ name
name_at-get names i name h = get_or_from_slice_get names i name [] h

-- the element at a place
pub at_place : {X : Type 0} (xs : List X) (i : ℕ) (d : X) → i < length xs → slice_get xs i ≡ Some (slice_index_or xs i d)
at_place xs i d h = slice_get-get_or xs i d h

-- ---- lines

join-first : (first : List ℕ) (others : List (List ℕ)) → join_with_byte 32 (first ∷ others) ≡ first ++ spaced others
join-first first [] = sym (append-nil first)
join-first first (other ∷ others) = ap (λ rest. first ++ 32 ∷ rest) (join-first other others)

pub line-component : (v a b c name : List ℕ) → a ≡ v ++ codes "component " → b ≡ a ++ name → c ≡ b ++ codes "\n" → c ≡ v ++ line_text (component name)
unfolding line_text
line-component v a b c name h i j = rw (j, i, h) (simp append_assoc)

pub line-state : (v a b c d name : List ℕ) (initial : Bool) → a ≡ v ++ codes "state " → b ≡ a ++ name → c ≡ b ++ spaced (mark_tokens initial) → d ≡ c ++ codes "\n" → d ≡ v ++ flat_map line_text (line_of_state name initial)
unfolding line_text
line-state v a b c d name true h i j k = rw (k, j, i, h) (simp append_assoc)
line-state v a b c d name false h i j k = rw (k, j, i, h) (simp append_assoc)

pub line-transition : (v a b c d e f g from action to : List ℕ) → a ≡ v ++ codes "trans " → b ≡ a ++ from → c ≡ b ++ codes " " → d ≡ c ++ action → e ≡ d ++ codes " " → f ≡ e ++ to → g ≡ f ++ codes "\n"
    → g ≡ v ++ line_text (transition from action to)
unfolding line_text
line-transition v a b c d e f g from action to h1 h2 h3 h4 h5 h6 h7 = rw (h7, h6, h5, h4, h3, h2, h1) (simp append_assoc)

spaced-append : (xs ys : List (List ℕ)) → spaced (xs ++ ys) ≡ spaced xs ++ spaced ys
spaced-append xs ys = flat_map-append (λ token. 32 ∷ token) xs ys

event_tokens : (name : List ℕ) (label : Option (List ℕ)) (fault : Bool) (parts : List NamedPart)
    → join_with_byte 32 (codes "event" ∷ name ∷ label_tokens label ++ (fault_tokens fault ++ codes ":" ∷ map part_token parts))
    ≡ codes "event" ++ 32 ∷ name ++ (spaced (label_tokens label) ++ (spaced (fault_tokens fault) ++ 32 ∷ 58 ∷ spaced (map part_token parts)))
event_tokens name label fault parts =
    join-first (codes "event") (name ∷ label_tokens label ++ (fault_tokens fault ++ codes ":" ∷ map part_token parts))
    ∙ ap (λ t. codes "event" ++ 32 ∷ name ++ t)
    (spaced-append (label_tokens label) (fault_tokens fault ++ codes ":" ∷ map part_token parts) ∙ ap (λ t. spaced (label_tokens label) ++ t) (spaced-append (fault_tokens fault) (codes ":" ∷ map part_token parts)))

line-event : (v a b d name : List ℕ) (label : Option (List ℕ)) (fault : Bool) (parts : List NamedPart)
    → a ≡ v ++ event_head name label fault → b ≡ a ++ spaced (map part_token parts) → d ≡ b ++ codes "\n" → d ≡ v ++ flat_map line_text (event name label fault parts ∷ [])
unfolding line_text
line-event v a b d name label fault parts h i j =
    joined v name (spaced (label_tokens label)) (spaced (fault_tokens fault)) (spaced (map part_token parts)) a b d h i j ∙ ap (λ t. v ++ ((t ++ codes "\n") ++ [])) (sym (event_tokens name label fault parts))
  where
    joined : (v name l m ps a b d : List ℕ) → a ≡ v ++ (codes "event " ++ name ++ l ++ m ++ codes " :") → b ≡ a ++ ps → d ≡ b ++ codes "\n"
        → d ≡ v ++ (((codes "event" ++ 32 ∷ name ++ (l ++ (m ++ 32 ∷ 58 ∷ ps))) ++ codes "\n") ++ [])
    joined v name l m ps a b d h i j = rw (j, i, h) (simp append_assoc)

-- an event of a network
module _ (net : Net) (at : ℕ) (name : List ℕ) (label : Option (List ℕ)) (fault : Bool) where
  pub event-whole : (v a b d : List ℕ) → slice_get net.event_names at ≡ Some name → label ≡ (event_at net at).label → fault ≡ (event_at net at).fault
      → a ≡ v ++ event_head name label fault → b ≡ a ++ spaced (map part_token (map (part_by_name net) (event_at net at).parts)) → d ≡ b ++ codes "\n"
      → d ≡ v ++ flat_map line_text (line_of_event net (name_at net.event_names at) (event_at net at))
  event-whole v a b d n l f h i j =
      line-event v a b d name label fault (map (part_by_name net) (event_at net at).parts) h i j
      ∙ (λ k. v ++ flat_map line_text (event (sym (name_at-get net.event_names at name n) k) (l k) (f k) (map (part_by_name net) (event_at net at).parts) ∷ []))

-- ---- a component

pub component-whole : (v a b c : List ℕ) (net : Net) (at : ℕ) (name : List ℕ) → slice_get net.component_names at ≡ Some name
    → a ≡ v ++ line_text (component name)
    → b ≡ a ++ flat_map line_text (each_named line_of_state (component_at net at).state_names (component_at net at).initial)
    → c ≡ b ++ flat_map line_text (map (line_of_transition (component_at net at)) (component_at net at).transitions)
    → c ≡ v ++ flat_map line_text (lines_of_component (name_at net.component_names at) (component_at net at))
component-whole v a b c net at name n h i j =
    let states = each_named line_of_state (component_at net at).state_names (component_at net at).initial in
    let transitions = map (line_of_transition (component_at net at)) (component_at net at).transitions in
    joined v (line_text (component name)) (flat_map line_text states) (flat_map line_text transitions) a b c h i j
    ∙ (λ k. v ++ (line_text (component (sym (name_at-get net.component_names at name n) k)) ++ sym (flat_map-append line_text states transitions) k))
  where
    joined : (v x y z a b c : List ℕ) → a ≡ v ++ x → b ≡ a ++ y → c ≡ b ++ z → c ≡ v ++ (x ++ (y ++ z))
    joined v x y z a b c h i j = rw (j, i, h) (simp append_assoc)

-- ---- a transition and a part

pub transition-more : (v a b : List ℕ) (c : Automaton) (t : Trans) (from action to : List ℕ) → slice_get c.state_names t.from ≡ Some from → slice_get c.action_names t.action ≡ Some action → slice_get c.state_names t.to ≡ Some to
    → b ≡ a ++ line_text (transition from action to) → b ≡ a ++ line_text (line_of_transition c t)
transition-more v a b c t from action to f g h e =
    e ∙ (λ k. a ++ line_text (transition (sym (name_at-get c.state_names t.from from f) k) (sym (name_at-get c.action_names t.action action g) k) (sym (name_at-get c.state_names t.to to h) k)))

-- one more of a list of which each is a line or a token
pub mapped-on : {X Y : Type 0} (text : Y → List ℕ) (f : X → Y) (v a b : List ℕ) (xs : List X) (i : ℕ) (x : X) → slice_get xs i ≡ Some x
    → a ≡ v ++ flat_map text (map f (take i xs)) → b ≡ a ++ text (f x) → b ≡ v ++ flat_map text (map f (take (i + 1) xs))
mapped-on text f v a b xs i x at p q =
    q ∙ ap (λ t. t ++ text (f x)) p ∙ append_assoc v (flat_map text (map f (take i xs))) (text (f x))
    ∙ ap (λ t. v ++ t) (sym (mapped-next text f xs i x at) ∙ ap (λ n. flat_map text (map f (take n xs))) (sym (add-one i)))
  where
    mapped-next : {X Y : Type 0} (text : Y → List ℕ) (f : X → Y) (xs : List X) (i : ℕ) (x : X) → slice_get xs i ≡ Some x
        → flat_map text (map f (take (suc i) xs)) ≡ flat_map text (map f (take i xs)) ++ text (f x)
    mapped-next text f [] i x h = cc
    mapped-next text f (y ∷ ys) zero x h = append-nil (text (f y)) ∙ ap (λ z. text (f z)) (same_some y x h)
    mapped-next text f (y ∷ ys) (suc i) x h = ap (λ t. text (f y) ++ t) (mapped-next text f ys i x h) ∙ sym (append_assoc (text (f y)) (flat_map text (map f (take i ys))) (text (f x)))

pub part-whole : (v a b c d : List ℕ) (net : Net) (p : Part) (named action : List ℕ) → slice_get net.component_names p.comp ≡ Some named → slice_get (component_at net p.comp).action_names p.action ≡ Some action
    → a ≡ v ++ codes " " → b ≡ a ++ named → c ≡ b ++ codes "." → d ≡ c ++ action → d ≡ v ++ spaced (part_token (part_by_name net p) ∷ [])
part-whole v a b c d net p named action f g h i j k =
    joined v named action a b c d h i j k
    ∙ (λ n. v ++ spaced ((sym (name_at-get net.component_names p.comp named f) n ++ codes "." ++ sym (name_at-get (component_at net p.comp).action_names p.action action g) n) ∷ []))
  where
    joined : (v x y a b c d : List ℕ) → a ≡ v ++ codes " " → b ≡ a ++ x → c ≡ b ++ codes "." → d ≡ c ++ y → d ≡ v ++ ((codes " " ++ (x ++ codes "." ++ y)) ++ [])
    joined v x y a b c d h i j k = rw (k, j, i, h) (simp (append_assoc, append-nil))
