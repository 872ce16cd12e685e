-- The parts of an event by name and by number.
use Rattle.std.proofs.Common.{◌≡◌, ◌<◌, ℕ, suc, Bool, true, false, cond, List, [], ◌∷◌, ◌++◌, length, Option, None, Some, refl, ap, ◌∙◌, subst, arith}
use Rattle.std.specs.Prelude.{map, nat_lt, slice_index_or, is_some, ◌&&◌, ◌||◌, ◌==◌, bytes_eq, option_map, option_and_then}
use Rattle.std.specs.List.{list_any, list_all, AllZip}
use Rattle.std.specs.Option.{option_map_or}
use Rattle.std.proofs.Math.Bool.{and-true}
use Rattle.std.proofs.lemmas.Bool.Decides.{Decides-ltb}
use Rattle.std.proofs.lemmas.Option.{same_Some, slice_get-get_or}
use Rattle.std.proofs.lemmas.List.Folds.{list_all-append}
use Rattle.des_base.proofs.PlaceLemmas.{place-within}
use Rattle.des_base.specs.Names.{place_of, is_name_text}
use Rattle.des_net.specs.declared.parts.Part.{Part}
use Rattle.des_net.specs.Network.{Component as Automaton, Net, component_at, no_component}
use Rattle.des_net.specs.Building.{is_known, repeats}
use Rattle.model_text.specs.ModelLines.{NamedPart}
use Rattle.model_text.specs.ModelNetwork.{number, numbered_part}
use Rattle.model_text.specs.ModelFaults.{stands_in, has_repeated}
use Rattle.model_text.specs.Growth.{part_of, parts_by_name}
use Rattle.model_text.specs.GrowthLaw.{HasNames}
use Rattle.model_text.proofs.NumberLemmas.{bytes_eq-place, number-place, IsName-place}
use Rattle.std.proofs.lemmas.Bool.{and_right}

-- a part's component is there and has the action
pub record Found (net : Net) (p : NamedPart) (q : Part) : Type 0 where
  pub component : place_of p.component net.component_names ≡ Some q.comp
  pub action : place_of p.action (component_at net q.comp).action_names ≡ Some q.action

found_action : (net : Net) (p : NamedPart) (q : Part) (c : ℕ) (o : Option ℕ) → place_of p.component net.component_names ≡ Some c → place_of p.action (component_at net c).action_names ≡ o
    → option_map (λ a. record { comp = c; action = a }) o ≡ Some q → Found net p q
found_action net p q c None h g e = cc
found_action net p q c (Some a) h g e = subst (Found net p) (same_Some (record { comp = c; action = a }) q e) (record { component = h; action = g })

found_component : (net : Net) (p : NamedPart) (q : Part) (o : Option ℕ) → place_of p.component net.component_names ≡ o
    → option_and_then (λ c. option_map (λ a. record { comp = c; action = a }) (place_of p.action (component_at net c).action_names)) o ≡ Some q → Found net p q
found_component net p q None h e = cc
found_component net p q (Some c) h e = found_action net p q c (place_of p.action (component_at net c).action_names) h refl e

found : (net : Net) (p : NamedPart) (q : Part) → part_of net p ≡ Some q → Found net p q
found net p q e = found_component net p q (place_of p.component net.component_names) refl e

-- the actions of the component of this name, as far as they are known
abbrev pub actions_at : Net → Option ℕ → List (List ℕ)
actions_at net place = option_map_or (λ c. (slice_index_or net.components c no_component).action_names) place []

-- a part's action is known
abbrev pub knows : Net → NamedPart → Bool
knows net p = stands_in (actions_at net (place_of p.component net.component_names)) p.action

lost_action : (c : ℕ) (o : Option ℕ) → ◌≡◌ {A = Option Part} (option_map (λ a. record { comp = c; action = a }) o) None → is_some o ≡ false
lost_action c None e = refl
lost_action c (Some a) e = cc

lost_component : (net : Net) (p : NamedPart) (o : Option ℕ)
    → ◌≡◌ {A = Option Part} (option_and_then (λ c. option_map (λ a. record { comp = c; action = a }) (place_of p.action (component_at net c).action_names)) o) None → stands_in (actions_at net o) p.action ≡ false
lost_component net p None e = refl
lost_component net p (Some c) e = lost_action c (place_of p.action (component_at net c).action_names) e

lost : (net : Net) (p : NamedPart) → part_of net p ≡ None → knows net p ≡ false
lost net p e = lost_component net p (place_of p.component net.component_names) e

knows-found : (net : Net) (p : NamedPart) (q : Part) → Found net p q → knows net p ≡ true
knows-found net p q f = ap (λ o. stands_in (actions_at net o) p.action) f.component ∙ ap (λ o. is_some o) f.action

all_step : (net : Net) (p : NamedPart) (ps : List NamedPart) (qs : List Part) (o : Option Part) (r : Option (List Part)) → part_of net p ≡ o → ((rest : List Part) → r ≡ Some rest → AllZip (Found net) ps rest)
    → option_and_then (λ y. option_map (λ ys. y ∷ ys) r) o ≡ Some qs → AllZip (Found net) (p ∷ ps) qs
all_step net p ps qs None r h rest e = cc
all_step net p ps qs (Some q) None h rest e = cc
all_step net p ps qs (Some q) (Some more) h rest e = subst (AllZip (Found net) (p ∷ ps)) (same_Some (q ∷ more) qs e) (found net p q h, rest more refl)

pub all_found : (net : Net) (ps : List NamedPart) (qs : List Part) → parts_by_name net ps ≡ Some qs → AllZip (Found net) ps qs
all_found net [] qs e = subst (AllZip (Found net) []) (same_Some [] qs e) tt
all_found net (p ∷ ps) qs e = all_step net p ps qs (part_of net p) (parts_by_name net ps) refl (λ rest f. all_found net ps rest f) e

none_step : (a b : Bool) (o : Option Part) (r : Option (List Part)) → (o ≡ None → a ≡ false) → (r ≡ None → b ≡ false)
    → option_and_then (λ y. option_map (λ ys. y ∷ ys) r) o ≡ None → (a && b) ≡ false
none_step a b None r f g e = ap (λ x. x && b) (f refl)
none_step a b (Some q) None f g e = and_right a b (g refl)
none_step a b (Some q) (Some more) f g e = cc

-- where a part isn't found, one isn't known
pub all_lost : (net : Net) (ps : List NamedPart) → parts_by_name net ps ≡ None → list_all (knows net) ps ≡ false
all_lost net [] e = cc
all_lost net (p ∷ ps) e = none_step (knows net p) (list_all (knows net) ps) (part_of net p) (parts_by_name net ps) (λ f. lost net p f) (λ f. all_lost net ps f) e

pub all_known : (net : Net) (ps : List NamedPart) (qs : List Part) → AllZip (Found net) ps qs → list_all (knows net) ps ≡ true
all_known net [] [] h = refl
all_known net [] (q ∷ qs) h = absurd h
all_known net (p ∷ ps) [] h = absurd h
all_known net (p ∷ ps) (q ∷ qs) h = λ i. knows-found net p q h.0 i && all_known net ps qs h.1 i

part_numbered : (net : Net) (p : NamedPart) (q : Part) → Found net p q → numbered_part net.component_names net.components p ≡ q
part_numbered net p q f =
    (λ i. let c = number-place net.component_names p.component q.comp f.component i in record { comp = c; action = number (slice_index_or net.components c no_component).action_names p.action })
    ∙ (λ i. record { comp = q.comp; action = number-place (component_at net q.comp).action_names p.action q.action f.action i })

pub all_numbered : (net : Net) (ps : List NamedPart) (qs : List Part) → AllZip (Found net) ps qs → map (numbered_part net.component_names net.components) ps ≡ qs
all_numbered net [] [] h = refl
all_numbered net [] (q ∷ qs) h = absurd h
all_numbered net (p ∷ ps) [] h = absurd h
all_numbered net (p ∷ ps) (q ∷ qs) h = λ i. part_numbered net p q h.0 i ∷ all_numbered net ps qs h.1 i

inside : (net : Net) (p : NamedPart) (q : Part) → length net.component_names ≡ length net.components → Found net p q → q.comp < length net.components
inside net p q named f = let l = place-within (bytes_eq p.component) net.component_names q.comp f.component in omega arith

part_known : (net : Net) (p : NamedPart) (q : Part) → length net.component_names ≡ length net.components → Found net p q → is_known net.components q ≡ true
unfolding is_known
part_known net p q named f =
    ap (λ o. option_map_or (λ (c : Automaton). nat_lt q.action (length c.action_names)) o false) (slice_get-get_or net.components q.comp no_component (inside net p q named f))
    ∙ (Decides-ltb q.action (length (component_at net q.comp).action_names)).1 (place-within (bytes_eq p.action) (component_at net q.comp).action_names q.action f.action)

pub all_there : (net : Net) (ps : List NamedPart) (qs : List Part) → length net.component_names ≡ length net.components → AllZip (Found net) ps qs → list_all (is_known net.components) qs ≡ true
all_there net [] [] named h = refl
all_there net [] (q ∷ qs) named h = absurd h
all_there net (p ∷ ps) [] named h = absurd h
all_there net (p ∷ ps) (q ∷ qs) named h = λ i. part_known net p q named h.0 i && all_there net ps qs named h.1 i

module _ (net : Net) (names : HasNames net) (named : length net.component_names ≡ length net.components) where
  components_named : (ps : List NamedPart) (qs : List Part) → AllZip (Found net) ps qs → list_all is_name_text (map (λ p. p.component) ps) ≡ true
  components_named [] [] h = refl
  components_named [] (q ∷ qs) h = absurd h
  components_named (p ∷ ps) [] h = absurd h
  components_named (p ∷ ps) (q ∷ qs) h = λ i. IsName-place p.component net.component_names q.comp names.called h.0.component i && components_named ps qs h.1 i

  actions_named : (ps : List NamedPart) (qs : List Part) → AllZip (Found net) ps qs → list_all is_name_text (map (λ p. p.action) ps) ≡ true
  actions_named [] [] h = refl
  actions_named [] (q ∷ qs) h = absurd h
  actions_named (p ∷ ps) [] h = absurd h
  actions_named (p ∷ ps) (q ∷ qs) h =
      λ i. IsName-place p.action (component_at net q.comp).action_names q.action (names.components q.comp no_component (inside net p q named h.0)).actions h.0.action i && actions_named ps qs h.1 i

  -- known parts are called by names
  pub all_named : (words : List (List ℕ)) (ps : List NamedPart) (qs : List Part) → AllZip (Found net) ps qs
      → list_all is_name_text (words ++ map (λ p. p.component) ps ++ map (λ p. p.action) ps) ≡ list_all is_name_text words
  all_named words ps qs h =
      list_all-append is_name_text (words ++ map (λ (p : NamedPart). p.component) ps) (map (λ (p : NamedPart). p.action) ps)
      ∙ (λ i. list_all-append is_name_text words (map (λ (p : NamedPart). p.component) ps) i && actions_named ps qs h i)
      ∙ and-true (list_all is_name_text words && list_all is_name_text (map (λ (p : NamedPart). p.component) ps))
      ∙ ap (λ b. list_all is_name_text words && b) (components_named ps qs h)
      ∙ and-true (list_all is_name_text words)

pub is_some_step : (b : Bool) (o : Option ℕ) → is_some (cond b (Some 0) (option_map suc o)) ≡ (b || is_some o)
is_some_step true o = refl
is_some_step false None = refl
is_some_step false (Some k) = refl

-- a component's name stands among the parts' where its number does
stands : (net : Net) (text : List ℕ) (k : ℕ) (ps : List NamedPart) (qs : List Part) → place_of text net.component_names ≡ Some k → AllZip (Found net) ps qs
    → stands_in (map (λ p. p.component) ps) text ≡ list_any (λ q. q.comp == k) qs
stands net text k [] [] at h = refl
stands net text k [] (q ∷ qs) at h = absurd h
stands net text k (p ∷ ps) [] at h = absurd h
stands net text k (p ∷ ps) (q ∷ qs) at h =
    is_some_step (bytes_eq text p.component) (place_of text (map (λ (p : NamedPart). p.component) ps))
    ∙ (λ i. bytes_eq-place net.component_names text p.component k q.comp at h.0.component i || stands net text k ps qs at h.1 i)

pub all_repeated : (net : Net) (ps : List NamedPart) (qs : List Part) → AllZip (Found net) ps qs → has_repeated (map (λ p. p.component) ps) ≡ repeats qs
unfolding repeats
all_repeated net [] [] h = refl
all_repeated net [] (q ∷ qs) h = absurd h
all_repeated net (p ∷ ps) [] h = absurd h
all_repeated net (p ∷ ps) (q ∷ qs) h = λ i. stands net p.component q.comp ps qs h.0.component h.1 i || all_repeated net ps qs h.1 i
