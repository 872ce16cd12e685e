-- What the builder refuses of a line, by the line's code.
use Rattle.std.proofs.Common.{◌≡◌, ◌+◌, ◌<◌, ℕ, Bool, true, false, List, [], ◌∷◌, ◌++◌, length, get_or, Option, None, Some, Result, Ok, Err, IsErrAnd, refl, ap, sym, ◌∙◌, subst, arith}
use Rattle.std.specs.Prelude.{map, not, nat_le, nat_lt, slice_get, is_some, ◌&&◌, ◌||◌}
use Rattle.std.specs.List.{list_all}
use Rattle.std.proofs.lemmas.List.{length-map}
use Rattle.std.proofs.lemmas.List.Folds.{list_all-append}
use Rattle.std.proofs.lemmas.Option.{slice_get-get_or}
use Rattle.std.proofs.lemmas.Bool.Decides.{nat_tests}
use Rattle.des_base.proofs.BoolLemmas.{and_assoc}
use Rattle.des_base.specs.Names.{place_of, is_name_text}
use Rattle.des_net.specs.declared.parts.Part.{Part}
use Rattle.des_net.specs.declared.refusal.BuildRefusal.{BuildRefusal}
use Rattle.des_net.specs.declared.refusal.BuildRefusal.TheVariants as builder
use Rattle.des_net.specs.Network.{Component as Automaton, Net, no_component, component_at}
use Rattle.des_base.specs.Refusing.{SucceedsUnless}
use Rattle.des_net.specs.Building.{IsDraft, state_refusal, trans_refusal, event_refusal, has_trans, trans_count, repeats}
use Rattle.model_text.specs.declared.refusal.LineRefusal.{LineRefusal}
use Rattle.model_text.specs.declared.refusal.LineRefusal.TheVariants as line
use Rattle.model_text.specs.declared.part_name.PartName.{PartName}
use Rattle.model_text.specs.Shapes.{part_said}
use Rattle.model_text.specs.ModelLines.{ModelLine, component, state, transition, event, NamedPart}
use Rattle.model_text.specs.ModelFaults.{has_repeated, stands_in, names_of_line}
use Rattle.model_text.specs.Refusals.{refusal_of_build}
use Rattle.model_text.specs.Growth.{last_place, last_states, parts_by_name}
use Rattle.model_text.specs.LineCodes.{first_of, has_placed, is_without_components, code_by, code_by_tokens, IsCoded}
use Rattle.model_text.specs.LineAdditions.{AddsLine, IsNamedInLine, IsLabelled}
use Rattle.model_text.proofs.CodeLemmas.{limited, state_refusal-at, trans_refusal-at}
use Rattle.model_text.proofs.PartLemmas.{all_found, all_there, all_repeated}
use Rattle.model_text.proofs.StepLemmas.{event_refusal-known, length_all}
use Rattle.std.proofs.lemmas.Bool.{and_right}
use Rattle.std.specs.Option.{option_to_list}

-- a double, or a limit
limited-coded : (double past : Bool) (r : BuildRefusal) → SucceedsUnless {X = Unit {0}} (limited double past) builder.Memory (Err r) → IsCoded (first_of false true double false past) (refusal_of_build r)
limited-coded true past builder.Double h = refl
limited-coded true past builder.Unknown h = let e = h (λ m. cc) in cc
limited-coded true past builder.Limit h = let e = h (λ m. cc) in cc
limited-coded true past builder.Memory h = tt
limited-coded false true builder.Double h = let e = h (λ m. cc) in cc
limited-coded false true builder.Unknown h = let e = h (λ m. cc) in cc
limited-coded false true builder.Limit h = refl
limited-coded false true builder.Memory h = tt
limited-coded false false builder.Double h = let e = h (λ m. cc) in cc
limited-coded false false builder.Unknown h = let e = h (λ m. cc) in cc
limited-coded false false builder.Limit h = let e = h (λ m. cc) in cc
limited-coded false false builder.Memory h = tt

by_limits : (double past : Bool) (code : Option ℕ) (refusal : Option BuildRefusal) (r : BuildRefusal) → code ≡ first_of false true double false past → refusal ≡ limited double past
    → SucceedsUnless {X = Unit {0}} refusal builder.Memory (Err r) → IsCoded code (refusal_of_build r)
by_limits double past code refusal r e f h =
    subst (λ c. IsCoded c (refusal_of_build r)) (sym e) (limited-coded double past r (subst (λ o. SucceedsUnless {X = Unit {0}} o builder.Memory (Err r)) f h))

-- ---- words that are no names

unnamed : (homeless named double unknown past : Bool) → homeless ≡ false → named ≡ false → first_of homeless named double unknown past ≡ Some 3
unnamed homeless named double unknown past e f = rw (e, f) refl

one_name : (name : List ℕ) (b : Bool) → is_name_text name ≡ b → list_all is_name_text (name ∷ []) ≡ b
one_name name true h = rw h refl
one_name name false h = rw h refl

-- ---- before any component

homeless : (b named double unknown past : Bool) → b ≡ true → first_of b named double unknown past ≡ Some 7
homeless b named double unknown past h = rw h refl

-- ---- the component that was begun last

module _ (net : Net) (comp : ℕ) (current : comp + 1 ≡ length net.components) where
  abbrev last : Automaton
  last = component_at net (last_place net)

  some : is_without_components net ≡ false
  some = grind (arith, nat_tests)

  place : comp ≡ last_place net
  place = omega arith

  at : slice_get net.components comp ≡ Some last
  at = slice_get-get_or net.components comp no_component (omega arith) ∙ ap (λ i. Some (get_or net.components i no_component)) place

  pub state-refused : (name : List ℕ) (initial : Bool) (r : BuildRefusal) → is_name_text name ≡ true → SucceedsUnless {X = ℕ} (state_refusal net.components comp name) builder.Memory (Err r) → IsCoded (code_by net (state name initial)) (refusal_of_build r)
  state-refused name initial r h answered =
      by_limits (stands_in (last_states net) name) (nat_le 256 (length (last_states net))) _ (state_refusal net.components comp name) r
      (λ i. first_of (some i) (one_name name true h i) (stands_in (last_states net) name) false (nat_le 256 (length (last_states net))))
      (state_refusal-at net.components comp name last at) answered

  pub state-given : (text name : List ℕ) (initial : Bool) (r : BuildRefusal) → IsNamedInLine text (Ok name) → SucceedsUnless {X = ℕ} (state_refusal net.components comp name) builder.Memory (Err r) → IsCoded (code_by net (state text initial)) (refusal_of_build r)
  state-given text name initial r named answered =
      state-refused text initial r named.1 (subst (λ (n : List ℕ). SucceedsUnless {X = ℕ} (state_refusal net.components comp n) builder.Memory (Err r)) named.0 answered)

  pub transition-refused : (from action to : List ℕ) (i j : ℕ) (r : BuildRefusal) → (is_name_text from && (is_name_text action && (is_name_text to && true))) ≡ true → place_of from last.state_names ≡ Some i → place_of to last.state_names ≡ Some j
      → i < length last.state_names → j < length last.state_names → SucceedsUnless {X = Unit {0}} (trans_refusal net.components comp i action j) builder.Memory (Err r) → IsCoded (code_by net (transition from action to)) (refusal_of_build r)
  transition-refused from action to i j r h source target f t answered =
      by_limits (has_trans last i action j) (nat_le 50000 (trans_count net.components)) _ (trans_refusal net.components comp i action j) r
      (λ k. first_of (some k) (h k) (has_placed last action (source k) (target k)) (not (is_some (source k) && is_some (target k))) (nat_le 50000 (trans_count net.components)))
      (trans_refusal-at net.components comp i action j last at f t) answered

  -- the same by the values that the reader has at hand
  pub transition-given : (from action to : List ℕ) (i j : ℕ) (name : List ℕ) (r : BuildRefusal) → is_name_text from ≡ true → is_name_text to ≡ true → IsNamedInLine action (Ok name)
      → Some i ≡ place_of from (component_at net comp).state_names → Some j ≡ place_of to (component_at net comp).state_names → i < length (component_at net comp).state_names → j < length (component_at net comp).state_names
      → SucceedsUnless {X = Unit {0}} (trans_refusal net.components comp i name j) builder.Memory (Err r) → IsCoded (code_by net (transition from action to)) (refusal_of_build r)
  transition-given from action to i j name r f t named source target inside within answered =
      let here : component_at net comp ≡ last = ap (λ k. component_at net k) place in
      transition-refused from action to i j r (three (is_name_text from) (is_name_text action) (is_name_text to) f named.1 t)
      (ap (λ (c : Automaton). place_of from c.state_names) (sym here) ∙ sym source) (ap (λ (c : Automaton). place_of to c.state_names) (sym here) ∙ sym target)
      (subst (λ (c : Automaton). i < length c.state_names) here inside) (subst (λ (c : Automaton). j < length c.state_names) here within)
      (subst (λ (n : List ℕ). SucceedsUnless {X = Unit {0}} (trans_refusal net.components comp i n j) builder.Memory (Err r)) named.0 answered)
    where
      three : (a b c : Bool) → a ≡ true → b ≡ true → c ≡ true → (a && (b && (c && true))) ≡ true
      three a b c h k l = rw (h, k, l) refl

-- ---- an event

all_three : (a b c : Bool) → a ≡ true → b ≡ true → c ≡ true → ((a && b) && c) ≡ true
all_three a b c e f g = rw (e, f, g) refl

pairwise : (a b c d : Bool) → ((a && b) && (c && d)) ≡ ((a && c) && (b && d))
pairwise true true c d = refl
pairwise true false true d = refl
pairwise true false false d = refl
pairwise false b c d = refl

-- the names of parts, component by component and action by action
abbrev pub part_words : List NamedPart → Bool
part_words parts = list_all is_name_text (map (λ p. p.component) parts) && list_all is_name_text (map (λ p. p.action) parts)

pub part_words-each : (parts : List PartName) → list_all (λ part. is_name_text part.component.now && is_name_text part.action.now) parts ≡ part_words (map part_said parts)
part_words-each [] = refl
part_words-each (p ∷ ps) =
    ap (λ b. (is_name_text p.component.now && is_name_text p.action.now) && b) (part_words-each ps)
    ∙ pairwise (is_name_text p.component.now) (is_name_text p.action.now) (list_all is_name_text (map (λ (p : NamedPart). p.component) (map part_said ps))) (list_all is_name_text (map (λ (p : NamedPart). p.action) (map part_said ps)))

module _ (net : Net) (name : List ℕ) (label : Option (List ℕ)) (fault : Bool) (parts : List NamedPart) where
  abbrev comps : Bool
  comps = list_all is_name_text (map (λ (p : NamedPart). p.component) parts)

  abbrev actions : Bool
  actions = list_all is_name_text (map (λ (p : NamedPart). p.action) parts)

  abbrev front : Bool
  front = is_name_text name && list_all is_name_text (option_to_list label)

  abbrev double : Bool
  double = stands_in net.event_names name || has_repeated (map (λ (p : NamedPart). p.component) parts)

  abbrev past : Bool
  past = nat_le 4000 (length net.events) || nat_lt 16 (length parts)

  words : list_all is_name_text (names_of_line (event name label fault parts)) ≡ (front && part_words parts)
  words =
      list_all-append is_name_text ((name ∷ option_to_list label) ++ map (λ (p : NamedPart). p.component) parts) (map (λ (p : NamedPart). p.action) parts)
      ∙ ap (λ b. b && actions) (list_all-append is_name_text (name ∷ option_to_list label) (map (λ (p : NamedPart). p.component) parts))
      ∙ and_assoc front comps actions

  unnamed_event : (front && part_words parts) ≡ false → code_by net (event name label fault parts) ≡ Some 3
  unnamed_event h = unnamed false (list_all is_name_text (names_of_line (event name label fault parts))) double (not (is_some (parts_by_name net parts))) past refl (words ∙ h)

  pub event-part_unnamed : part_words parts ≡ false → code_by net (event name label fault parts) ≡ Some 3
  event-part_unnamed h = unnamed_event (and_right front (part_words parts) h)

  module _ (called : is_name_text name ≡ true) (labelled : list_all is_name_text (option_to_list label) ≡ true) (named : part_words parts ≡ true) where
    well : list_all is_name_text (names_of_line (event name label fault parts)) ≡ true
    well = words ∙ all_three (is_name_text name) (list_all is_name_text (option_to_list label)) (part_words parts) called labelled named

    -- where one of the parts isn't known
    pub event-unknown : (r : LineRefusal) → parts_by_name net parts ≡ None → IsCoded (first_of false true double true false) r → IsCoded (code_by net (event name label fault parts)) r
    event-unknown r lost h =
        subst (λ c. IsCoded c r)
        (sym (λ i. first_of false (well i) double (not (is_some (lost i))) past)) h

    -- where all are known
    pub event-refused : (found : List Part) (r : BuildRefusal) → IsDraft net → parts_by_name net parts ≡ Some found → SucceedsUnless {X = ℕ} (event_refusal net name found) builder.Memory (Err r) → IsCoded (code_by net (event name label fault parts)) (refusal_of_build r)
    event-refused found r draft is answered =
        let known = all_found net parts found is in
        let repeated = all_repeated net parts found known in
        let few = length_all net parts found known in
        by_limits (stands_in net.event_names name || repeats found) (nat_le 4000 (length net.events) || nat_lt 16 (length found)) _ (event_refusal net name found) r
        (λ i. first_of false (well i) (stands_in net.event_names name || repeated i) (not (is_some (is i))) (nat_le 4000 (length net.events) || nat_lt 16 (few i)))
        (event_refusal-known net name found (all_there net parts found draft.named known)) answered

-- the same by the values that the reader has at hand
module _ (net : Net) (text : List ℕ) (label : Option (List ℕ)) (fault : Bool) (parts : List PartName) (name : List ℕ) (labelled : Option (List ℕ))
    (called : IsNamedInLine text (Ok name)) (labels : IsLabelled label (Ok labelled)) (named : list_all (λ part. is_name_text part.component.now && is_name_text part.action.now) parts ≡ true) where
  whole : part_words (map part_said parts) ≡ true
  whole = sym (part_words-each parts) ∙ named

  pub unknown-given : (r : LineRefusal) → parts_by_name net (map part_said parts) ≡ None
      → IsCoded (first_of false true (stands_in net.event_names name || has_repeated (map (λ p. p.component) (map part_said parts))) true false) r → IsCoded (code_by net (event text label fault (map part_said parts))) r
  unknown-given r lost h =
      event-unknown net text label fault (map part_said parts) called.1 labels.1 whole r lost
      (subst (λ (n : List ℕ). IsCoded (first_of false true (stands_in net.event_names n || has_repeated (map (λ (p : NamedPart). p.component) (map part_said parts))) true false) r) called.0 h)

  pub refused-given : (found slice : List Part) (r : BuildRefusal) → IsDraft net → parts_by_name net (map part_said parts) ≡ Some found → slice ≡ found → SucceedsUnless {X = ℕ} (event_refusal net name slice) builder.Memory (Err r)
      → IsCoded (code_by net (event text label fault (map part_said parts))) (refusal_of_build r)
  refused-given found slice r draft is same answered =
      event-refused net text label fault (map part_said parts) called.1 labels.1 whole found r draft is
      (subst (λ (ps : List Part). SucceedsUnless {X = ℕ} (event_refusal net text ps) builder.Memory (Err r)) same (subst (λ (n : List ℕ). SucceedsUnless {X = ℕ} (event_refusal net n slice) builder.Memory (Err r)) called.0 answered))

-- as many parts are found as are named
pub found-some : (net : Net) (parts : List PartName) (found slice : List Part) → parts_by_name net (map part_said parts) ≡ Some found → slice ≡ found → 0 < length parts → 0 < length slice
found-some net parts found slice is same some =
    let count = length_all net (map part_said parts) found (all_found net (map part_said parts) found is) in
    subst (λ (n : ℕ). 0 < n) (sym (length-map parts part_said) ∙ count ∙ ap (λ ps. length ps) (sym same)) some

-- ---- a refusal that is handed on

pub handed : (net new : Net) (said : Option ModelLine) (of : ModelLine) (result : Result (Unit {0}) LineRefusal) (e : LineRefusal) → said ≡ Some of → IsErrAnd result (λ x. x ≡ e) → IsCoded (code_by net of) e → AddsLine net said new result
handed net new said of (Ok done) e is told h = absurd told
handed net new said of (Err x) e is told h = subst (λ y. IsCoded (code_by_tokens net said) y) (sym told) (subst (λ o. IsCoded (code_by_tokens net o) e) (sym is) h)
