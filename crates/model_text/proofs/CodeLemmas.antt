-- A line's code against what the builder refuses.
use Rattle.std.proofs.Common.{◌≡◌, ◌<◌, ℕ, Bool, true, false, cond, List, [], ◌∷◌, ◌++◌, length, Option, None, Some, refl, ap, sym, ◌∙◌, subst, arith}
use Rattle.std.specs.Prelude.{map, not, nat_le, nat_lt, IsSome, slice_get, All, is_some, ◌&&◌, ◌||◌, bytes_eq}
use Rattle.std.specs.List.{list_any, AllByRecursion}
use Rattle.std.specs.Option.{option_map_or}
use Rattle.std.proofs.lemmas.Slice.Eq.{bytes_eq-Decides}
use Rattle.std.proofs.lemmas.Bool.Decides.{Decides-ltb, nat_tests}
use Rattle.std.proofs.lemmas.Option.{get_or_from_slice_get, slice_get_within}
use Rattle.des_base.specs.Names.{place_of}
use Rattle.des_net.specs.declared.refusal.BuildRefusal.{BuildRefusal}
use Rattle.des_net.specs.declared.refusal.BuildRefusal.TheVariants.{Double, Unknown, Limit}
use Rattle.des_net.specs.Network.{Component as Automaton, Net, IsTransOf, no_component}
use Rattle.des_net.specs.Building.{state_refusal, trans_refusal, has_trans, is_trans, trans_count}
use Rattle.model_text.specs.ModelNetwork.{NamedTransition, number, numbered_transition}
use Rattle.model_text.specs.ModelFaults.{is_same_transition}
use Rattle.model_text.specs.Growth.{unless}
use Rattle.model_text.proofs.NumberLemmas.{bytes_eq-place, place_of-number}

-- a line's code by the five conditions, in their order
abbrev pub outcome : Bool → Bool → Bool → Bool → Bool → Option ℕ
outcome homeless named double unknown past =
    cond homeless (Some 7) (cond (not named) (Some 3) (cond double (Some 4) (cond unknown (Some 5) (cond past (Some 8) None))))

-- what the law says of a line: it has no code where it grows to the next network, and a code where it is refused
pub record Step (code : Option ℕ) (grown : Option Net) (next : Net) : Type 0 where
  pub grows : (net : Net) → grown ≡ Some net → (code ≡ None) × (next ≡ net)
  pub refused : grown ≡ None → IsSome code

pub none_some : {X : Type 0} (o : Option X) (x : X) → o ≡ None → o ≡ Some x → ⊥
none_some o x e g = cc

pub Step-refused : (code : Option ℕ) (grown : Option Net) (next : Net) → IsSome code → grown ≡ None → Step code grown next
Step-refused code grown next h e = record { grows = λ net g. absurd (none_some grown net e g); refused = λ g. h }

pub Step-same : (code other : Option ℕ) (grown grows : Option Net) (next now : Net) → other ≡ code → grows ≡ grown → now ≡ next → Step code grown next → Step other grows now
Step-same code other grown grows next now e f g s =
    subst (λ c. Step c grows now) (sym e) (subst (λ o. Step code o now) (sym f) (subst (λ n. Step code grown n) (sym g) s))

-- a refusal by a double or a limit
abbrev pub limited : Bool → Bool → Option BuildRefusal
limited double past = cond double (Some Double) (cond past (Some Limit) None)

some_net : (m net : Net) → Some m ≡ Some net → m ≡ net
some_net m net e = cc

plain : (named double past : Bool) (m : Net) → Step (outcome false named double false past) (cond named (unless (limited double past) m) None) m
plain false double past m = Step-refused (Some 3) None m refl refl
plain true true past m = Step-refused (Some 4) None m refl refl
plain true false true m = Step-refused (Some 8) None m refl refl
plain true false false m = record { grows = λ net g. (refl, some_net m net g); refused = λ g. cc }

-- a line whose parts are known
pub Step-plain : (named double past : Bool) (m : Net) (code : Option ℕ) (grown : Option Net) (next : Net)
    → code ≡ outcome false named double false past → grown ≡ cond named (unless (limited double past) m) None → next ≡ m → Step code grown next
Step-plain named double past m code grown next e f g = Step-same _ code _ grown m next e f g (plain named double past m)

some_code : (homeless named double past : Bool) → IsSome (outcome homeless named double true past)
some_code true named double past = refl
some_code false false double past = refl
some_code false true true past = refl
some_code false true false past = refl

-- a line with an unknown part has a code
pub outcome-unknown : (homeless named double unknown past : Bool) → unknown ≡ true → IsSome (outcome homeless named double unknown past)
outcome-unknown homeless named double unknown past e = subst (λ u. IsSome (outcome homeless named double u past)) (sym e) (some_code homeless named double past)

pub none_either : (b : Bool) → ◌≡◌ {A = Option Net} (cond b None None) None
none_either true = refl
none_either false = refl

pub nothing : (b : Bool) (net : Net) → ◌≡◌ {A = Option Net} (cond b None None) (Some net) → ⊥
nothing true net h = cc
nothing false net h = cc

pub not_empty : {X : Type 0} (front : List X) (last : X) → nat_le (length (front ++ last ∷ [])) 0 ≡ false
not_empty [] last = grind (arith, nat_tests)
not_empty (x ∷ front) last = grind (arith, nat_tests)

-- what holds of each component holds of one
pub All-slice_get : (P : Automaton → Type 0) (components : List Automaton) (i : ℕ) (c : Automaton) → All P components → slice_get components i ≡ Some c → P c
All-slice_get P components i c all at = subst P (get_or_from_slice_get components i c no_component at) (all i no_component (slice_get_within components i c at))

pub state_refusal-at : (components : List Automaton) (i : ℕ) (name : List ℕ) (c : Automaton) → slice_get components i ≡ Some c
    → state_refusal components i name ≡ limited (is_some (place_of name c.state_names)) (nat_le 256 (length c.state_names))
unfolding state_refusal
state_refusal-at components i name c at =
    ap (λ o. option_map_or (λ d. limited (is_some (place_of name d.state_names)) (nat_le 256 (length d.state_names))) o (Some Unknown)) at

known_of : (double past : Bool) (s t : Bool) → s ≡ true → t ≡ true → cond double (Some Double) (cond (s && t) (cond past (Some Limit) None) (Some Unknown)) ≡ limited double past
known_of double past s t e f = rw (e, f) refl

pub trans_refusal-at : (components : List Automaton) (i from : ℕ) (action : List ℕ) (to : ℕ) (c : Automaton) → slice_get components i ≡ Some c
    → from < length c.state_names → to < length c.state_names → trans_refusal components i from action to ≡ limited (has_trans c from action to) (nat_le 50000 (trans_count components))
unfolding trans_refusal
trans_refusal-at components i from action to c at f t =
    ap (λ o. option_map_or (λ d. cond (has_trans d from action to) (Some Double) (cond (nat_lt from (length d.state_names) && nat_lt to (length d.state_names)) (cond (nat_le 50000 (trans_count components)) (Some Limit) None) (Some Unknown))) o (Some Unknown)) at
    ∙ known_of (has_trans c from action to) (nat_le 50000 (trans_count components)) (nat_lt from (length c.state_names)) (nat_lt to (length c.state_names)) ((Decides-ltb from (length c.state_names)).1 f) ((Decides-ltb to (length c.state_names)).1 t)

-- the transition is there by its names where it is there by its numbers
module _ (states actions : List (List ℕ)) (from action to : List ℕ) (i j : ℕ) (source : place_of from states ≡ Some i) (target : place_of to states ≡ Some j) where
  there : (a : ℕ) (ts : List NamedTransition) → place_of action actions ≡ Some a → AllByRecursion (IsTransOf (length states) (length actions)) (map (numbered_transition states actions) ts)
      → list_any (is_same_transition (record { from = from; action = action; to = to })) ts ≡ list_any (is_trans i a j) (map (numbered_transition states actions) ts)
  there a [] at all = refl
  there a (t ∷ ts) at all = λ k.
      (bytes_eq-place states from t.from i (number states t.from) source (place_of-number states t.from all.0.from) k
      && bytes_eq-place actions action t.action a (number actions t.action) at (place_of-number actions t.action all.0.action) k
      && bytes_eq-place states to t.to j (number states t.to) target (place_of-number states t.to all.0.to) k)
      || there a ts at all.1 k

  other : (text : List ℕ) → place_of action actions ≡ None → number actions text < length actions → bytes_eq action text ≡ true → ⊥
  other text none inside same = none_some (place_of action actions) (number actions text) none (ap (λ t. place_of t actions) ((bytes_eq-Decides action text).0 same) ∙ place_of-number actions text inside)

  and_false : (a b c : Bool) → (b ≡ true → ⊥) → (a && b && c) ≡ false
  and_false true true c h = absurd (h refl)
  and_false true false c h = refl
  and_false false b c h = refl

  absent : (ts : List NamedTransition) → place_of action actions ≡ None → AllByRecursion (IsTransOf (length states) (length actions)) (map (numbered_transition states actions) ts)
      → list_any (is_same_transition (record { from = from; action = action; to = to })) ts ≡ false
  absent [] none all = refl
  absent (t ∷ ts) none all = λ k. and_false (bytes_eq from t.from) (bytes_eq action t.action) (bytes_eq to t.to) (other t.action none all.0.action) k || absent ts none all.1 k

  by_place : (ts : List NamedTransition) (o : Option ℕ) → place_of action actions ≡ o → AllByRecursion (IsTransOf (length states) (length actions)) (map (numbered_transition states actions) ts)
      → list_any (is_same_transition (record { from = from; action = action; to = to })) ts ≡ option_map_or (λ a. list_any (is_trans i a j) (map (numbered_transition states actions) ts)) o false
  by_place ts None at all = absent ts at all
  by_place ts (Some a) at all = there a ts at all

  pub same_transition-places : (ts : List NamedTransition) → AllByRecursion (IsTransOf (length states) (length actions)) (map (numbered_transition states actions) ts)
      → list_any (is_same_transition (record { from = from; action = action; to = to })) ts ≡ option_map_or (λ a. list_any (is_trans i a j) (map (numbered_transition states actions) ts)) (place_of action actions) false
  same_transition-places ts all = by_place ts (place_of action actions) refl all
