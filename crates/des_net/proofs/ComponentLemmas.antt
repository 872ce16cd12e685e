-- A component stays one under each addition.
use Rattle.std.proofs.Common.{◌≡◌, ◌∙◌, ◌<◌, ◌≤◌, ◌+◌, ◌||◌, ℕ, Bool, true, false, cond, List, [], ◌∷◌, ◌++◌, length, Option, None, Some, refl, ap, sym, arith, length-append}
use Rattle.std.specs.Prelude.{unwrap_or, is_some, All}
use Rattle.std.specs.List.{list_any}
use Rattle.std.specs.Option.{option_map_or}
use Rattle.std.proofs.lemmas.List.Elements.{All-push, All-weaker, All-nil, All-head, All-tail}
use Rattle.std.proofs.lemmas.Bool.Decides.{nat_tests}
use Rattle.std.proofs.lemmas.List.Folds.{list_any-append}
use Rattle.std.proofs.Math.Bool.{or-false}
use Rattle.des_base.proofs.PlaceLemmas.{place-within}
use Rattle.des_base.specs.Names.{place_of, AreNames, IsName}
use Rattle.des_base.proofs.TableLemmas.{AreNames-push}
use Rattle.des_net.specs.contracts.parts.TransPartialEq.TheImpl as trans
use Rattle.des_net.specs.declared.parts.Trans.{Trans}
use Rattle.des_net.specs.Limits.{most_states, most_transitions}
use Rattle.des_net.specs.Network.{Component, IsTransOf, no_component}
use Rattle.des_net.specs.Building.{IsDraftComponent, is_trans, has_trans, with_state, with_trans, with_action, action_place}
use Rattle.des_net.specs.View.{HaveSameTransitions, HasOneMore}

-- no names are names
pub AreNames-none : AreNames []
AreNames-none = record { each = tt; distinct = tt; few = omega arith }

pub IsDraftComponent-none : IsDraftComponent no_component
IsDraftComponent-none = record { states = AreNames-none; actions = AreNames-none; marked = refl; few_states = omega arith; few_actions = omega arith; trans = All-nil (IsTransOf 0 0) }

-- more states and actions leave a transition the component's
more_of : (s r a b : ℕ) → s ≤ r → a ≤ b → (t : Trans) → IsTransOf s a t → IsTransOf r b t
more_of s r a b h k t o = record { from = let l = o.from in omega arith; action = let l = o.action in omega arith; to = let l = o.to in omega arith }

pub IsDraftComponent-with_state : (c : Component) (name : List ℕ) (init : Bool) → IsDraftComponent c → IsName name → place_of name c.state_names ≡ None → length c.state_names < most_states → IsDraftComponent (with_state name init c)
IsDraftComponent-with_state c name init h n none few =
    let longer = length-append c.state_names (name ∷ []) in
    record {
      states = AreNames-push c.state_names name h.states n none (omega arith);
      actions = h.actions;
      marked = omega (arith, h.marked, length-append c.initial (init ∷ []));
      few_states = omega arith;
      few_actions = h.few_actions;
      trans = All-weaker (IsTransOf (length c.state_names) (length c.action_names)) _ (more_of _ _ _ _ (omega arith) (omega arith)) c.transitions h.trans;
    }

-- the action that a transition takes is there afterwards, no action is lost, and each has its own name
pub record Numbered (actions : List (List ℕ)) (action : List ℕ) : Type 0 where
  pub names : AreNames (with_action action actions)
  pub within : action_place actions action < length (with_action action actions)
  pub grows : length actions ≤ length (with_action action actions)
  pub most : length (with_action action actions) ≤ length actions + 1

abbrev numbered_parts : List (List ℕ) → List ℕ → Option ℕ → Type 0
numbered_parts actions action o =
    let after = cond (is_some o) actions (actions ++ action ∷ []) in
    AreNames after × (unwrap_or o (length actions) < length after) × (length actions ≤ length after) × (length after ≤ length actions + 1)

numbered_step : (actions : List (List ℕ)) (action : List ℕ) (o : Option ℕ) → ((k : ℕ) → o ≡ Some k → k < length actions) → AreNames actions → (o ≡ None → AreNames (actions ++ action ∷ [])) → numbered_parts actions action o
numbered_step actions action None h names more = let longer = length-append actions (action ∷ []) in (more refl, omega arith, omega arith, omega arith)
numbered_step actions action (Some k) h names more = (names, h k refl, omega arith, omega arith)

pub numbered : (actions : List (List ℕ)) (action : List ℕ) → AreNames actions → IsName action → length actions < most_transitions → Numbered actions action
numbered actions action names name few =
    let p = numbered_step actions action (place_of action actions) (place-within _ actions) names (λ none. AreNames-push actions action names name none (omega arith)) in
    record { names = p.0; within = p.1; grows = p.2; most = p.3 }

-- no action is lost
grows_step : (actions : List (List ℕ)) (action : List ℕ) (b : Bool) → length actions ≤ length (cond b actions (actions ++ action ∷ []))
grows_step actions action true = omega arith
grows_step actions action false = omega (arith, length-append actions (action ∷ []))

pub with_action-grows : (actions : List (List ℕ)) (action : List ℕ) → length actions ≤ length (with_action action actions)
with_action-grows actions action = grows_step actions action (is_some (place_of action actions))

pub IsDraftComponent-with_trans : (c : Component) (from : ℕ) (action : List ℕ) (to : ℕ) → IsDraftComponent c → IsName action → from < length c.state_names → to < length c.state_names → length c.transitions < most_transitions → IsDraftComponent (with_trans from action to c)
IsDraftComponent-with_trans c from action to h name f t few =
    let n = numbered c.action_names action h.actions name (let l = h.few_actions in omega arith) in
    let new : Trans = record { from = from; action = action_place c.action_names action; to = to } in
    let P : Trans → Type 0 = IsTransOf (length c.state_names) (length (with_action action c.action_names)) in
    record {
      states = h.states;
      actions = n.names;
      marked = h.marked;
      few_states = h.few_states;
      few_actions = omega (arith, n.most, h.few_actions, length-append c.transitions (new ∷ []));
      trans = All-push P c.transitions new (All-weaker _ P (more_of _ _ _ _ (omega arith) n.grows) c.transitions h.trans) (record { from = f; action = n.within; to = t });
    }

-- no transition has an action that isn't numbered yet
is_trans-later : (from to n : ℕ) (t : Trans) → t.action < n → is_trans from n to t ≡ false
is_trans-later from to n t h = grind (arith, nat_tests)

any_later : (from to n s : ℕ) (ts : List Trans) → All (IsTransOf s n) ts → list_any (is_trans from n to) ts ≡ false
any_later from to n s [] h = refl
any_later from to n s (t ∷ ts) h = rw (is_trans-later from to n t (All-head (IsTransOf s n) t ts h).action) (any_later from to n s ts (All-tail (IsTransOf s n) t ts h))

absent_step : (from to n s : ℕ) (ts : List Trans) (o : Option ℕ) → All (IsTransOf s n) ts → option_map_or (λ a. list_any (is_trans from a to) ts) o false ≡ false → list_any (is_trans from (unwrap_or o n) to) ts ≡ false
absent_step from to n s ts None h e = any_later from to n s ts h
absent_step from to n s ts (Some a) h e = e

-- a transition that a component lacks by its action's name it lacks by its number
pub has_trans-absent : (c : Component) (from : ℕ) (action : List ℕ) (to : ℕ) → IsDraftComponent c → has_trans c from action to ≡ false → list_any (is_trans from (action_place c.action_names action) to) c.transitions ≡ false
has_trans-absent c from action to h e = absent_step from to (length c.action_names) (length c.state_names) c.transitions (place_of action c.action_names) h.trans e

-- ---- what a component knows of its transitions

-- a set's own test finds what `is_trans` finds
found_one : (q t : Trans) → trans.ghosts.eq q t ≡ is_trans q.from q.action q.to t
found_one q t = grind (arith, nat_tests)

pub found_any : (q : Trans) (keys : List Trans) → list_any (trans.ghosts.eq q) keys ≡ list_any (is_trans q.from q.action q.to) keys
found_any q [] = refl
found_any q (t ∷ ts) = λ i. found_one q t i || found_any q ts i

-- the same after room was made
pub HaveSameTransitions-again : (old new items more : List Trans) → HaveSameTransitions new old → HaveSameTransitions old items → more ≡ items → HaveSameTransitions new more
HaveSameTransitions-again old new items more same known is = record { found = λ from action to. same.found from action to ∙ known.found from action to ∙ ap (list_any (is_trans from action to)) (sym is) }

-- and one more, which stands last
pub HaveSameTransitions-push : (old new items more : List Trans) (trans : Trans) → HaveSameTransitions old items → HasOneMore trans old new → more ≡ items ++ trans ∷ [] → HaveSameTransitions new more
HaveSameTransitions-push old new items more trans known one is = record {
  found = λ from action to.
      one.found from action to ∙ ap (λ b. b || is_trans from action to trans) (known.found from action to)
      ∙ sym (ap (list_any (is_trans from action to)) is ∙ list_any-append (is_trans from action to) items (trans ∷ []) ∙ ap (λ b. list_any (is_trans from action to) items || b) (or-false (is_trans from action to trans)));
}
