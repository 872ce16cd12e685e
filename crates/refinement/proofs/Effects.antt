-- The effects of actions, over one more transition.
use Rattle.std.proofs.Common.{◌≡◌, ◌≢◌, ℕ, ◌+◌, ◌<◌, Bool, true, false, ◌||◌, List, [], ◌∷◌, ◌++◌, length, take, get_or, set, refl, sym, ap, ◌∙◌, subst, arith, Some, slice_get, inl, inr, ◌⊎◌, get_or-set_same, get_or-set_other, length-set, replicate}
use Rattle.std.specs.Prelude.{◌==◌, ◌&&◌}
use Rattle.std.specs.List.{list_any}
use Rattle.std.proofs.lemmas.List.Folds.{list_any-append}
use Rattle.std.proofs.lemmas.List.{take_more, get_or-replicate, length-replicate}
use Rattle.std.proofs.lemmas.Option.{get_or_from_slice_get, slice_get_within}
use Rattle.std.proofs.lemmas.Bool.{cases_eq}
use Rattle.des_base.proofs.BoolLemmas.{differ, itself}
use Rattle.des_net.specs.declared.parts.Trans.{Trans}
use Rattle.refinement.specs.declared.effect.Effect.{Effect}
use Rattle.refinement.specs.Seen.{changes_so, effect_of, is_so}
use Rattle.refinement.specs.Marking.{IsMarked, marked, no_effect, with_change}

any_push : (p : Trans → Bool) (ts : List Trans) (t : Trans) → list_any p (ts ++ t ∷ []) ≡ (list_any p ts || p t)
any_push p ts t = list_any-append p ts (t ∷ []) ∙ ap (λ b. list_any p ts || b) (alone (p t))
  where
    alone : (b : Bool) → (b || false) ≡ b
    alone true = refl
    alone false = refl

-- the four tests of an effect
pub four : (a b c d x y z w : Bool) → a ≡ x → b ≡ y → c ≡ z → d ≡ w
    → ◌≡◌ {A = Effect} (record { stays_out = a; enters = b; leaves = c; stays_in = d }) (record { stays_out = x; enters = y; leaves = z; stays_in = w })
four a b c d x y z w e f g h i = record { stays_out = e i; enters = f i; leaves = g i; stays_in = h i }

-- with a transition that takes the action
more_here : (state a : ℕ) (ts : List Trans) (t : Trans) → t.action ≡ a → with_change (effect_of state ts a) (t.from == state) (t.to == state) ≡ effect_of state (ts ++ t ∷ []) a
more_here state a ts t is = four _ _ _ _ _ _ _ _ (one false false) (one false true) (one true false) (one true true)
  where
    taken : (t.action == a) ≡ true
    taken = subst (λ n. (n == a) ≡ true) (sym is) (itself a)

    one : (before after : Bool) → (list_any (changes_so state a before after) ts || (is_so before (t.from == state) && is_so after (t.to == state))) ≡ list_any (changes_so state a before after) (ts ++ t ∷ [])
    one before after = sym (any_push (changes_so state a before after) ts t ∙ ap (λ b. list_any (changes_so state a before after) ts || (b && (is_so before (t.from == state) && is_so after (t.to == state)))) taken)

-- with a transition that doesn't take it
more_elsewhere : (state a : ℕ) (ts : List Trans) (t : Trans) → t.action ≢ a → effect_of state ts a ≡ effect_of state (ts ++ t ∷ []) a
more_elsewhere state a ts t other = four _ _ _ _ _ _ _ _ (one false false) (one false true) (one true false) (one true true)
  where
    or_false : (b : Bool) → (b || false) ≡ b
    or_false true = refl
    or_false false = refl

    one : (before after : Bool) → list_any (changes_so state a before after) ts ≡ list_any (changes_so state a before after) (ts ++ t ∷ [])
    one before after = sym (any_push (changes_so state a before after) ts t
        ∙ ap (λ b. list_any (changes_so state a before after) ts || (b && (is_so before (t.from == state) && is_so after (t.to == state)))) (differ t.action a other)
        ∙ or_false _)

pub marks : (count state : ℕ) (ts : List Trans) (effects : List Effect) (t : Trans) → IsMarked count state ts effects → t.action < count → IsMarked count state (ts ++ t ∷ []) (marked state effects t)
marks count state ts effects t so within = record {
  long = length-set effects t.action _ ∙ so.long;
  each = λ a below. by a below (cases_eq t.action a);
}
  where
    new : Effect
    new = with_change (get_or effects t.action no_effect) (t.from == state) (t.to == state)

    by : (a : ℕ) → a < count → (t.action ≡ a) ⊎ (t.action ≢ a) → get_or (set effects t.action (with_change (get_or effects t.action no_effect) (t.from == state) (t.to == state))) a no_effect ≡ effect_of state (ts ++ t ∷ []) a
    by a below (inl is) =
        subst (λ n. get_or (set effects t.action (with_change (get_or effects t.action no_effect) (t.from == state) (t.to == state))) n no_effect ≡ effect_of state (ts ++ t ∷ []) n) is
        (get_or-set_same effects t.action (with_change (get_or effects t.action no_effect) (t.from == state) (t.to == state)) no_effect (let long = so.long in omega arith)
        ∙ ap (λ e. with_change e (t.from == state) (t.to == state)) (so.each t.action within) ∙ more_here state t.action ts t refl)
    by a below (inr other) =
        get_or-set_other effects t.action a (with_change (get_or effects t.action no_effect) (t.from == state) (t.to == state)) no_effect (λ e. other (sym e)) ∙ so.each a below ∙ more_elsewhere state a ts t other

-- one step of the loop
pub marks_more : (count state i : ℕ) (ts : List Trans) (effects : List Effect) (t : Trans) → IsMarked count state (take i ts) effects → i < length ts → get_or ts i t ≡ t → t.action < count → IsMarked count state (take (i + 1) ts) (marked state effects t)
marks_more count state i ts effects t so within is small =
    subst (λ us. IsMarked count state us (marked state effects t)) (sym (take_more ts i t within ∙ ap (λ u. take i ts ++ u ∷ []) is)) (marks count state (take i ts) effects t so small)

-- before any transition
pub unmarked : (count state : ℕ) → IsMarked count state [] (replicate count no_effect)
unmarked count state = record { long = length-replicate count no_effect; each = λ a below. get_or-replicate count a no_effect no_effect below }

-- what stands at a place
pub effect_there : (count state : ℕ) (ts : List Trans) (effects : List Effect) → IsMarked count state ts effects → (a : ℕ) (e : Effect) → slice_get effects a ≡ Some e → e ≡ effect_of state ts a
effect_there count state ts effects so a e at =
    sym (get_or_from_slice_get effects a e no_effect at) ∙ so.each a (subst (λ n. a < n) so.long (slice_get_within effects a e at))
