-- A component follows another where both start alike and each event does the same to both, as far as is seen.
use Rattle.std.proofs.Common.{◌≡◌, ℕ, ◌<◌, ◌≤◌, ◌↔◌, Bool, true, false, List, length, Option, None, Some, slice_get, refl, sym, ap, ◌∙◌, subst, arith, Contains}
use Rattle.std.specs.Prelude.{◌==◌, nat_lt}
use Rattle.std.proofs.lemmas.List.{get_or_past}
use Rattle.std.proofs.lemmas.Option.{slice_get_within}
use Rattle.des_base.proofs.BoolLemmas.{clash, less_is, less_not}
use Rattle.des_net.specs.declared.parts.Part.{Part}
use Rattle.des_net.specs.Network.{Component, Net, action_at, component_at, has_part, no_event, parts_of, touches}
use Rattle.des_net.specs.Building.{IsDraftComponent}
use Rattle.des_net.specs.Run.{next_states}
use Rattle.refinement.specs.declared.effect.Effect.{Effect}
use Rattle.refinement.specs.Refinement.{told, CanStart, Follows, FollowsSome}
use Rattle.refinement.specs.Seen.{MoveAlike, MovesAlike, StartsSo, effect_of}
use Rattle.refinement.proofs.Changes.{Doing, action_with, action_without, does, done, done_by, kept, stays, taken, takes, told_is, within}

-- what is known of the two components, as far as is seen of the first by one of its states
pub record AreAlike (net fine : Net) (c state d : ℕ) : Type 0 where
  pub events : length fine.events ≡ length net.events
  pub whole : IsDraftComponent (component_at fine d)
  pub two : length (component_at fine d).state_names ≡ 2
  pub starts : (inside : Bool) → StartsSo net c state inside ↔ StartsSo fine d 1 inside
  pub moves : MoveAlike net fine c state d

-- an event that isn't there moves nothing
no_parts : (net : Net) (e c : ℕ) → length net.events ≤ e → action_at (parts_of net e) c ≡ None
no_parts net e c past = ap (λ event. action_at event.parts c) (get_or_past net.events e no_event past)

each_event : (net fine : Net) (c d : ℕ) (old new : List Effect) → length fine.events ≡ length net.events
    → ((e : ℕ) → e < length net.events → MovesAlike old new (action_at (parts_of net e) c) (action_at (parts_of fine e) d))
    → (e : ℕ) → MovesAlike old new (action_at (parts_of net e) c) (action_at (parts_of fine e) d)
each_event net fine c d old new count each e = by (nat_lt e (length net.events)) refl
  where
    by : (b : Bool) → nat_lt e (length net.events) ≡ b → MovesAlike old new (action_at (parts_of net e) c) (action_at (parts_of fine e) d)
    by true h = each e (less_is e (length net.events) h)
    by false h =
        let past = less_not e (length net.events) h in
        subst (λ a. MovesAlike old new a (action_at (parts_of fine e) d)) (sym (no_parts net e c past))
        (subst (λ b. MovesAlike old new None b) (sym (no_parts fine e d (subst (λ n. n ≤ e) (sym count) past))) tt)

-- ---- what follows from one event

-- where the first component can go, the second can go as it tells
go_along : (C D : Component) (state : ℕ) (old new : List Effect) → length D.state_names ≡ 2 → IsDraftComponent D
    → ((action : ℕ) (effect : Effect) → slice_get old action ≡ Some effect → effect ≡ effect_of state C.transitions action)
    → ((action : ℕ) (effect : Effect) → slice_get new action ≡ Some effect → effect ≡ effect_of 1 D.transitions action)
    → (a b : Option ℕ) → MovesAlike old new a b → (q r : ℕ) → Contains (next_states C a q) r → Contains (next_states D b (told (q == state))) (told (r == state))
go_along C D state old new two whole olds news None None alike q r there = (0, omega arith, ap (λ n. told (n == state)) (stays q r there))
go_along C D state old new two whole olds news None (Some b) alike q r there = absurd alike
go_along C D state old new two whole olds news (Some a) None alike q r there =
    let effect = alike.0 in
    let does_it : does effect (q == state) (r == state) ≡ true = ap (λ e. does e (q == state) (r == state)) (olds a effect alike.1) ∙ done_by state a q r C.transitions (taken C.transitions a q r there) in
    (0, omega arith, ap told (kept effect (q == state) (r == state) alike.2 alike.3 does_it))
go_along C D state old new two whole olds news (Some a) (Some b) alike q r there =
    let effect = alike.0 in
    let same : effect_of state C.transitions a ≡ effect_of 1 D.transitions b = sym (olds a effect alike.1) ∙ news b effect alike.2 in
    let does_it : does (effect_of 1 D.transitions b) (q == state) (r == state) ≡ true =
    ap (λ e. does e (q == state) (r == state)) (sym same) ∙ done_by state a q r C.transitions (taken C.transitions a q r there) in
    landing b (q == state) (r == state) (done 1 b D.transitions (q == state) (r == state) does_it)
  where
    landing : (b : ℕ) (before after : Bool) → Doing 1 b D.transitions before after → Contains (next_states D (Some b) (told before)) (told after)
    landing b before after (u, v, is_before, is_after, there) =
        let bounds = within _ _ D.transitions u b v whole.trans there in
        let from : told before ≡ u = ap told (sym is_before) ∙ told_is u (subst (λ n. u < n) two bounds.0) in
        let to : told after ≡ v = ap told (sym is_after) ∙ told_is v (subst (λ n. v < n) two bounds.1) in
        subst (λ m. Contains (next_states D (Some b) m) (told after)) (sym from) (subst (λ m. Contains (next_states D (Some b) u) m) (sym to) (takes D.transitions b u v there))

-- what the first component can do so that the second goes from s to t
abbrev GoesBack : Component → ℕ → Option ℕ → ℕ → ℕ → Type 0
GoesBack C state a s t = (q : ℕ) × (r : ℕ) × (told (q == state) ≡ s) × (told (r == state) ≡ t) × Contains (next_states C a q) r

go_back : (C D : Component) (state : ℕ) (old new : List Effect) → length D.state_names ≡ 2 → IsDraftComponent D
    → ((action : ℕ) (effect : Effect) → slice_get old action ≡ Some effect → effect ≡ effect_of state C.transitions action)
    → ((action : ℕ) (effect : Effect) → slice_get new action ≡ Some effect → effect ≡ effect_of 1 D.transitions action)
    → (a b : Option ℕ) → MovesAlike old new a b → (b ≡ None → ⊥) → (s t : ℕ) → Contains (next_states D b s) t → GoesBack C state a s t
go_back C D state old new two whole olds news None None alike some s t there = absurd (some refl)
go_back C D state old new two whole olds news None (Some b) alike some s t there = absurd alike
go_back C D state old new two whole olds news (Some a) None alike some s t there = absurd (some refl)
go_back C D state old new two whole olds news (Some a) (Some b) alike some s t there =
    let effect = alike.0 in
    let same : effect_of state C.transitions a ≡ effect_of 1 D.transitions b = sym (olds a effect alike.1) ∙ news b effect alike.2 in
    let leads = taken D.transitions b s t there in
    let does_it : does (effect_of state C.transitions a) (s == 1) (t == 1) ≡ true = ap (λ e. does e (s == 1) (t == 1)) same ∙ done_by 1 b s t D.transitions leads in
    let bounds = within _ _ D.transitions s b t whole.trans leads in
    let from : told (s == 1) ≡ s = told_is s (subst (λ n. s < n) two bounds.0) in
    let to : told (t == 1) ≡ t = told_is t (subst (λ n. t < n) two bounds.1) in
    back a (s == 1) (t == 1) from to (done state a C.transitions (s == 1) (t == 1) does_it)
  where
    back : (a : ℕ) (before after : Bool) → told before ≡ s → told after ≡ t → Doing state a C.transitions before after → GoesBack C state (Some a) s t
    back a before after from to (q, r, is_before, is_after, there) = (q, r, ap told is_before ∙ from, ap told is_after ∙ to, takes C.transitions a q r there)

-- an event that touches the second component touches the first
both_touched : (old new : List Effect) (a b : Option ℕ) → MovesAlike old new a b → (b ≡ None → ⊥) → a ≡ None → ⊥
both_touched old new None None alike some none = some refl
both_touched old new None (Some b) alike some none = alike
both_touched old new (Some a) b alike some none = cc

touched : (fine : Net) (e d : ℕ) → touches fine e d ≡ true → action_at (parts_of fine e) d ≡ None → ⊥
touched fine e d touches none = clash _ touches (action_with (parts_of fine e) d none)

touched_too : (parts : List Part) (c : ℕ) → (action_at parts c ≡ None → ⊥) → has_part parts c ≡ true
touched_too parts c some = by (has_part parts c) refl
  where
    by : (b : Bool) → has_part parts c ≡ b → b ≡ true
    by true e = refl
    by false e = absurd (some (action_without parts c e))

-- ---- what follows for the start

first_states : (net fine : Net) (c state d : ℕ) → AreAlike net fine c state d → (s : ℕ) → CanStart fine d s → s < 2
first_states net fine c state d alike s start = subst (λ n. s < n) (alike.whole.marked ∙ alike.two) (slice_get_within (component_at fine d).initial s true start)

starts_along : (net fine : Net) (c state d : ℕ) → AreAlike net fine c state d → (q : ℕ) → CanStart net c q → CanStart fine d (told (q == state))
starts_along net fine c state d alike q start = by ((alike.starts (q == state)).0 (q, refl, start))
  where
    by : StartsSo fine d 1 (q == state) → CanStart fine d (told (q == state))
    by (s, is, starts) =
        let there : told (q == state) ≡ s = ap told (sym is) ∙ told_is s (first_states net fine c state d alike s starts) in
        subst (CanStart fine d) (sym there) starts

starts_back : (net fine : Net) (c state d : ℕ) → AreAlike net fine c state d → (s : ℕ) → CanStart fine d s → (q : ℕ) × (told (q == state) ≡ s) × CanStart net c q
starts_back net fine c state d alike s start = by ((alike.starts (s == 1)).1 (s, refl, start))
  where
    by : StartsSo net c state (s == 1) → (q : ℕ) × (told (q == state) ≡ s) × CanStart net c q
    by (q, is, starts) = (q, ap told is ∙ told_is s (first_states net fine c state d alike s start), starts)

-- ---- all of it

alike_follows : (net fine : Net) (c state d : ℕ) → AreAlike net fine c state d → Follows net fine (λ q. q == state) c d
alike_follows net fine c state d alike =
    let old = alike.moves.0 in
    let new = alike.moves.1 in
    let each = each_event net fine c d old new alike.events alike.moves.4 in
    record {
      starts = starts_along net fine c state d alike;
      goes = λ e q r there. go_along (component_at net c) (component_at fine d) state old new alike.two alike.whole alike.moves.2 alike.moves.3 _ _ (each e) q r there;
      beside = λ e there. touched_too (parts_of net e) c (both_touched old new _ _ (each e) (touched fine e d there));
      starts_only = starts_back net fine c state d alike;
      goes_only = λ e s t touches there. go_back (component_at net c) (component_at fine d) state old new alike.two alike.whole alike.moves.2 alike.moves.3 _ _ (each e) (touched fine e d touches) s t there;
    }

pub follows_some : (net fine : Net) (c state d : ℕ) → c < length net.components → AreAlike net fine c state d → FollowsSome net fine d
follows_some net fine c state d known alike = record { members = λ q. q == state; component = c; known = known; follows = alike_follows net fine c state d alike }
