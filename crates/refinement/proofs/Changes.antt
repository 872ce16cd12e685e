-- Where a component can go, and what is seen of it.
use Rattle.std.proofs.Common.{◌≡◌, ℕ, zero, suc, ◌<◌, Bool, true, false, cond, map, filter, List, [], ◌∷◌, None, Some, refl, sym, ap, ◌∙◌, arith, Contains, inl, inr}
use Rattle.std.specs.Prelude.{◌==◌, ◌&&◌, All}
use Rattle.std.specs.List.{list_any}
use Rattle.std.proofs.lemmas.Bool.Decides.{nat_tests}
use Rattle.std.proofs.lemmas.List.Elements.{All-contains}
use Rattle.des_base.proofs.BoolLemmas.{both, join, either, or_left, or_right, clash, itself, same, neither}
use Rattle.des_base.proofs.Elements.{cons_cases, here_first, here_later, none_in_nil}
use Rattle.des_net.specs.declared.parts.Part.{Part}
use Rattle.des_net.specs.declared.parts.Trans.{Trans}
use Rattle.des_net.specs.Network.{IsTransOf, action_at, has_part}
use Rattle.refinement.specs.declared.effect.Effect.{Effect}
use Rattle.refinement.specs.Seen.{changes_so, effect_of, is_so}
use Rattle.refinement.specs.Refinement.{told}

-- ---- where a component can go

-- the transition leads from one state to another by an action
abbrev pub leading : ℕ → ℕ → ℕ → Trans
leading q action r = record { from = q; action = action; to = r }

abbrev leaves : ℕ → ℕ → Trans → Bool
leaves q action t = t.from == q && t.action == action

abbrev of : ℕ → ℕ → List Trans → List Trans
of q action ts = filter (λ t. t.from == q && t.action == action) ts

abbrev ends : List Trans → List ℕ
ends ts = map (λ t. t.to) ts

is_leading : (q action : ℕ) (t : Trans) → leaves q action t ≡ true → t ≡ leading q action t.to
is_leading q action t h =
    let from : t.from ≡ q = grind (arith, nat_tests) in
    let by : t.action ≡ action = grind (arith, nat_tests) in
    λ i. record { from = from i; action = by i; to = t.to }

-- where a component may go, a transition leads
pub taken : (ts : List Trans) (action q r : ℕ) → Contains (ends (of q action ts)) r → Contains ts (leading q action r)
taken [] action q r there = absurd (none_in_nil r there)
taken (t ∷ ts) action q r there = by (leaves q action t) refl (taken ts action q r) there
  where
    by : (b : Bool) → leaves q action t ≡ b → (Contains (ends (of q action ts)) r → Contains ts (leading q action r))
        → Contains (ends (cond b (t ∷ of q action ts) (of q action ts))) r → Contains (t ∷ ts) (leading q action r)
    by true e rest there = elim (cons_cases t.to (ends (of q action ts)) r there) [
      | inl is ↦ here_first t ts _ (is_leading q action t e ∙ ap (λ n. leading q action n) is)
      | inr later ↦ here_later t ts _ (rest later)
    ]
    by false e rest there = here_later t ts _ (rest there)

-- and where a transition leads, a component may go
pub takes : (ts : List Trans) (action q r : ℕ) → Contains ts (leading q action r) → Contains (ends (of q action ts)) r
takes [] action q r there = absurd (none_in_nil _ there)
takes (t ∷ ts) action q r there = elim (cons_cases t ts (leading q action r) there) [
  | inl is ↦ here (leaves q action t) (ap (leaves q action) is ∙ leaves_itself) (ap (λ (u : Trans). u.to) is)
  | inr later ↦ further (leaves q action t) (takes ts action q r later)
]
  where
    leaves_itself : leaves q action (leading q action r) ≡ true
    leaves_itself = join (q == q) (action == action) (itself q) (itself action)

    here : (b : Bool) → b ≡ true → t.to ≡ r → Contains (ends (cond b (t ∷ of q action ts) (of q action ts))) r
    here true e is = here_first t.to (ends (of q action ts)) r is
    here false e is = cc

    further : (b : Bool) → Contains (ends (of q action ts)) r → Contains (ends (cond b (t ∷ of q action ts) (of q action ts))) r
    further true rest = here_later t.to (ends (of q action ts)) r rest
    further false rest = rest

-- without an action it stays
pub stays : (q r : ℕ) → Contains (q ∷ []) r → q ≡ r
stays q r there = elim (cons_cases q [] r there) [ inl is ↦ is | inr later ↦ absurd (none_in_nil r later) ]

-- ---- the action by which an event moves a component

pub action_without : (parts : List Part) (c : ℕ) → has_part parts c ≡ false → action_at parts c ≡ None
action_without [] c none = refl
action_without (part ∷ parts) c none = let two = neither (part.comp == c) (has_part parts c) none in rw two.0 (action_without parts c two.1)

pub action_with : (parts : List Part) (c : ℕ) → action_at parts c ≡ None → has_part parts c ≡ false
action_with [] c none = refl
action_with (part ∷ parts) c none = by (part.comp == c) refl none (action_with parts c)
  where
    by : (b : Bool) → (part.comp == c) ≡ b → action_at (part ∷ parts) c ≡ None → (action_at parts c ≡ None → has_part parts c ≡ false) → has_part (part ∷ parts) c ≡ false
    by true e none rest = let some : Some part.action ≡ None = rw e at none in cc
    by false e none rest = rw e (rest (rw e at none))

-- ---- what is seen of a transition

-- which of the four changes an effect does
abbrev pub does : Effect → (before after : Bool) → Bool
does e false false = e.stays_out
does e false true = e.enters
does e true false = e.leaves
does e true true = e.stays_in

pub does_is : (state action : ℕ) (ts : List Trans) (before after : Bool) → does (effect_of state ts action) before after ≡ list_any (changes_so state action before after) ts
does_is state action ts false false = refl
does_is state action ts false true = refl
does_is state action ts true false = refl
does_is state action ts true true = refl

so_itself : (b : Bool) → is_so b b ≡ true
so_itself true = refl
so_itself false = refl

so_is : (inside b : Bool) → is_so inside b ≡ true → b ≡ inside
so_is true b h = h
so_is false true h = cc
so_is false false h = refl

-- a transition of the action does what is seen of it
pub done_by : (state action q r : ℕ) (ts : List Trans) → Contains ts (leading q action r) → does (effect_of state ts action) (q == state) (r == state) ≡ true
done_by state action q r ts there = does_is state action ts (q == state) (r == state) ∙ found ts there
  where
    this : changes_so state action (q == state) (r == state) (leading q action r) ≡ true
    this = join (action == action) _ (itself action) (join _ _ (so_itself (q == state)) (so_itself (r == state)))

    found : (us : List Trans) → Contains us (leading q action r) → list_any (changes_so state action (q == state) (r == state)) us ≡ true
    found [] there = absurd (none_in_nil _ there)
    found (u ∷ us) there = elim (cons_cases u us (leading q action r) there) [
      | inl is ↦ or_left _ _ (ap (changes_so state action (q == state) (r == state)) is ∙ this)
      | inr later ↦ or_right _ _ (found us later)
    ]

-- a transition that does this, of those that take an action
abbrev pub Doing : ℕ → ℕ → List Trans → (before after : Bool) → Type 0
Doing state action ts before after = (q : ℕ) × (r : ℕ) × ((q == state) ≡ before) × ((r == state) ≡ after) × Contains ts (leading q action r)

-- and what an effect does is done by one
pub done : (state action : ℕ) (ts : List Trans) (before after : Bool) → does (effect_of state ts action) before after ≡ true → Doing state action ts before after
done state action ts before after h = found ts (sym (does_is state action ts before after) ∙ h)
  where
    this : (u : Trans) → changes_so state action before after u ≡ true → (u ≡ leading u.from action u.to) × ((u.from == state) ≡ before) × ((u.to == state) ≡ after)
    this u h =
        let two = both (u.action == action) _ h in
        let more = both (is_so before (u.from == state)) (is_so after (u.to == state)) two.1 in
        let by : u.action ≡ action = same u.action action two.0 in
        (λ i. record { from = u.from; action = by i; to = u.to }, so_is before (u.from == state) more.0, so_is after (u.to == state) more.1)

    found : (us : List Trans) → list_any (changes_so state action before after) us ≡ true → Doing state action us before after
    found [] h = cc
    found (u ∷ us) h = elim (either _ _ h) [
      | inl here ↦ let facts = this u here in (u.from, u.to, facts.1, facts.2, here_first u us _ facts.0)
      | inr later ↦ let rest = found us later in (rest.0, rest.1, rest.2, rest.3, here_later u us _ rest.4)
    ]

-- ---- two states

-- of two states, the second is the one that is told
pub told_is : (q : ℕ) → q < 2 → told (q == 1) ≡ q
told_is zero h = refl
told_is (suc zero) h = refl
told_is (suc (suc q)) h = absurd (omega arith)

pub within : (states actions : ℕ) (ts : List Trans) (q action r : ℕ) → All (IsTransOf states actions) ts → Contains ts (leading q action r) → (q < states) × (r < states)
within states actions ts q action r all there = let is = All-contains (IsTransOf states actions) ts (leading q action r) all there in (is.from, is.to)

-- an effect that neither enters nor leaves keeps what is seen
pub kept : (e : Effect) (before after : Bool) → e.enters ≡ false → e.leaves ≡ false → does e before after ≡ true → before ≡ after
kept e false false enters leaves h = refl
kept e false true enters leaves h = clash e.enters h enters
kept e true false enters leaves h = clash e.leaves h leaves
kept e true true enters leaves h = refl
