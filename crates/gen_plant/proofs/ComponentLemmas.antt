-- The bus and the units as they are added.
use Rattle.std.proofs.Common.{◌≡◌, ◌<◌, ◌≤◌, ◌+◌, ◌*◌, ℕ, zero, suc, Bool, true, false, cond, None, Some, List, [], ◌∷◌, ◌++◌, length, map, refl, arith, ap, sym, ◌∙◌}
use Rattle.std.specs.Prelude.{codes, bytes_eq, slice_get, slice_set, nat_le, option_map}
use Rattle.std.specs.List.{range_with_len, AllByRecursion}
use Rattle.std.proofs.lemmas.List.Sums.{sum_by_push, sum_by-cons}
use Rattle.std.proofs.lemmas.List.FromFn.{length-map-range_with_len, map-range_with_len_more}
use Rattle.des_base.proofs.BoolLemmas.{not_most}
use Rattle.des_base.proofs.Elements.{all_change}
use Rattle.des_base.specs.Names.{place_of, place_by}
use Rattle.des_net.specs.Building.{component_refusal, with_component, state_refusal, with_state, change_at, change_component, trans_count, trans_refusal, with_trans, lacks_init}
use Rattle.des_net.specs.declared.refusal.BuildRefusal.TheVariants.{Double, Unknown, Limit}
use Rattle.des_net.specs.Limits.{most_components, most_transitions}
use Rattle.des_net.specs.Network.{Component, Net, no_component, no_net}
use Rattle.gen_plant.specs.Plant.{most_units, units, bus_component, unit_component, unit_name, plant_net}
use Rattle.gen_plant.specs.Stages.{with_component_at, unit_without_moves, first_components}
use Rattle.gen_plant.proofs.Lists.{units_below, absent_map, last_there, last_set}
use Rattle.gen_plant.proofs.NameLemmas.{other_numeral}
use Rattle.des_net.proofs.DraftLemmas.{trans_count-none}

-- ---- a component as it is built

-- the base, where the component of this number is now this one
pub record Stands (base : Net) (comp : ℕ) (c : Component) (net : Net) : Type 0 where
  pub is : net ≡ with_component_at base comp c
  pub there : slice_get net.components comp ≡ Some c

set_there : (xs : List Component) (k : ℕ) (x y : Component) → slice_get xs k ≡ Some x → slice_get (slice_set xs k y) k ≡ Some y
set_there [] k x y h = cc
set_there (z ∷ xs) zero x y h = refl
set_there (z ∷ xs) (suc k) x y h = set_there xs k x y h

set_twice : (xs : List Component) (k : ℕ) (x y : Component) → slice_set (slice_set xs k x) k y ≡ slice_set xs k y
set_twice [] k x y = refl
set_twice (z ∷ xs) zero x y = refl
set_twice (z ∷ xs) (suc k) x y = ap (λ zs. z ∷ zs) (set_twice xs k x y)

changed : (xs : List Component) (k : ℕ) (f : Component → Component) (x : Component) → slice_get xs k ≡ Some x → change_at k f xs ≡ slice_set xs k (f x)
unfolding change_at
changed xs k f x h = rw h refl

-- the first change
pub begun : (base : Net) (comp : ℕ) (f : Component → Component) (c : Component) (net : Net) → slice_get base.components comp ≡ Some c → net ≡ change_component comp f base → Stands base comp (f c) net
begun base comp f c net h is =
    let made : change_at comp f base.components ≡ slice_set base.components comp (f c) = changed base.components comp f c h in
    let same : net ≡ with_component_at base comp (f c) = is ∙ ap (λ cs. record base { components = cs }) made in
    record { is = same; there = ap (λ (n : Net). slice_get n.components comp) same ∙ set_there base.components comp c (f c) h }

-- a further one
pub gone_on : (base : Net) (comp : ℕ) (f : Component → Component) (c : Component) (before net : Net) → Stands base comp c before → net ≡ change_component comp f before → Stands base comp (f c) net
gone_on base comp f c before net s is =
    let next = begun before comp f c net s.there is in
    let twice : with_component_at before comp (f c) ≡ with_component_at base comp (f c) =
    ap (λ (n : Net). with_component_at n comp (f c)) s.is ∙ ap (λ cs. record base { components = cs }) (set_twice base.components comp c (f c)) in
    record { is = next.is ∙ twice; there = next.there }

-- ---- how many transitions there are

pub count_cons : (x : Component) (xs : List Component) → trans_count (x ∷ xs) ≡ length x.transitions + trans_count xs
unfolding trans_count
count_cons x xs = sum_by-cons (λ (c : Component). length c.transitions) x xs

count_push : (xs : List Component) (x : Component) → trans_count (xs ++ x ∷ []) ≡ trans_count xs + length x.transitions
unfolding trans_count
count_push xs x = sum_by_push (λ (c : Component). length c.transitions) xs x

count_set : (xs : List Component) (k : ℕ) (y : Component) → trans_count (slice_set xs k y) ≤ trans_count xs + length y.transitions
count_set [] k y = omega arith
count_set (z ∷ xs) zero y = omega (arith, count_cons y xs, count_cons z xs)
count_set (z ∷ xs) (suc k) y = omega (arith, count_set xs k y, count_cons z xs, count_cons z (slice_set xs k y))

pub count_at : (base : Net) (comp : ℕ) (c : Component) (net : Net) → Stands base comp c net → trans_count net.components ≤ trans_count base.components + length c.transitions
count_at base comp c net s = omega (arith, ap (λ (n : Net). trans_count n.components) s.is, count_set base.components comp c)

-- ---- nothing is refused

-- what a component refuses it refuses among whichever others
pub state_free : (components : List Component) (comp : ℕ) (c : Component) (name : List ℕ) → slice_get components comp ≡ Some c → state_refusal (c ∷ []) 0 name ≡ None → state_refusal components comp name ≡ None
unfolding state_refusal
state_free components comp c name h free = rw h free

limit_step : (double known many few : Bool) → cond double (Some Double) (cond known (cond many (Some Limit) None) (Some Unknown)) ≡ None → few ≡ false
    → cond double (Some Double) (cond known (cond few (Some Limit) None) (Some Unknown)) ≡ None
limit_step true known many few h e = h
limit_step false true many few h e = rw e refl
limit_step false false many few h e = h

pub trans_free : (components : List Component) (comp : ℕ) (c : Component) (from : ℕ) (action : List ℕ) (to : ℕ) → slice_get components comp ≡ Some c → trans_count components < most_transitions
    → trans_refusal (c ∷ []) 0 from action to ≡ None → trans_refusal components comp from action to ≡ None
unfolding trans_refusal
trans_free components comp c from action to h few free =
    rw h (limit_step _ _ (nat_le most_transitions (trans_count (c ∷ []))) (nat_le most_transitions (trans_count components)) free (not_most most_transitions (trans_count components) few))

-- ---- the bus

pub bus_up : state_refusal (no_component ∷ []) 0 (codes "up") ≡ None
unfolding state_refusal
bus_up = refl

pub bus_note : trans_refusal (with_state (codes "up") true no_component ∷ []) 0 0 (codes "note") 0 ≡ None
unfolding trans_refusal trans_count
bus_note = refl

-- ---- the states of a unit

abbrev pub ok : Component
ok = with_state (codes "ok") true no_component

abbrev pub ok_bad : Component
ok_bad = with_state (codes "bad") false ok

pub unit_ok : state_refusal (no_component ∷ []) 0 (codes "ok") ≡ None
unfolding state_refusal
unit_ok = refl

pub unit_bad : state_refusal (ok ∷ []) 0 (codes "bad") ≡ None
unfolding state_refusal
unit_bad = refl

pub unit_off : state_refusal (ok_bad ∷ []) 0 (codes "off") ≡ None
unfolding state_refusal
unit_off = refl

-- ---- its transitions

abbrev pub jams : Component
jams = with_trans 0 (codes "jam") 1 unit_without_moves

abbrev pub trips_too : Component
trips_too = with_trans 1 (codes "trip") 2 jams

pub unit_jam : trans_refusal (unit_without_moves ∷ []) 0 0 (codes "jam") 1 ≡ None
unfolding trans_refusal trans_count
unit_jam = refl

pub unit_trip : trans_refusal (jams ∷ []) 0 1 (codes "trip") 2 ≡ None
unfolding trans_refusal trans_count
unit_trip = refl

pub unit_fix : trans_refusal (trips_too ∷ []) 0 2 (codes "fix") 0 ≡ None
unfolding trans_refusal trans_count
unit_fix = refl

-- ---- what stands after each call

pub with_up : (base net : Net) (comp : ℕ) → slice_get base.components comp ≡ Some no_component → net ≡ change_component comp (with_state (codes "up") true) base → Stands base comp (with_state (codes "up") true no_component) net
with_up base net comp h is = begun base comp (with_state (codes "up") true) no_component net h is

pub with_note : (base before net : Net) (comp : ℕ) → Stands base comp (with_state (codes "up") true no_component) before → net ≡ change_component comp (with_trans 0 (codes "note") 0) before → Stands base comp bus_component net
with_note base before net comp s is = gone_on base comp (with_trans 0 (codes "note") 0) (with_state (codes "up") true no_component) before net s is

pub with_ok : (base net : Net) (comp : ℕ) → slice_get base.components comp ≡ Some no_component → net ≡ change_component comp (with_state (codes "ok") true) base → Stands base comp ok net
with_ok base net comp h is = begun base comp (with_state (codes "ok") true) no_component net h is

pub with_bad : (base before net : Net) (comp : ℕ) → Stands base comp ok before → net ≡ change_component comp (with_state (codes "bad") false) before → Stands base comp ok_bad net
with_bad base before net comp s is = gone_on base comp (with_state (codes "bad") false) ok before net s is

pub with_off : (base before net : Net) (comp : ℕ) → Stands base comp ok_bad before → net ≡ change_component comp (with_state (codes "off") false) before → Stands base comp unit_without_moves net
with_off base before net comp s is = gone_on base comp (with_state (codes "off") false) ok_bad before net s is

pub with_jam : (base net : Net) (comp : ℕ) → slice_get base.components comp ≡ Some unit_without_moves → net ≡ change_component comp (with_trans 0 (codes "jam") 1) base → Stands base comp jams net
with_jam base net comp h is = begun base comp (with_trans 0 (codes "jam") 1) unit_without_moves net h is

pub with_trip : (base before net : Net) (comp : ℕ) → Stands base comp jams before → net ≡ change_component comp (with_trans 1 (codes "trip") 2) before → Stands base comp trips_too net
with_trip base before net comp s is = gone_on base comp (with_trans 1 (codes "trip") 2) jams before net s is

pub with_fix : (base before net : Net) (comp : ℕ) → Stands base comp trips_too before → net ≡ change_component comp (with_trans 2 (codes "fix") 0) before → Stands base comp unit_component net
with_fix base before net comp s is = gone_on base comp (with_trans 2 (codes "fix") 0) trips_too before net s is

pub bus_few : (net named : Net) (name : List ℕ) → net ≡ no_net → named ≡ with_component net name → trans_count named.components < most_transitions
bus_few net named name is is_named =
    let first = ap (λ (x : Net). trans_count x.components) is in
    let second = ap (λ (x : Net). trans_count x.components) is_named ∙ count_push net.components no_component in
    omega (arith, first, second, trans_count-none)

-- ---- one more unit

units_count : (a n : ℕ) → trans_count (map (λ i. unit_component) (range_with_len a n)) ≡ 3 * n
units_count a zero = omega (arith, trans_count-none)
units_count a (suc n) = omega (arith, count_cons unit_component (map (λ i. unit_component) (range_with_len (a + 1) n)), units_count (a + 1) n)

first_count : (n : ℕ) → trans_count (first_components n).components ≡ 1 + 3 * n
first_count n = omega (arith, count_cons bus_component (map (λ i. unit_component) (units n)), units_count 1 n)

none_refused : (net : Net) (name : List ℕ) → place_of name net.component_names ≡ None → length net.components < most_components → component_refusal net name ≡ None
none_refused net name h few = rw (h, not_most most_components (length net.components) few) refl

others : (n : ℕ) → n < most_units → AllByRecursion (λ j. bytes_eq (unit_name (n + 1)) (unit_name j) ≡ false) (units n)
others n few = all_change (λ j. j < n + 1) (λ j. bytes_eq (unit_name (n + 1)) (unit_name j) ≡ false) (units n) (λ j less. other_numeral j (n + 1) less (omega arith)) (units_below n)

pub unit_free : (n : ℕ) (net : Net) (name : List ℕ) → n < most_units → net ≡ first_components n → name ≡ unit_name (n + 1) → component_refusal net name ≡ None
unit_free n net name few is called =
    let free = ap (option_map suc) (absent_map (unit_name (n + 1)) unit_name (units n) (others n few)) in
    let count = length-map-range_with_len (λ i. unit_component) 1 n in
    let none : component_refusal (first_components n) (unit_name (n + 1)) ≡ None = none_refused (first_components n) (unit_name (n + 1)) free (omega arith) in
    ap (λ (x : Net). component_refusal x name) is ∙ ap (component_refusal (first_components n)) called ∙ none

pub named_there : (net named : Net) (name : List ℕ) (comp : ℕ) → named ≡ with_component net name → comp ≡ length net.components → slice_get named.components comp ≡ Some no_component
named_there net named name comp is at = rw (is, at) (last_there net.components no_component)

pub stated_there : (named stated : Net) (comp : ℕ) (c d : Component) → slice_get named.components comp ≡ Some c → stated ≡ with_component_at named comp d → slice_get stated.components comp ≡ Some d
stated_there named stated comp c d h is = rw is (set_there named.components comp c d h)

pub few_moves : (n : ℕ) (net named stated : Net) (name : List ℕ) (comp : ℕ) → n < most_units → net ≡ first_components n → named ≡ with_component net name → stated ≡ with_component_at named comp unit_without_moves
    → trans_count stated.components + 3 ≤ most_transitions
few_moves n net named stated name comp few is is_named is_stated =
    let first = ap (λ (x : Net). trans_count x.components) is ∙ first_count n in
    let second = ap (λ (x : Net). trans_count x.components) is_named ∙ count_push net.components no_component in
    let third = ap (λ (x : Net). trans_count x.components) is_stated in
    omega (arith, first, second, third, count_set named.components comp unit_without_moves)

one_more : (n : ℕ) → with_component_at (with_component (first_components n) (unit_name (n + 1))) (length (first_components n).components) unit_component ≡ first_components (n + 1)
one_more n =
    let names = map-range_with_len_more unit_name 1 n (n + 1) (omega arith) in
    let set = last_set (first_components n).components no_component unit_component in
    let components = set ∙ ap (λ cs. bus_component ∷ cs) (sym (map-range_with_len_more (λ i. unit_component) 1 n (n + 1) (omega arith))) in
    λ i. record { component_names = codes "bus" ∷ sym names i; components = components i; event_names = []; events = [] }

pub unit_added : (n comp : ℕ) (net named stated new : Net) (name : List ℕ) → net ≡ first_components n → name ≡ unit_name (n + 1) → named ≡ with_component net name → comp ≡ length net.components
    → stated ≡ with_component_at named comp unit_without_moves → new ≡ with_component_at stated comp unit_component → new ≡ first_components (n + 1)
unit_added n comp net named stated new name is called is_named at is_stated is_new =
    let twice : with_component_at stated comp unit_component ≡ with_component_at named comp unit_component =
    ap (λ (x : Net). with_component_at x comp unit_component) is_stated ∙ ap (λ cs. record named { components = cs }) (set_twice named.components comp unit_without_moves unit_component) in
    let whole : with_component_at named comp unit_component ≡ first_components (n + 1) = rw (is_named, at, called, is) (one_more n) in
    is_new ∙ twice ∙ whole

-- ---- each has an initial state

units_start : (a n : ℕ) → place_by lacks_init (map (λ i. unit_component) (range_with_len a n)) ≡ None
units_start a zero = refl
units_start a (suc n) = ap (option_map suc) (units_start (a + 1) n)

pub plant_starts : (n : ℕ) → place_by lacks_init (plant_net n).components ≡ None
plant_starts n = ap (option_map suc) (units_start 1 n)

pub plant_lacks_none : (n k : ℕ) (net : Net) → net ≡ plant_net n → place_by lacks_init net.components ≡ Some k → ⊥
plant_lacks_none n k net is lacks =
    let none = ap (λ (x : Net). place_by lacks_init x.components) is ∙ plant_starts n in
    cc
