-- The effects of actions, from the transitions near a state and from how many take each action.
use Rattle.std.proofs.Common.{◌≡◌, ◌≢◌, ℕ, zero, suc, ◌+◌, ◌<◌, ◌≤◌, Bool, true, false, ◌&&◌, ◌||◌, cond, List, [], ◌∷◌, ◌++◌, length, drop, filter, get_or, set, replicate, length-set, get_or-set_same, get_or-set_other, Some, slice_get, refl, sym, ap, ◌∙◌, subst, arith}
use Rattle.std.specs.Prelude.{◌==◌, All, nat_lt, not, if◌then◌else◌}
use Rattle.std.specs.List.{list_any}
use Rattle.std.proofs.Math.ListN.{drop_of_length-le}
use Rattle.std.proofs.Math.Seq.{drop-cons}
use Rattle.std.proofs.lemmas.List.{append_assoc, append-nil, get_or-replicate, length-replicate}
use Rattle.std.proofs.lemmas.Option.{get_or_from_slice_get, slice_get_within}
use Rattle.des_base.proofs.BoolLemmas.{alike, is_less, itself, less_is, same}
use Rattle.des_net.specs.declared.parts.Trans.{Trans}
use Rattle.std.proofs.lemmas.List.Elements.{All-filter, All-weaker}
use Rattle.des_net.specs.Network.{Component, IsTransOf}
use Rattle.des_net.specs.Building.{IsDraftComponent}
use Rattle.refinement.specs.declared.effect.Effect.{Effect}
use Rattle.refinement.specs.Marking.{HasOthers, IsMarked, no_effect, staying_out, with_near, with_one}
use Rattle.refinement.specs.Near.{AreCounts, AreNear, IsByState, how_many, is_near, takes}
use Rattle.refinement.specs.Seen.{changes_so, effect_of, is_so}
use Rattle.refinement.proofs.Effects.{four}
use Rattle.refinement.proofs.TouchLemmas.{length-with_one, with_one_here, with_one_elsewhere}

-- ---- one more transition near its states

same_place : (x y : ℕ) → (b : Bool) → (x == y) ≡ b → b ≡ false → x ≢ y
same_place x y b is not e = let t : true ≡ false = sym (subst (λ k. (x == k) ≡ true) e (itself x)) ∙ (is ∙ not) in cc

pub with_one_at : {X : Type 0} (lists : List (List X)) (at i : ℕ) (x : X) → at < length lists → get_or (with_one lists at x) i [] ≡ get_or lists i [] ++ cond (at == i) (x ∷ []) []
with_one_at {X} lists at i x within = by (at == i) refl
  where
    by : (b : Bool) → (at == i) ≡ b → get_or (with_one lists at x) i [] ≡ get_or lists i [] ++ cond b (x ∷ []) []
    by true h = subst (λ k. get_or (with_one lists at x) k [] ≡ get_or lists k [] ++ x ∷ []) (same at i h) (with_one_here lists at x within)
    by false h = with_one_elsewhere lists at i x (same_place at i false h refl) ∙ sym (append-nil (get_or lists i []))

pub length-with_near : (near : List (List Trans)) (t : Trans) → length (with_near near t) ≡ length near
length-with_near near t = by (t.to == t.from)
  where
    by : (b : Bool) → length (cond b (with_one near t.from t) (with_one (with_one near t.from t) t.to t)) ≡ length near
    by true = length-with_one near t.from t
    by false = length-with_one (with_one near t.from t) t.to t ∙ length-with_one near t.from t

-- of a transition from one state to another, what each state gets
gets : (from to s : Bool) (xs : List Trans) (t : Trans) → (from ≡ true → to ≡ true → s ≡ true) → s ≡ false → (xs ++ cond from (t ∷ []) []) ++ cond to (t ∷ []) [] ≡ xs ++ cond (from || to) (t ∷ []) []
gets true true s xs t alike apart = let e : true ≡ false = sym (alike refl refl) ∙ apart in cc
gets true false s xs t alike apart = append-nil (xs ++ t ∷ [])
gets false to s xs t alike apart = ap (λ ys. ys ++ cond to (t ∷ []) []) (append-nil xs)

pub with_near_at : (near : List (List Trans)) (t : Trans) (s : ℕ) → t.from < length near → t.to < length near → get_or (with_near near t) s [] ≡ get_or near s [] ++ cond (is_near s t) (t ∷ []) []
with_near_at near t s from to = by (t.to == t.from) refl
  where
    or_self : (b : Bool) → (b || b) ≡ b
    or_self true = refl
    or_self false = refl

    by : (b : Bool) → (t.to == t.from) ≡ b → get_or (cond b (with_one near t.from t) (with_one (with_one near t.from t) t.to t)) s [] ≡ get_or near s [] ++ cond (is_near s t) (t ∷ []) []
    by true h =
        with_one_at near t.from s t from
        ∙ ap (λ b. get_or near s [] ++ cond b (t ∷ []) []) (sym (or_self (t.from == s)) ∙ ap (λ k. (t.from == s) || (k == s)) (sym (same t.to t.from h)))
    by false h =
        with_one_at (with_one near t.from t) t.to s t (subst (λ n. t.to < n) (sym (length-with_one near t.from t)) to)
        ∙ ap (λ xs. xs ++ cond (t.to == s) (t ∷ []) []) (with_one_at near t.from s t from)
        ∙ gets (t.from == s) (t.to == s) (t.to == t.from) (get_or near s []) t (λ a b. subst (λ k. (k == t.from) ≡ true) (sym (same t.to s b)) (subst (λ k. (s == k) ≡ true) (sym (same t.from s a)) (itself s))) h

-- the lists have the transitions that are gone through
pub record AreNearSoFar (states : ℕ) (ts : List Trans) (i : ℕ) (near : List (List Trans)) : Type 0 where
  pub count : length near ≡ states
  pub each : (s : ℕ) → s < states → get_or near s [] ++ filter (is_near s) (drop i ts) ≡ filter (is_near s) ts

drop_at : (ts : List Trans) (i : ℕ) (t : Trans) → i < length ts → get_or ts i t ≡ t → drop i ts ≡ t ∷ drop (suc i) ts
drop_at ts i t below is = drop-cons ts i t below ∙ ap (λ u. u ∷ drop (suc i) ts) is

filter_one : (p : Trans → Bool) (t : Trans) (ts : List Trans) → cond (p t) (t ∷ []) [] ++ filter p ts ≡ filter p (t ∷ ts)
filter_one p t ts = by (p t)
  where
    by : (b : Bool) → cond b (t ∷ []) [] ++ filter p ts ≡ cond b (t ∷ filter p ts) (filter p ts)
    by true = refl
    by false = refl

one_more_near : (states : ℕ) (ts : List Trans) (i : ℕ) (near : List (List Trans)) (t : Trans) → AreNearSoFar states ts i near → i < length ts → get_or ts i t ≡ t → t.from < states → t.to < states → AreNearSoFar states ts (suc i) (with_near near t)
one_more_near states ts i near t so below is from to = record {
  count = length-with_near near t ∙ so.count;
  each = λ s there.
      ap (λ xs. xs ++ filter (is_near s) (drop (suc i) ts)) (with_near_at near t s (subst (λ n. t.from < n) (sym so.count) from) (subst (λ n. t.to < n) (sym so.count) to))
      ∙ append_assoc (get_or near s []) (cond (is_near s t) (t ∷ []) []) (filter (is_near s) (drop (suc i) ts))
      ∙ ap (λ ys. get_or near s [] ++ ys) (filter_one (is_near s) t (drop (suc i) ts) ∙ ap (filter (is_near s)) (sym (drop_at ts i t below is)))
      ∙ so.each s there;
}

pub all_near : (states : ℕ) (ts : List Trans) (i : ℕ) (near : List (List Trans)) → AreNearSoFar states ts i near → length ts ≤ i → AreNear states ts near
all_near states ts i near so past = record {
  count = so.count;
  each = λ s there. sym (append-nil (get_or near s [])) ∙ ap (λ us. get_or near s [] ++ filter (is_near s) us) (sym (drop_of_length-le ts past)) ∙ so.each s there;
}

-- ---- how many take an action

pub record AreCountsSoFar (actions : ℕ) (ts : List Trans) (i : ℕ) (counts : List ℕ) : Type 0 where
  pub count : length counts ≡ actions
  pub each : (a : ℕ) → a < actions → get_or counts a 0 + how_many (takes a) (drop i ts) ≡ how_many (takes a) ts

-- a test as a number
abbrev once : Bool → ℕ
once b = if b then 1 else 0

count_cons : (p : Trans → Bool) (t : Trans) (ts : List Trans) → how_many p (t ∷ ts) ≡ once (p t) + how_many p ts
count_cons p t ts = by (p t)
  where
    by : (b : Bool) → length (cond b (t ∷ filter p ts) (filter p ts)) ≡ once b + how_many p ts
    by true = omega arith
    by false = omega arith

one_more_count : (actions : ℕ) (ts : List Trans) (i : ℕ) (counts : List ℕ) (t : Trans) → AreCountsSoFar actions ts i counts → i < length ts → get_or ts i t ≡ t → t.action < actions
    → AreCountsSoFar actions ts (suc i) (set counts t.action (get_or counts t.action 0 + 1))
one_more_count actions ts i counts t so below is within = record {
  count = length-set counts t.action (get_or counts t.action 0 + 1) ∙ so.count;
  each = λ a there. by a there (t.action == a) refl;
}
  where
    before : (a : ℕ) → a < actions → get_or counts a 0 + (once (takes a t) + how_many (takes a) (drop (suc i) ts)) ≡ how_many (takes a) ts
    before a there = ap (λ n. get_or counts a 0 + n) (sym (count_cons (takes a) t (drop (suc i) ts))) ∙ ap (λ us. get_or counts a 0 + how_many (takes a) us) (sym (drop_at ts i t below is)) ∙ so.each a there

    by : (a : ℕ) → a < actions → (b : Bool) → (t.action == a) ≡ b → get_or (set counts t.action (get_or counts t.action 0 + 1)) a 0 + how_many (takes a) (drop (suc i) ts) ≡ how_many (takes a) ts
    by a there true h =
        let here : get_or (set counts t.action (get_or counts t.action 0 + 1)) a 0 ≡ get_or counts a 0 + 1 =
        subst (λ k. get_or (set counts t.action (get_or counts t.action 0 + 1)) k 0 ≡ get_or counts k 0 + 1) (same t.action a h)
        (get_or-set_same counts t.action (get_or counts t.action 0 + 1) 0 (subst (λ n. t.action < n) (sym so.count) within)) in
        let sum = before a there in
        let one = ap once h in
        omega (arith, here, sum, one)
    by a there false h =
        let here : get_or (set counts t.action (get_or counts t.action 0 + 1)) a 0 ≡ get_or counts a 0 =
        get_or-set_other counts t.action a (get_or counts t.action 0 + 1) 0 (λ e. same_place t.action a false h refl (sym e)) in
        let sum = before a there in
        let none = ap once h in
        omega (arith, here, sum, none)

pub all_counts : (actions : ℕ) (ts : List Trans) (i : ℕ) (counts : List ℕ) → AreCountsSoFar actions ts i counts → length ts ≤ i → AreCounts actions ts counts
all_counts actions ts i counts so past = record {
  count = so.count;
  each = λ a there.
      let none : how_many (takes a) (drop i ts) ≡ 0 = ap (how_many (takes a)) (drop_of_length-le ts past) in
      let sum = so.each a there in
      omega (arith, none, sum);
}

pub no_counts : (actions : ℕ) (ts : List Trans) → AreCountsSoFar actions ts 0 (replicate actions 0)
no_counts actions ts = record {
  count = length-replicate actions 0;
  each = λ a there. let none : get_or (replicate actions 0) a 0 ≡ 0 = get_or-replicate {A = ℕ} actions a 0 0 there in omega (arith, none);
}

count_most : (p : Trans → Bool) (i : ℕ) (ts : List Trans) → how_many p ts ≤ i + how_many p (drop i ts)
count_most p zero ts = omega arith
count_most p (suc i) [] = omega arith
count_most p (suc i) (t ∷ ts) = by (p t) (count_most p i ts) (count_cons p t ts)
  where
    by : (b : Bool) → how_many p ts ≤ i + how_many p (drop i ts) → how_many p (t ∷ ts) ≡ once b + how_many p ts → how_many p (t ∷ ts) ≤ suc i + how_many p (drop i ts)
    by true rest is = omega (arith, rest, is)
    by false rest is = omega (arith, rest, is)

-- no count is above the number of those that are gone through
pub count_has_room : (actions : ℕ) (ts : List Trans) (i : ℕ) (counts : List ℕ) (a : ℕ) → AreCountsSoFar actions ts i counts → a < actions → get_or counts a 0 ≤ i
count_has_room actions ts i counts a so there =
    let sum = so.each a there in
    let most = count_most (takes a) i ts in
    omega (arith, sum, most)

-- ---- effects from the transitions near a state

-- what passes one test among those that pass another, if all that pass the one pass the other
any_step : (p q : Trans → Bool) (t : Trans) (ts : List Trans) (a b : Bool) → p t ≡ a → (a ≡ true → b ≡ true) → list_any p (filter q ts) ≡ list_any p ts → list_any p (cond b (t ∷ filter q ts) (filter q ts)) ≡ (p t || list_any p ts)
any_step p q t ts a true e imply rest = ap (λ b. p t || b) rest
any_step p q t ts true false e imply rest = let h : false ≡ true = imply refl in cc
any_step p q t ts false false e imply rest = rest ∙ ap (λ b. b || list_any p ts) (sym e)

any_of_them : (p q : Trans → Bool) → ((t : Trans) → p t ≡ true → q t ≡ true) → (ts : List Trans) → list_any p (filter q ts) ≡ list_any p ts
any_of_them p q imply [] = refl
any_of_them p q imply (t ∷ ts) = any_step p q t ts (p t) (q t) refl (imply t) (any_of_them p q imply ts)

-- fewer pass two tests than one exactly if some pass the one and not the other
fewer : (p q : Trans → Bool) (ts : List Trans) → how_many p (filter q ts) ≤ how_many p ts
fewer p q [] = omega arith
fewer p q (t ∷ ts) = by (q t) (fewer p q ts) (count_cons p t ts) (count_cons p t (filter q ts))
  where
    by : (b : Bool) → how_many p (filter q ts) ≤ how_many p ts → how_many p (t ∷ ts) ≡ once (p t) + how_many p ts → how_many p (t ∷ filter q ts) ≡ once (p t) + how_many p (filter q ts)
        → how_many p (cond b (t ∷ filter q ts) (filter q ts)) ≤ how_many p (t ∷ ts)
    by true rest all those = omega (arith, rest, all, those)
    by false rest all those = omega (arith, rest, all)

shift : (n x y : ℕ) → nat_lt (n + x) (n + y) ≡ nat_lt x y
shift n x y = alike (nat_lt (n + x) (n + y)) (nat_lt x y)
    (λ h. is_less x y (let less = less_is (n + x) (n + y) h in omega (arith, less)))
    (λ h. is_less (n + x) (n + y) (let less = less_is x y h in omega (arith, less)))

fewer_step : (p q : Trans → Bool) (t : Trans) (ts : List Trans) (a b : Bool) → p t ≡ a
    → nat_lt (how_many p (filter q ts)) (how_many p ts) ≡ list_any (λ u. p u && not (q u)) ts
    → nat_lt (how_many p (cond b (t ∷ filter q ts) (filter q ts))) (how_many p (t ∷ ts)) ≡ ((p t && not b) || list_any (λ u. p u && not (q u)) ts)
fewer_step p q t ts a true e rest =
    ap (λ n. nat_lt n (how_many p (t ∷ ts))) (count_cons p t (filter q ts)) ∙ ap (nat_lt (once (p t) + how_many p (filter q ts))) (count_cons p t ts)
    ∙ shift (once (p t)) (how_many p (filter q ts)) (how_many p ts) ∙ rest ∙ ap (λ b. b || list_any (λ u. p u && not (q u)) ts) (sym (no (p t)))
  where
    no : (b : Bool) → (b && false) ≡ false
    no true = refl
    no false = refl
fewer_step p q t ts true false e rest =
    let all = count_cons p t ts in
    let most = fewer p q ts in
    let one = ap once e in
    is_less (how_many p (filter q ts)) (how_many p (t ∷ ts)) (omega (arith, all, most, one)) ∙ sym (ap (λ b. (b && true) || list_any (λ u. p u && not (q u)) ts) e)
fewer_step p q t ts false false e rest =
    ap (nat_lt (how_many p (filter q ts))) (count_cons p t ts ∙ ap (λ b. once b + how_many p ts) e ∙ plain (how_many p ts)) ∙ rest ∙ sym (ap (λ b. (b && true) || list_any (λ u. p u && not (q u)) ts) e)
  where
    plain : (n : ℕ) → 0 + n ≡ n
    plain n = omega arith

pub left_over : (p q : Trans → Bool) (ts : List Trans) → nat_lt (how_many p (filter q ts)) (how_many p ts) ≡ list_any (λ u. p u && not (q u)) ts
left_over p q [] = refl
left_over p q (t ∷ ts) = fewer_step p q t ts (p t) (q t) refl (left_over p q ts)

any_alike : (p q : Trans → Bool) → ((t : Trans) → p t ≡ q t) → (ts : List Trans) → list_any p ts ≡ list_any q ts
any_alike p q each [] = refl
any_alike p q each (t ∷ ts) = ap (λ b. b || list_any p ts) (each t) ∙ ap (λ b. q t || b) (any_alike p q each ts)

outside : (x y z : Bool) → (x && not (y || z)) ≡ (x && (not y && not z))
outside x true z = refl
outside x false true = refl
outside x false false = refl

near_if : (x : Bool) (before after y z : Bool) → (before || after) ≡ true → (x && (is_so before y && is_so after z)) ≡ true → (y || z) ≡ true
near_if true before after true z some h = refl
near_if true before after false true some h = refl
near_if true true after false false some h = h
near_if true false true false false some h = h
near_if true false false false false some h = some
near_if false before after y z some h = cc

-- the effect over all transitions, from those near the state
pub effect_near : (state a : ℕ) (ts : List Trans) → staying_out (effect_of state (filter (is_near state) ts) a) (nat_lt (how_many (takes a) (filter (is_near state) ts)) (how_many (takes a) ts)) ≡ effect_of state ts a
effect_near state a ts = four _ _ _ _ _ _ _ _
    (left_over (takes a) (is_near state) ts ∙ any_alike (λ u. takes a u && not (is_near state u)) (changes_so state a false false) (λ t. outside (t.action == a) (t.from == state) (t.to == state)) ts)
    (one false true refl) (one true false refl) (one true true refl)
  where
    one : (before after : Bool) → (before || after) ≡ true → list_any (changes_so state a before after) (filter (is_near state) ts) ≡ list_any (changes_so state a before after) ts
    one before after some = any_of_them (changes_so state a before after) (is_near state) (λ t. near_if (t.action == a) before after (t.from == state) (t.to == state) some) ts

pub effects_are : (c : Component) (state actions : ℕ) (lists : List (List Trans)) (taking counts counted taken : List ℕ) (near : List Trans) (marks effects : List Effect) → IsByState c lists taking → state < length c.state_names
    → near ≡ get_or lists state [] → actions ≡ length c.action_names → IsMarked actions state near marks → AreCounts actions near counts → counted ≡ counts → taken ≡ taking → HasOthers marks counted taken effects
    → (action : ℕ) (effect : Effect) → slice_get effects action ≡ Some effect → effect ≡ effect_of state c.transitions action
effects_are c state actions lists taking counts counted taken near marks effects sorted there is_near_list all marked counts_are is_counted is_taken others action effect at =
    let below : action < actions = subst (λ n. action < n) (others.long ∙ marked.long) (slice_get_within effects action effect at) in
    let same_list : near ≡ filter (is_near state) c.transitions = is_near_list ∙ sorted.near.each state there in
    sym (get_or_from_slice_get effects action effect no_effect at)
    ∙ others.each action (subst (λ n. action < n) (sym marked.long) below)
    ∙ ap (λ e. staying_out e (nat_lt (get_or counted action 0) (get_or taken action 0))) (marked.each action below)
    ∙ ap (λ ns. staying_out (effect_of state near action) (nat_lt (get_or ns action 0) (get_or taken action 0))) is_counted
    ∙ ap (λ n. staying_out (effect_of state near action) (nat_lt n (get_or taken action 0))) (counts_are.each action below)
    ∙ ap (λ n. staying_out (effect_of state near action) (nat_lt (how_many (takes action) near) n)) (ap (λ ns. get_or ns action 0) is_taken ∙ sorted.taking.each action (subst (λ n. action < n) all below))
    ∙ ap (λ ts. staying_out (effect_of state ts action) (nat_lt (how_many (takes action) ts) (how_many (takes action) c.transitions))) same_list
    ∙ effect_near state action c.transitions

-- before any transition
pub none_near : (states : ℕ) (ts : List Trans) → AreNearSoFar states ts 0 (replicate states [])
none_near states ts = record { count = length-replicate states []; each = λ s there. ap (λ us. us ++ filter (is_near s) ts) (get_or-replicate states s [] [] there) }

-- those near a state take actions of the component
pub near_take : (c : Component) (lists : List (List Trans)) (taking : List ℕ) (state actions : ℕ) (near : List Trans) → IsDraftComponent c → IsByState c lists taking → state < length c.state_names → near ≡ get_or lists state [] → actions ≡ length c.action_names → All (λ t. t.action < actions) near
near_take c lists taking state actions near whole sorted there is all =
    subst (All (λ (t : Trans). t.action < actions)) (sym (is ∙ sorted.near.each state there))
    (subst (λ n. All (λ (t : Trans). t.action < n) (filter (is_near state) c.transitions)) (sym all)
    (All-filter (is_near state) (λ (t : Trans). t.action < length c.action_names) c.transitions
    (All-weaker (IsTransOf (length c.state_names) (length c.action_names)) (λ (t : Trans). t.action < length c.action_names) (λ t is. is.action) c.transitions whole.trans)))

pub near_added : (states : ℕ) (ts : List Trans) (i : ℕ) (near new : List (List Trans)) (t : Trans) → AreNearSoFar states ts i near → i < length ts → get_or ts i t ≡ t → t.from < states → t.to < states → new ≡ with_near near t → AreNearSoFar states ts (i + 1) new
near_added states ts i near new t so below at from to is =
    let more : suc i ≡ i + 1 = omega arith in
    subst (λ k. AreNearSoFar states ts k new) more (subst (AreNearSoFar states ts (suc i)) (sym is) (one_more_near states ts i near t so below at from to))

pub count_added : (actions : ℕ) (ts : List Trans) (i : ℕ) (counts new : List ℕ) (t : Trans) → AreCountsSoFar actions ts i counts → i < length ts → get_or ts i t ≡ t → t.action < actions → new ≡ set counts t.action (get_or counts t.action 0 + 1) → AreCountsSoFar actions ts (i + 1) new
count_added actions ts i counts new t so below at within is =
    let more : suc i ≡ i + 1 = omega arith in
    subst (λ k. AreCountsSoFar actions ts k new) more (subst (AreCountsSoFar actions ts (suc i)) (sym is) (one_more_count actions ts i counts t so below at within))

pub transitions_take : (states actions : ℕ) (ts : List Trans) → All (IsTransOf states actions) ts → All (λ t. t.action < actions) ts
transitions_take states actions ts all = All-weaker (IsTransOf states actions) (λ (t : Trans). t.action < actions) (λ t is. is.action) ts all
