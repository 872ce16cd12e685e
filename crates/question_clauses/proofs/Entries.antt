-- Orders of alarms, true and false: their alarms, the true ones, and how many are false.
use Rattle.std.proofs.Common.{◌≡◌, ◌≢◌, ◌↔◌, ℕ, suc, ◌<◌, ◌≤◌, Bool, true, false, List, [], ◌∷◌, ◌++◌, ◌∙◌, length, refl, sym, ap, subst, arith, Contains, map, filter, not, inl, inr, ◌⊎◌, ◌||◌, ◌&&◌, ◌==◌, cond, count_by}
use Rattle.std.specs.List.{AllByRecursion}
use Rattle.std.proofs.lemmas.List.{map-append}
use Rattle.std.proofs.lemmas.List.Elements.{filter-append}
use Rattle.std.proofs.lemmas.List.Sums.{length-filter}
use Rattle.std.proofs.lemmas.Bool.{eqb-true, eq-eqb}
use Rattle.card_counter.proofs.Counts.{count_cons}
use Rattle.des_base.proofs.BoolLemmas.{both, join}
use Rattle.des_base.proofs.Elements.{cons_cases, here_first, here_later, none_in_nil, all_from, map_has, map_from, filter_has, filter_from, pairs_filter, any_has, has_any}
use Rattle.des_base.proofs.NumbersBelow.{range_once}
use Rattle.des_base.specs.Lists.{EachPair, numbers_below}
use Rattle.question_clauses.proofs.Lists.{range_has, range_from, all_at}
use Rattle.question_clauses.specs.Decoded.{is_false_alarm, decoded_entry}
use Rattle.question_clauses.specs.LogLaws.{HasFalse}
use Rattle.log_order.specs.Log.{Log, ListsOnce, is_doubtful}
use Rattle.prop_core.specs.VariableNames.{Meaning, dropped}
use Rattle.replay.specs.Explanation.{Entry, alarms_of, real_alarms, false_count, may_stand}
use Rattle.question_clauses.proofs.CodedTruth.{is_dropped}

-- ---- orders one after another

pub alarms_append : (xs ys : List Entry) → alarms_of (xs ++ ys) ≡ alarms_of xs ++ alarms_of ys
alarms_append xs ys = map-append (λ (entry : Entry). entry.alarm) xs ys

pub real_append : (xs ys : List Entry) → real_alarms (xs ++ ys) ≡ real_alarms xs ++ real_alarms ys
real_append xs ys = ap alarms_of (filter-append (λ (entry : Entry). entry.real) xs ys) ∙ alarms_append (filter (λ entry. entry.real) xs) (filter (λ entry. entry.real) ys)

-- a true alarm is among the alarms
pub real_in : (order : List Entry) (i : ℕ) → Contains (real_alarms order) i → Contains (alarms_of order) i
real_in [] i in' = absurd (none_in_nil i in')
real_in (entry ∷ order) i in' = by entry.real refl in' (real_in order i)
  where
    by : (b : Bool) → entry.real ≡ b → Contains (alarms_of (cond b (entry ∷ filter (λ (e : Entry). e.real) order) (filter (λ (e : Entry). e.real) order))) i →
        (Contains (real_alarms order) i → Contains (alarms_of order) i) → Contains (alarms_of (entry ∷ order)) i
    by true e there later = at (cons_cases entry.alarm (real_alarms order) i there)
      where
        at : (entry.alarm ≡ i) ⊎ Contains (real_alarms order) i → Contains (alarms_of (entry ∷ order)) i
        at (inl is) = here_first entry.alarm (alarms_of order) i is
        at (inr rest) = here_later entry.alarm (alarms_of order) i (later rest)
    by false e there later = here_later entry.alarm (alarms_of order) i (later there)

pub real_true : (entry : Entry) (order : List Entry) → entry.real ≡ true → real_alarms (entry ∷ order) ≡ entry.alarm ∷ real_alarms order
real_true entry order h = ap (λ b. alarms_of (cond b (entry ∷ filter (λ (e : Entry). e.real) order) (filter (λ (e : Entry). e.real) order))) h

pub real_false : (entry : Entry) (order : List Entry) → entry.real ≡ false → real_alarms (entry ∷ order) ≡ real_alarms order
real_false entry order h = ap (λ b. alarms_of (cond b (entry ∷ filter (λ (e : Entry). e.real) order) (filter (λ (e : Entry). e.real) order))) h

pub real_once : (order : List Entry) → EachPair (λ a b. a ≢ b) (alarms_of order) → EachPair (λ a b. a ≢ b) (real_alarms order)
real_once [] once = tt
real_once (entry ∷ order) once = by entry.real refl (real_once order once.1)
  where
    by : (b : Bool) → entry.real ≡ b → EachPair (λ x y. x ≢ y) (real_alarms order) → EachPair (λ x y. x ≢ y) (real_alarms (entry ∷ order))
    by true e rest =
        subst (λ xs. EachPair (λ x y. x ≢ y) xs) (sym (real_true entry order e))
        (all_from (λ b. entry.alarm ≢ b) (real_alarms order) (λ x in'. all_at (λ b. entry.alarm ≢ b) (alarms_of order) once.0 x (real_in order x in')), rest)
    by false e rest = subst (λ xs. EachPair (λ x y. x ≢ y) xs) (sym (real_false entry order e)) rest

-- the entry of an alarm
pub entry_in : (order : List Entry) (i : ℕ) → Contains (alarms_of order) i → (entry : Entry) × Contains order entry × (entry.alarm ≡ i)
entry_in order i in' = map_from (λ (entry : Entry). entry.alarm) order i in'

pub alarm_in : (order : List Entry) (entry : Entry) → Contains order entry → Contains (alarms_of order) entry.alarm
alarm_in order entry in' = map_has (λ (e : Entry). e.alarm) order entry in'

pub real_has : (order : List Entry) (entry : Entry) → Contains order entry → entry.real ≡ true → Contains (real_alarms order) entry.alarm
real_has order entry in' h = map_has (λ (e : Entry). e.alarm) (filter (λ (e : Entry). e.real) order) entry (filter_has (λ (e : Entry). e.real) order entry h in')

pub real_from : (order : List Entry) (i : ℕ) → Contains (real_alarms order) i → (entry : Entry) × Contains order entry × (entry.real ≡ true) × (entry.alarm ≡ i)
real_from order i in' =
    let found = map_from (λ (e : Entry). e.alarm) (filter (λ (e : Entry). e.real) order) i in' in
    let kept = filter_from (λ (e : Entry). e.real) order found.0 found.1 in
    (found.0, kept.1, kept.0, found.2)

-- Where each alarm stands once, two entries of one alarm say the same of it.
pub one_entry : (order : List Entry) (a b : Entry) → EachPair (λ x y. x ≢ y) (alarms_of order) → Contains order a → Contains order b → a.alarm ≡ b.alarm → a.real ≡ b.real
one_entry [] a b once in' in2 same = absurd (none_in_nil a in')
one_entry (x ∷ order) a b once in' in2 same = by (cons_cases x order a in') (cons_cases x order b in2) (λ first second. one_entry order a b once.1 first second same)
  where
    by : (x ≡ a) ⊎ Contains order a → (x ≡ b) ⊎ Contains order b → (Contains order a → Contains order b → a.real ≡ b.real) → a.real ≡ b.real
    by (inl p) (inl q) later = ap (λ (e : Entry). e.real) (sym p ∙ q)
    by (inl p) (inr q) later = absurd (all_at (λ y. x.alarm ≢ y) (alarms_of order) once.0 b.alarm (alarm_in order b q) (ap (λ (e : Entry). e.alarm) p ∙ same))
    by (inr p) (inl q) later = absurd (all_at (λ y. x.alarm ≢ y) (alarms_of order) once.0 a.alarm (alarm_in order a p) (ap (λ (e : Entry). e.alarm) q ∙ sym same))
    by (inr p) (inr q) later = later p q

-- one of the entries says that the alarm is false
pub dropped_has : (order : List Entry) (entry : Entry) → Contains order entry → entry.real ≡ false → is_dropped order entry.alarm ≡ true
dropped_has order entry in' h = has_any (λ (e : Entry). (e.alarm == entry.alarm) && not e.real) order entry in' (join (entry.alarm == entry.alarm) (not entry.real) (eq-eqb entry.alarm entry.alarm refl) (ap not h))

pub dropped_from : (order : List Entry) (i : ℕ) → is_dropped order i ≡ true → (entry : Entry) × Contains order entry × (entry.real ≡ false) × (entry.alarm ≡ i)
dropped_from order i h =
    let found = any_has (λ (e : Entry). (e.alarm == i) && not e.real) order h in
    let parts = both (found.0.alarm == i) (not found.0.real) found.2 in
    (found.0, found.1, flip found.0.real parts.1, eqb-true found.0.alarm i parts.0)
  where
    flip : (b : Bool) → not b ≡ true → b ≡ false
    flip true k = cc
    flip false k = refl

-- ---- as the truth of names says

module _ (log : Log) (value : Meaning → Bool) where
  pub entries_alarms : (xs : List ℕ) → alarms_of (map (decoded_entry log value) xs) ≡ xs
  entries_alarms [] = refl
  entries_alarms (x ∷ xs) = ap (λ ys. x ∷ ys) (entries_alarms xs)

  -- true ones among those that pass a test
  pub entries_real : (p r : ℕ → Bool) (xs : List ℕ) → ((x : ℕ) → Contains xs x → p x && not (is_false_alarm log value x) ≡ r x) → real_alarms (map (decoded_entry log value) (filter p xs)) ≡ filter r xs
  entries_real p r [] h = refl
  entries_real p r (x ∷ xs) h = by (p x) (h x (here_first x xs x refl)) (entries_real p r xs (λ y in'. h y (here_later x xs y in')))
    where
      pick : (b : Bool) (entry : Entry) (rest : List Entry) → alarms_of (cond b (entry ∷ rest) rest) ≡ cond b (entry.alarm ∷ alarms_of rest) (alarms_of rest)
      pick true entry rest = refl
      pick false entry rest = refl

      by : (a : Bool) → a && not (is_false_alarm log value x) ≡ r x → real_alarms (map (decoded_entry log value) (filter p xs)) ≡ filter r xs →
          real_alarms (map (decoded_entry log value) (cond a (x ∷ filter p xs) (filter p xs))) ≡ cond (r x) (x ∷ filter r xs) (filter r xs)
      by true same later =
          pick (not (is_false_alarm log value x)) (decoded_entry log value x) (filter (λ (entry : Entry). entry.real) (map (decoded_entry log value) (filter p xs)))
          ∙ ap (λ ys. cond (not (is_false_alarm log value x)) (x ∷ ys) ys) later ∙ ap (λ b. cond b (x ∷ filter r xs) (filter r xs)) same
      by false same later = later ∙ ap (λ b. cond b (x ∷ filter r xs) (filter r xs)) same

  -- a false alarm is doubtful
  pub entries_doubted : (xs : List ℕ) → AllByRecursion (λ entry. may_stand log entry ≡ true) (map (decoded_entry log value) xs)
  entries_doubted [] = tt
  entries_doubted (x ∷ xs) = (by (is_doubtful log x) (value (dropped x)), entries_doubted xs)
    where
      by : (a b : Bool) → not (a && b) || a ≡ true
      by true true = refl
      by true false = refl
      by false b = refl

  -- the entries say of each alarm whether it is false
  abbrev pub AreTold : List Entry → Type 0
  AreTold order = AllByRecursion (λ entry. entry.real ≡ not (is_false_alarm log value entry.alarm)) order

  pub entries_told : (xs : List ℕ) → AreTold (map (decoded_entry log value) xs)
  entries_told [] = tt
  entries_told (x ∷ xs) = (refl, entries_told xs)

-- ---- how many

-- a list without one of its elements
record Without {X : Type 0} (xs : List X) (x : X) : Type 0 where
  rest : List X
  shorter : length xs ≡ suc (length rest)
  others : (y : X) → Contains xs y → y ≢ x → Contains rest y

without : {X : Type 0} (xs : List X) (x : X) → Contains xs x → Without xs x
without [] x in' = absurd (none_in_nil x in')
without (y ∷ xs) x in' = by (cons_cases y xs x in') (without xs x)
  where
    by : (y ≡ x) ⊎ Contains xs x → (Contains xs x → Without xs x) → Without (y ∷ xs) x
    by (inl is) later = record { rest = xs; shorter = refl; others = others }
      where
        others : (z : _) → Contains (y ∷ xs) z → z ≢ x → Contains xs z
        others z in2 differ = at (cons_cases y xs z in2)
          where
            at : (y ≡ z) ⊎ Contains xs z → Contains xs z
            at (inl same) = absurd (differ (sym same ∙ is))
            at (inr rest) = rest
    by (inr rest) later = let shorter = later rest in record { rest = y ∷ shorter.rest; shorter = ap suc shorter.shorter; others = others shorter.rest shorter.others }
      where
        others : (ys : List _) → ((z : _) → Contains xs z → z ≢ x → Contains ys z) → (z : _) → Contains (y ∷ xs) z → z ≢ x → Contains (y ∷ ys) z
        others ys inner z in2 differ = at (cons_cases y xs z in2)
          where
            at : (y ≡ z) ⊎ Contains xs z → Contains (y ∷ ys) z
            at (inl same) = here_first y ys z same
            at (inr rest) = here_later y ys z (inner z rest differ)

pub no_longer : {X : Type 0} (xs ys : List X) → EachPair (λ a b. a ≢ b) xs → ((x : X) → Contains xs x → Contains ys x) → length xs ≤ length ys
no_longer [] ys once h = omega arith
no_longer (x ∷ xs) ys once h =
    let smaller = without ys x (h x (here_first x xs x refl)) in
    let rest = no_longer xs smaller.rest once.1 (λ y in'. smaller.others y (h y (here_later x xs y in')) (λ same. all_at (λ z. x ≢ z) xs once.0 y in' (sym same))) in
    let shorter = smaller.shorter in
    omega (arith, rest, shorter)

-- lists with the same elements, each once, are equally long
pub same_size : {X : Type 0} (xs ys : List X) → EachPair (λ a b. a ≢ b) xs → EachPair (λ a b. a ≢ b) ys → ((x : X) → Contains xs x ↔ Contains ys x) → length xs ≡ length ys
same_size xs ys once other h =
    let a = no_longer xs ys once (λ x. (h x).0) in
    let b = no_longer ys xs other (λ x. (h x).1) in
    omega (arith, a, b)

-- and as many pass a test
count_listed : (p : ℕ → Bool) (m : ℕ) (order : List ℕ) → ListsOnce m order → count_by p order ≡ count_by p (numbers_below m)
count_listed p m order lists =
    sym (length-filter p order)
    ∙ same_size (filter p order) (filter p (numbers_below m)) (pairs_filter (λ a b. a ≢ b) p order lists.once) (pairs_filter (λ a b. a ≢ b) p (numbers_below m) (range_once 0 m)) (λ x. (to x, from x))
    ∙ length-filter p (numbers_below m)
  where
    to : (x : ℕ) → Contains (filter p order) x → Contains (filter p (numbers_below m)) x
    to x in' =
        let found = filter_from p order x in' in
        let below = all_at (λ i. i < m) order lists.below x found.1 in
        filter_has p (numbers_below m) x found.0 (range_has 0 m x (omega arith) (omega (arith, below)))

    from : (x : ℕ) → Contains (filter p (numbers_below m)) x → Contains (filter p order) x
    from x in' =
        let found = filter_from p (numbers_below m) x in' in
        let below = (range_from 0 m x found.1).1 in
        filter_has p order x found.0 (lists.each x (omega (arith, below)))

false_told : (log : Log) (value : Meaning → Bool) (order : List Entry) → AreTold log value order → false_count order ≡ count_by (is_false_alarm log value) (alarms_of order)
false_told log value [] told = refl
false_told log value (entry ∷ order) told =
    let rest = false_told log value order told.1 in
    let left = count_cons (λ (e : Entry). not e.real) entry order in
    let right = count_cons (is_false_alarm log value) entry.alarm (alarms_of order) in
    let same : cond (not entry.real) 1 0 ≡ cond (is_false_alarm log value entry.alarm) 1 0 = ap {B = ℕ} (λ b. cond b 1 0) (ap not told.0 ∙ twice (is_false_alarm log value entry.alarm)) in
    omega (arith, rest, left, right, same)
  where
    twice : (b : Bool) → not (not b) ≡ b
    twice true = refl
    twice false = refl

-- An order of all alarms that says which are false has as many of them as the names say.
pub has_false : (log : Log) (value : Meaning → Bool) (order : List Entry) → ListsOnce (length log.alarms) (alarms_of order) → AreTold log value order → HasFalse log value order
has_false log value order lists told = false_told log value order told ∙ count_listed (is_false_alarm log value) (length log.alarms) (alarms_of order) lists
