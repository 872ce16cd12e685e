-- The alarms of the units that trip as they are added.
use Rattle.std.proofs.Common.{◌≡◌, inl, inr, ◌<◌, ◌≤◌, ◌+◌, ◌-◌, ◌%◌, ℕ, zero, suc, Bool, true, false, not, cond, None, List, [], ◌∷◌, ◌++◌, length, map, refl, arith, ap, sym, ◌∙◌, length-append, append-nil}
use Rattle.std.proofs.Math.Numerals.{add-one}
use Rattle.std.specs.Prelude.{bytes_eq, filter, ◌==◌, ◌&&◌, if◌then◌else◌}
use Rattle.std.specs.List.{range_with_len, AllByRecursion}
use Rattle.std.proofs.lemmas.List.Elements.{filter-append}
use Rattle.std.proofs.lemmas.List.Filters.{length-filter_both}
use Rattle.std.proofs.lemmas.List.FromFn.{length-range_with_len, length-map-range_with_len, map-range_with_len_more}
use Rattle.des_base.proofs.BoolLemmas.{both, either, otherwise, same, is_less, not_most}
use Rattle.des_base.proofs.Elements.{all_change}
use Rattle.des_base.specs.Names.{place_of}
use Rattle.log_order.specs.Adding.{alarm_refusal, with_alarm, before_refusal, with_pair, names_of}
use Rattle.log_order.specs.declared.TheConstants.{MOST_ALARMS, MOST_PAIRS}
use Rattle.log_order.specs.Log.{Log, has_pair, reaches, closes_cycle, a_log, an_alarm}
use Rattle.gen_plant.specs.Plant.{most_units, units, sequence_number, number_after, trips, tripping, trip_label, alarm_name, trip_alarm, in_a_row, plant_log}
use Rattle.gen_plant.specs.Stages.{with_tripped, AwaitsAlarm}
use Rattle.gen_plant.proofs.Lists.{units_more, units_below, each_filtered, absent_map}
use Rattle.gen_plant.proofs.NameLemmas.{other_numeral}

-- ---- an alarm

unlogged : (log : Log) (name label : List ℕ) → place_of name (names_of log.alarms) ≡ None → length log.alarms < most_units → alarm_refusal log name (label ∷ []) ≡ None
unfolding alarm_refusal
unlogged log name label h few = rw (h, not_most MOST_ALARMS (length log.alarms) (omega arith)) refl

pub alarm_free : (log : Log) (unit : ℕ) (name label : List ℕ) → AwaitsAlarm log unit → name ≡ alarm_name unit → alarm_refusal log name (label ∷ []) ≡ None
alarm_free log unit name label awaits called = unlogged log name label (ap (λ text. place_of text (names_of log.alarms)) called ∙ awaits.free) awaits.few

-- ---- pairs in a row

abbrev row : ℕ → List (ℕ × ℕ)
row k = map (λ i. (i, i + 1)) (range_with_len 0 k)

record IsRise (most : ℕ) (pair : ℕ × ℕ) : Type 0 where
  up : pair.0 < pair.1
  below : pair.1 ≤ most

rising : (a n most : ℕ) → a + n ≤ most → AllByRecursion (IsRise most) (map (λ i. (i, i + 1)) (range_with_len a n))
rising a zero most h = tt
rising a (suc n) most h = (record { up = omega arith; below = omega arith }, rising (a + 1) n most (omega arith))

reaches_up : (most : ℕ) (pairs : List (ℕ × ℕ)) (i j : ℕ) → AllByRecursion (IsRise most) pairs → reaches pairs i j ≡ true → i ≤ j
reaches_up most [] i j h r = omega (arith, same i j r)
reaches_up most (pair ∷ pairs) i j h r = elim (either (reaches pairs i j) (reaches pairs i pair.0 && reaches pairs pair.1 j) r) [
  | inl without ↦ reaches_up most pairs i j h.1 without
  | inr by ↦
      let parts = both (reaches pairs i pair.0) (reaches pairs pair.1 j) by in
      omega (arith, reaches_up most pairs i pair.0 h.1 parts.0, reaches_up most pairs pair.1 j h.1 parts.1, h.0.up)
]

no_cycle : (k : ℕ) → closes_cycle (row k) k (k + 1) ≡ false
no_cycle k = otherwise (closes_cycle (row k) k (k + 1)) (λ r. let up = reaches_up k (row k) (k + 1) k (rising 0 k k (omega arith)) r in omega arith)

pair_absent : (k : ℕ) (pairs : List (ℕ × ℕ)) → AllByRecursion (IsRise k) pairs → has_pair pairs k (k + 1) ≡ true → ⊥
pair_absent k [] h there = cc
pair_absent k (pair ∷ pairs) h there = elim (either (pair.0 == k && pair.1 == k + 1) (has_pair pairs k (k + 1)) there) [
  | inl first ↦ let parts = both (pair.0 == k) (pair.1 == k + 1) first in omega (arith, same pair.1 (k + 1) parts.1, h.0.below)
  | inr later ↦ pair_absent k pairs h.1 later
]

no_pair : (k : ℕ) → has_pair (row k) k (k + 1) ≡ false
no_pair k = otherwise (has_pair (row k) k (k + 1)) (pair_absent k (row k) (rising 0 k k (omega arith)))

row_free : (m k : ℕ) → k + 1 < m → k < most_units → before_refusal m (row k) k (k + 1) ≡ None
unfolding before_refusal
row_free m k less few =
    let count : length (row k) ≡ k = length-map-range_with_len (λ i. (i, i + 1)) 0 k in
    rw (is_less k m (omega arith), is_less (k + 1) m less, no_cycle k, no_pair k, not_most MOST_PAIRS (length (row k)) (omega arith)) refl

row_more : (k : ℕ) → with_pair (row k) k (k + 1) ≡ row (k + 1)
row_more k = rw (no_pair k) (sym (map-range_with_len_more (λ i. (i, i + 1)) 0 k k (omega arith)))

row_of : (k n : ℕ) → n ≡ k + 1 → in_a_row n ≡ row k
row_of k n h = let less : n - 1 ≡ k = omega arith in ap row less

-- ---- one more alarm

pub pair_free : (old log : Log) (name label : List ℕ) (first second : ℕ) → second ≡ length old.alarms → first + 1 ≡ second → second < most_units → old.pairs ≡ in_a_row (length old.alarms)
    → log ≡ with_alarm old name (label ∷ []) false → before_refusal (length log.alarms) log.pairs first second ≡ None
pair_free old log name label first second at next few in_row is =
    let count = ap (λ (l : Log). length l.alarms) is ∙ length-append old.alarms ((an_alarm name (label ∷ []) false) ∷ []) in
    let pairs : log.pairs ≡ row first = ap (λ (l : Log). l.pairs) is ∙ in_row ∙ row_of first (length old.alarms) (omega arith) in
    let free = row_free (length log.alarms) first (omega arith) (omega arith) in
    ap (λ ps. before_refusal (length log.alarms) ps first second) pairs ∙ ap (before_refusal (length log.alarms) (row first) first) (sym next) ∙ free

named_alarm : (old log : Log) (unit : ℕ) (name label : List ℕ) → name ≡ alarm_name unit → label ≡ trip_label unit → log ≡ with_alarm old name (label ∷ []) false → log ≡ with_alarm old (alarm_name unit) (trip_label unit ∷ []) false
named_alarm old log unit name label called labelled is =
    is ∙ ap (λ text. with_alarm old text (label ∷ []) false) called ∙ ap (λ text. with_alarm old (alarm_name unit) (text ∷ []) false) labelled

pub next_added : (old log new : Log) (unit first second : ℕ) (name label : List ℕ) → name ≡ alarm_name unit → label ≡ trip_label unit → second ≡ length old.alarms → first + 1 ≡ second
    → old.pairs ≡ in_a_row (length old.alarms) → log ≡ with_alarm old name (label ∷ []) false → new ≡ record log { pairs = with_pair log.pairs first second } → new ≡ with_tripped old unit
next_added old log new unit first second name label called labelled at next in_row is is_new =
    let before : log.pairs ≡ row first = ap (λ (l : Log). l.pairs) is ∙ in_row ∙ row_of first (length old.alarms) (omega arith) in
    let pairs : with_pair log.pairs first second ≡ in_a_row (length old.alarms + 1) =
    ap (λ ps. with_pair ps first second) before ∙ ap (with_pair (row first) first) (sym next) ∙ row_more first ∙ sym (row_of (first + 1) (length old.alarms + 1) (omega arith)) in
    let alarms : log.alarms ≡ old.alarms ++ trip_alarm unit ∷ [] = ap (λ (l : Log). l.alarms) (named_alarm old log unit name label called labelled is) in
    is_new ∙ (λ i. (a_log (alarms i) (pairs i)))

-- ---- one more unit

names_are : (xs : List ℕ) → names_of (map trip_alarm xs) ≡ map alarm_name xs
names_are [] = refl
names_are (x ∷ xs) = ap (λ ns. alarm_name x ∷ ns) (names_are xs)

filter_count : (p : ℕ → Bool) (xs : List ℕ) → length (filter p xs) ≤ length xs
filter_count p xs = omega (arith, length-filter_both p (λ x. not (p x)) (λ x. refl) xs)

length_mapped : (xs : List ℕ) → length (map trip_alarm xs) ≡ length xs
length_mapped [] = refl
length_mapped (x ∷ xs) = ap suc (length_mapped xs)

pub awaits_alarm : (start done : ℕ) → done < most_units → AwaitsAlarm (plant_log done start) (done + 1)
awaits_alarm start done few =
    let n = done + 1 in
    let below = each_filtered (λ j. j < n) (trips start) (units done) (units_below done) in
    let others = all_change (λ j. j < n) (λ j. bytes_eq (alarm_name n) (alarm_name j) ≡ false) (tripping done start) (λ j less. other_numeral j n less (omega arith)) below in
    record {
      small = omega arith;
      few = omega (arith, length_mapped (tripping done start), filter_count (trips start) (units done), length-range_with_len 1 done);
      free = ap (place_of (alarm_name n)) (names_are (tripping done start)) ∙ absent_map (alarm_name n) alarm_name (tripping done start) others;
      row = ap in_a_row (sym (length_mapped (tripping done start)));
    }

map_push : (xs : List ℕ) (x : ℕ) → map trip_alarm (xs ++ x ∷ []) ≡ map trip_alarm xs ++ trip_alarm x ∷ []
map_push [] x = refl
map_push (y ∷ xs) x = ap (λ alarms. trip_alarm y ∷ alarms) (map_push xs x)

abbrev log_of : List ℕ → Log
log_of xs = a_log (map trip_alarm xs) (in_a_row (length xs))

log_more : (b : Bool) (xs : List ℕ) (x : ℕ) → log_of (xs ++ cond b (x ∷ []) []) ≡ cond b (with_tripped (log_of xs) x) (log_of xs)
log_more true xs x =
    let count : length (xs ++ x ∷ []) ≡ length (map trip_alarm xs) + 1 = omega (arith, length-append xs (x ∷ []), length_mapped xs) in
    λ i. (a_log (map_push xs x i) (ap in_a_row count i))
log_more false xs x = ap log_of (append-nil xs)

tripping_more : (start done : ℕ) → tripping (done + 1) start ≡ tripping done start ++ cond (trips start (done + 1)) ((done + 1) ∷ []) []
tripping_more start done = ap (filter (trips start)) (units_more done) ∙ filter-append (trips start) (units done) ((done + 1) ∷ [])

pub number_next : (start done number next : ℕ) → number ≡ sequence_number start done → next ≡ number_after number → next ≡ sequence_number start (done + 1)
number_next start done number next is is_next = is_next ∙ ap number_after is ∙ ap (sequence_number start) (sym (add-one done))

pub unit_logged : (start done number : ℕ) (old new : Log) → old ≡ plant_log done start → number ≡ sequence_number start (done + 1)
    → new ≡ (if number % 4 == 0 then with_tripped old (done + 1) else old) → new ≡ plant_log (done + 1) start
unit_logged start done number old new is is_number is_new =
    is_new ∙ ap (λ x. cond (x % 4 == 0) (with_tripped old (done + 1)) old) is_number
    ∙ ap (λ (l : Log). cond (trips start (done + 1)) (with_tripped l (done + 1)) l) is
    ∙ sym (ap log_of (tripping_more start done) ∙ log_more (trips start (done + 1)) (tripping done start) (done + 1))
