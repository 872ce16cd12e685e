-- A printed log reads back as an equal log.
use Rattle.std.proofs.Common.{◌≡◌, ◌+◌, ◌<◌, ◌≤◌, ℕ, zero, suc, Bool, true, false, cond, not, ◌&&◌, List, [], ◌∷◌, ◌++◌, length, Option, Some, None, Ok, refl, arith, ap, sym, ◌∙◌, subst, append_assoc, length-append, map}
use Rattle.std.specs.Prelude.{IsTrue, bytes_eq, nat_le, option_map, ◌==◌}
use Rattle.std.specs.List.{AllByRecursion, list_all, list_any}
use Rattle.std.proofs.lemmas.List.{append-nil}
use Rattle.std.specs.Option.{option_or}
use Rattle.des_base.proofs.PlaceLemmas.{none_parts, place_next, text_turned, text_itself}
use Rattle.des_base.specs.Names.{AreDistinct, IsName, is_name_text, place_of}
use Rattle.des_base.proofs.BoolLemmas.{is_less, join, neither, otherwise, not_most, not_less}
use Rattle.log_order.specs.Log.{Alarm, AreKnown, Keeps, Log, StandOnce, closes_cycle, has_pair, place_in, reaches, a_log, an_alarm, id_of}
use Rattle.log_order.specs.Adding.{IsAlarm, IsLog, alarm_refusal, before_refusal, names_of, with_texts}
use Rattle.log_order.specs.declared.TheConstants.{MOST_ALARMS, MOST_LABELS, MOST_PAIRS}
use Rattle.log_order.specs.declared.refusal.LogRefusal.{LogRefusal}
use Rattle.log_order.specs.declared.refusal.LogRefusal.TheVariants as refused
use Rattle.log_order.proofs.AlarmLemmas.{place_of-absent, with_text-new}
use Rattle.log_order.proofs.KeptLemmas.{not_both, turned, with_pair-new}
use Rattle.log_order.proofs.OrderLemmas.{Keeps-cycle}
use Rattle.log_csv.specs.Records.{Record, records_of}
use Rattle.log_csv.specs.Faults.{log_fault_at}
use Rattle.log_csv.specs.LogText.{first_log_fault, first_record_fault, log_of, log_of_records, record_code}
use Rattle.log_csv.specs.PrintedLog.{log_text}
use Rattle.log_csv.specs.Reading.{Adds, IsLogOf}
use Rattle.log_csv.proofs.RowLemmas.{alarm_accepted, before_accepted}
use Rattle.log_csv.proofs.LogLemmas.{alarm-added, pair-added}
use Rattle.log_csv.proofs.TextLemmas.{HasNames, IsPrintable, alarm_record_of, pair_record_of, printed, records_of-printed}

-- ---- texts that stand once

-- a text that has no place is none of those that follow
apart_from : (x : List ℕ) (xs : List (List ℕ)) (y : List ℕ) (ys : List (List ℕ)) → place_of x (xs ++ y ∷ ys) ≡ None → bytes_eq x y ≡ false
apart_from x [] y ys h = (none_parts (bytes_eq x y) (place_of x ys) h).0
apart_from x (z ∷ zs) y ys h = apart_from x zs y ys (none_parts (bytes_eq x z) (place_of x (zs ++ y ∷ ys)) h).1

new_text : (xs : List (List ℕ)) (y : List ℕ) (ys : List (List ℕ)) → AreDistinct (xs ++ y ∷ ys) → list_any (bytes_eq y) xs ≡ false
new_text [] y ys h = refl
new_text (x ∷ xs) y ys h = rw (text_turned x y (apart_from x xs y ys h.0)) (new_text xs y ys h.1)

once_more : (xs ys : List (List ℕ)) → AreDistinct (xs ++ ys) → with_texts xs ys ≡ xs ++ ys
once_more xs [] h = sym (append-nil xs)
once_more xs (y ∷ ys) h =
    let assoc = append_assoc xs (y ∷ []) ys in
    ap (λ t. with_texts t ys) (with_text-new xs y (new_text xs y ys h))
    ∙ once_more (xs ++ y ∷ []) ys (subst AreDistinct (sym assoc) h)
    ∙ assoc

all_once : (labels : List (List ℕ)) → AreDistinct labels → with_texts [] labels ≡ labels
all_once labels h = once_more [] labels h

-- ---- ids and their places

other_id : (x : List ℕ) (alarms : List Alarm) (k : ℕ) → k < length alarms → place_of x (names_of alarms) ≡ None → bytes_eq (id_of alarms k) x ≡ false
other_id x [] k l h = absurd (omega arith)
other_id x (a ∷ as') zero l h = text_turned x a.name (none_parts (bytes_eq x a.name) (place_of x (names_of as')) h).0
other_id x (a ∷ as') (suc k) l h = other_id x as' k (omega arith) (none_parts (bytes_eq x a.name) (place_of x (names_of as')) h).1

own_place : (alarms : List Alarm) (k : ℕ) → AreDistinct (names_of alarms) → k < length alarms → place_of (id_of alarms k) (names_of alarms) ≡ Some k
own_place [] k d l = absurd (omega arith)
own_place (a ∷ as') zero d l = ap (λ b. cond b (Some 0) (option_map suc (place_of a.name (names_of as')))) (text_itself a.name)
own_place (a ∷ as') (suc k) d l = place_next (bytes_eq (id_of as' k) a.name) (place_of (id_of as' k) (names_of as')) k (other_id a.name as' k (omega arith) d.0) (own_place as' k d.1 (omega arith))

-- ---- what is true of a log's names

truth : (b : Bool) → IsTrue b → b ≡ true
truth b h = h

names_true : (names : List (List ℕ)) → AllByRecursion IsName names → list_all is_name_text names ≡ true
names_true [] h = refl
names_true (x ∷ xs) h = join (is_name_text x) (list_all is_name_text xs) (truth (is_name_text x) h.0) (names_true xs h.1)

-- an alarm that reads back
record IsWhole (a : Alarm) : Type 0 where
  printable : IsPrintable a
  few : length a.labels ≤ MOST_LABELS
  once : with_texts [] a.labels ≡ a.labels

whole_alarms : (alarms : List Alarm) → AllByRecursion IsName (names_of alarms) → AllByRecursion IsAlarm alarms → AllByRecursion IsWhole alarms
whole_alarms [] h k = tt
whole_alarms (a ∷ as') h k = (
  record {
    printable = record { name = truth (is_name_text a.name) h.0; labels = names_true a.labels k.0.labels.each; some = k.0.some };
    few = k.0.few;
    once = all_once a.labels k.0.labels.distinct;
  },
  whole_alarms as' h.1 k.1,
)

printables : (alarms : List Alarm) → AllByRecursion IsWhole alarms → AllByRecursion IsPrintable alarms
printables [] h = tt
printables (a ∷ as') h = (h.0.printable, printables as' h.1)

id_named : (alarms : List Alarm) (k : ℕ) → AllByRecursion IsWhole alarms → k < length alarms → is_name_text (id_of alarms k) ≡ true
id_named [] k h l = absurd (omega arith)
id_named (a ∷ as') zero h l = h.0.printable.name
id_named (a ∷ as') (suc k) h l = id_named as' k h.1 (omega arith)

pairs_named : (alarms : List Alarm) (pairs : List (ℕ × ℕ)) → AllByRecursion IsWhole alarms → AreKnown (length alarms) pairs → AllByRecursion (HasNames alarms) pairs
pairs_named alarms [] h k = tt
pairs_named alarms (pair ∷ pairs) h k = (record { first = id_named alarms pair.0 h k.0.0; second = id_named alarms pair.1 h k.0.1 }, pairs_named alarms pairs h k.1)

-- ---- records that are accepted one after another

-- none of the records behind the earlier has a code, and all are a log's
record Accepted (earlier rest : List Record) (log : Log) : Type 0 where
  faults : (row : ℕ) → first_record_fault row earlier rest ≡ None
  logged : IsLogOf (earlier ++ rest) log

accepted-none : (earlier : List Record) (log : Log) → IsLogOf earlier log → Accepted earlier [] log
accepted-none earlier log h = record { faults = λ row. refl; logged = subst (λ rs. IsLogOf rs log) (sym (append-nil earlier)) h }

accepted-first : (earlier : List Record) (said : Record) (rest : List Record) (log : Log) → record_code earlier said ≡ None → Accepted (earlier ++ said ∷ []) rest log → Accepted earlier (said ∷ rest) log
accepted-first earlier said rest log h a = record {
  faults = λ row. ap (λ code. option_or (log_fault_at row code) (first_record_fault (row + 1) (earlier ++ said ∷ []) rest)) h ∙ a.faults (row + 1);
  logged = subst (λ rs. IsLogOf rs log) (append_assoc earlier (said ∷ []) rest) a.logged;
}

-- ---- pairs

cycle_free : (order : List ℕ) (front rest : List (ℕ × ℕ)) (i j : ℕ) → Keeps order (front ++ (i, j) ∷ rest) → closes_cycle front i j ≡ false
cycle_free order front rest i j h =
    otherwise (reaches front j i) (λ r. let parts = split (λ (pair : ℕ × ℕ). place_in order pair.0 < place_in order pair.1) front ((i, j) ∷ rest) h in Keeps-cycle order front i j parts.0 parts.1.0 r)
  where
    split : (P : ℕ × ℕ → Type 0) (xs ys : List (ℕ × ℕ)) → AllByRecursion P (xs ++ ys) → AllByRecursion P xs × AllByRecursion P ys
    split P [] ys h = (tt, h)
    split P (x ∷ xs) ys h = let rest = split P xs ys h.1 in ((h.0, rest.0), rest.1)

later_apart : (front rest : List (ℕ × ℕ)) (i j a b : ℕ) → has_pair (front ++ (i, j) ∷ rest) a b ≡ false → (i == a && j == b) ≡ false
later_apart [] rest i j a b h = (neither (i == a && j == b) (has_pair rest a b) h).0
later_apart (p ∷ ps) rest i j a b h = later_apart ps rest i j a b (neither (p.0 == a && p.1 == b) (has_pair (ps ++ (i, j) ∷ rest) a b) h).1

new_pair : (front rest : List (ℕ × ℕ)) (i j : ℕ) → StandOnce (front ++ (i, j) ∷ rest) → has_pair front i j ≡ false
new_pair [] rest i j h = refl
new_pair (p ∷ ps) rest i j h =
    let apart : (p.0 == i && p.1 == j) ≡ false = not_both (i == p.0) (j == p.1) (p.0 == i) (p.1 == j) (sym (turned i p.0 (i == p.0) refl)) (sym (turned j p.1 (j == p.1) refl)) (later_apart ps rest i j p.0 p.1 h.0) in
    rw apart (new_pair ps rest i j h.1)

-- ---- nothing is refused

limit_free : (d n : Bool) → n ≡ false → ◌≡◌ {A = Option LogRefusal} (cond (not d && n) (Some refused.Limit) None) None
limit_free true n h = refl
limit_free false n h = ap (λ b. cond b (Some refused.Limit) None) h

pair_free : (m : ℕ) (pairs : List (ℕ × ℕ)) (i j : ℕ) → i < m → j < m → closes_cycle pairs i j ≡ false → length pairs < MOST_PAIRS → before_refusal m pairs i j ≡ None
unfolding before_refusal
pair_free m pairs i j l k apart room =
    rw (is_less i m l, is_less j m k, apart) (limit_free (has_pair pairs i j) (nat_le MOST_PAIRS (length pairs)) (not_most MOST_PAIRS (length pairs) room))

alarm_free : (log : Log) (name : List ℕ) (labels : List (List ℕ)) → place_of name (names_of log.alarms) ≡ None → 1 ≤ length labels → length labels ≤ MOST_LABELS → length log.alarms < MOST_ALARMS → alarm_refusal log name labels ≡ None
unfolding alarm_refusal
alarm_free log name labels new some few room =
    rw (new, not_most (length labels) 0 (omega arith), not_most MOST_ALARMS (length log.alarms) room, not_less MOST_LABELS (length labels) few) refl

-- ---- all records of a printed log

abbrev log_with : List Alarm → List (ℕ × ℕ) → Log
log_with alarms pairs = a_log alarms pairs

at_middle : {X : Type 0} (P : X → Type 0) (front : List X) (x : X) (rest : List X) → AllByRecursion P (front ++ x ∷ rest) → P x
at_middle P [] x rest h = h.0
at_middle P (y ∷ ys) x rest h = at_middle P ys x rest h.1

-- what is true of the pairs of a log
record ArePairs (alarms : List Alarm) (pairs : List (ℕ × ℕ)) : Type 0 where
  whole : AllByRecursion IsWhole alarms
  distinct : AreDistinct (names_of alarms)
  known : AreKnown (length alarms) pairs
  order : List ℕ
  kept : Keeps order pairs
  once : StandOnce pairs
  few : length pairs ≤ MOST_PAIRS

pair_next : (alarms : List Alarm) (all front rest : List (ℕ × ℕ)) (pair : ℕ × ℕ) (earlier : List Record) → ArePairs alarms all → front ++ pair ∷ rest ≡ all → IsLogOf earlier (log_with alarms front)
    → Adds earlier (pair_record_of alarms pair) 0 (log_with alarms (front ++ pair ∷ [])) (Ok tt)
pair_next alarms all front rest pair earlier h e logged =
    let known = at_middle (λ (p : ℕ × ℕ). (p.0 < length alarms) × (p.1 < length alarms)) front pair rest (subst (AreKnown (length alarms)) (sym e) h.known) in
    let kept = subst (Keeps h.order) (sym e) h.kept in
    let once = subst StandOnce (sym e) h.once in
    let room : length front < MOST_PAIRS = let few = h.few in omega (arith, ap length e, length-append front (pair ∷ rest)) in
    pair-added earlier (id_of alarms pair.0) (id_of alarms pair.1) 0 pair.0 pair.1 (log_with alarms front) (log_with alarms (front ++ pair ∷ [])) logged
    (before_accepted (id_of alarms pair.0) (id_of alarms pair.1) (id_named alarms pair.0 h.whole known.0) (id_named alarms pair.1 h.whole known.1))
    (sym (own_place alarms pair.0 h.distinct known.0))
    (sym (own_place alarms pair.1 h.distinct known.1))
    (pair_free (length alarms) front pair.0 pair.1 known.0 known.1 (cycle_free h.order front rest pair.0 pair.1 kept) room)
    (ap (log_with alarms) (sym (with_pair-new front pair.0 pair.1 (new_pair front rest pair.0 pair.1 once))))

pairs_accepted : (alarms : List Alarm) (all front rest : List (ℕ × ℕ)) (earlier : List Record) → ArePairs alarms all → front ++ rest ≡ all → IsLogOf earlier (log_with alarms front)
    → Accepted earlier (map (pair_record_of alarms) rest) (log_with alarms all)
pairs_accepted alarms all front [] earlier h e logged =
    accepted-none earlier (log_with alarms all) (subst (λ pairs. IsLogOf earlier (log_with alarms pairs)) (sym (append-nil front) ∙ e) logged)
pairs_accepted alarms all front (pair ∷ rest) earlier h e logged =
    let added = pair_next alarms all front rest pair earlier h e logged in
    accepted-first earlier (pair_record_of alarms pair) (map (pair_record_of alarms) rest) (log_with alarms all) added.0
    (pairs_accepted alarms all (front ++ pair ∷ []) rest (earlier ++ pair_record_of alarms pair ∷ []) h (append_assoc front (pair ∷ []) rest ∙ e) added.1)

-- what is true of the alarms of a log
record AreAlarms (alarms : List Alarm) : Type 0 where
  whole : AllByRecursion IsWhole alarms
  distinct : AreDistinct (names_of alarms)
  few : length alarms ≤ MOST_ALARMS

alarm_next : (all front rest : List Alarm) (a : Alarm) (earlier : List Record) → AreAlarms all → front ++ a ∷ rest ≡ all → IsLogOf earlier (log_with front [])
    → Adds earlier (alarm_record_of a) 0 (log_with (front ++ a ∷ []) []) (Ok tt)
alarm_next all front rest a earlier h e logged =
    let whole : IsWhole a = at_middle IsWhole front a rest (subst (AllByRecursion IsWhole) (sym e) h.whole) in
    let distinct : AreDistinct (names_of front ++ a.name ∷ names_of rest) = subst AreDistinct (ap names_of (sym e) ∙ names_append front a rest) h.distinct in
    let new : place_of a.name (names_of front) ≡ None = place_of-absent a.name (names_of front) (new_text (names_of front) a.name (names_of rest) distinct) in
    let room : length front < MOST_ALARMS = let few = h.few in omega (arith, ap length e, length-append front (a ∷ rest)) in
    alarm-added earlier a.doubtful a.name a.labels 0 (log_with front []) (log_with (front ++ a ∷ []) []) logged
    (alarm_accepted a.doubtful a.name a.labels whole.printable.name whole.printable.labels)
    (alarm_free (log_with front []) a.name a.labels new whole.printable.some whole.few room)
    (ap (λ labels. log_with (front ++ (an_alarm a.name labels a.doubtful) ∷ []) []) (sym whole.once))
  where
    names_append : (front : List Alarm) (a : Alarm) (rest : List Alarm) → names_of (front ++ a ∷ rest) ≡ names_of front ++ a.name ∷ names_of rest
    names_append [] a rest = refl
    names_append (x ∷ xs) a rest = ap (λ ids. x.name ∷ ids) (names_append xs a rest)

alarms_accepted : (all front rest : List Alarm) (tail earlier : List Record) (log : Log) → AreAlarms all → front ++ rest ≡ all → IsLogOf earlier (log_with front [])
    → ((records : List Record) → IsLogOf records (log_with all []) → Accepted records tail log) → Accepted earlier (map alarm_record_of rest ++ tail) log
alarms_accepted all front [] tail earlier log h e logged go =
    go earlier (subst (λ alarms. IsLogOf earlier (log_with alarms [])) (sym (append-nil front) ∙ e) logged)
alarms_accepted all front (a ∷ rest) tail earlier log h e logged go =
    let added = alarm_next all front rest a earlier h e logged in
    accepted-first earlier (alarm_record_of a) (map alarm_record_of rest ++ tail) log added.0
    (alarms_accepted all (front ++ a ∷ []) rest tail (earlier ++ alarm_record_of a ∷ []) log h (append_assoc front (a ∷ []) rest ∙ e) added.1 go)

printed_accepted : (log : Log) → IsLog log → StandOnce log.pairs → AllByRecursion IsWhole log.alarms → Accepted [] (printed log) log
printed_accepted log h once whole =
    let alarms : AreAlarms log.alarms = record { whole = whole; distinct = h.names.distinct; few = h.few_alarms } in
    let pairs : ArePairs log.alarms log.pairs = record { whole = whole; distinct = h.names.distinct; known = h.valid.known; order = h.valid.order; kept = h.valid.kept; once = once; few = h.few_pairs } in
    alarms_accepted log.alarms [] log.alarms (map (pair_record_of log.alarms) log.pairs) [] log alarms refl (record { is = refl; known = tt })
    (λ records logged. pairs_accepted log.alarms log.pairs [] log.pairs records pairs refl logged)

-- a printed log has no fault, and its text is the log
pub record ReadsBack (log : Log) : Type 0 where
  pub well : first_log_fault (log_text log) ≡ None
  pub same : log_of (log_text log) ≡ log

pub printed-reads_back : (log : Log) → IsLog log → StandOnce log.pairs → ReadsBack log
printed-reads_back log h once =
    let whole = whole_alarms log.alarms h.names.each h.alarms in
    let text : records_of (log_text log) ≡ printed log = records_of-printed log (printables log.alarms whole) (pairs_named log.alarms log.pairs whole h.valid.known) in
    let accepted = printed_accepted log h once whole in
    record {
      well = ap (first_record_fault 1 []) text ∙ accepted.faults 1;
      same = ap log_of_records text ∙ sym accepted.logged.is;
    }
