-- The text of a log, cut into records again.
use Rattle.std.proofs.Common.{◌≡◌, ◌≤◌, ℕ, Bool, true, false, cond, ◌&&◌, ◌||◌, List, [], ◌∷◌, ◌++◌, length, refl, arith, ap, sym, ◌∙◌, append_assoc, map}
use Rattle.std.specs.Prelude.{codes, nat_le, ◌==◌}
use Rattle.std.specs.List.{AllByRecursion, flat_map, join_with_byte, list_all, list_any, slice_split}
use Rattle.std.proofs.lemmas.List.{append-nil}
use Rattle.csv.specs.Machine.{next_record}
use Rattle.csv.specs.Reading.{strip_bom}
use Rattle.csv.specs.Writing.{default_writer, fields_text, is_blank, needs_byte, row_text}
use Rattle.csv.specs.declared.parser.State.TheVariants as st
use Rattle.csv.proofs.RoundTrip.{read-write}
use Rattle.des_base.proofs.Elements.{list_all-put}
use Rattle.des_base.specs.Names.{is_name_byte, is_name_text}
use Rattle.des_base.proofs.BoolLemmas.{both, join, most_is, or_left, otherwise, same}
use Rattle.log_order.specs.Log.{Alarm, Log, id_of}
use Rattle.log_csv.specs.Records.{Record, alarm, before, is_empty_field, labels_in, record_of, records_of}
use Rattle.log_csv.specs.PrintedLog.{alarm_line, alarm_word, line_of_ids, log_text, pair_line}
use Rattle.log_csv.specs.RecordsLeft.{records_in}
use Rattle.log_csv.proofs.LabelLemmas.{is_bar}
use Rattle.log_csv.proofs.NextLemmas.{records_in-none, records_in-some}

-- ---- bytes

-- a byte of a name, or a bar
is_plain : ℕ → Bool
is_plain b = is_name_byte b || b == 124

differ : (p : ℕ → Bool) (b c : ℕ) → p b ≡ true → p c ≡ false → (b == c) ≡ false
differ p b c h k = otherwise (b == c) (λ e. let alike : p b ≡ p c = ap p (same b c e) in cc)

plain_byte : (b : ℕ) → is_plain b ≡ true → needs_byte default_writer b ≡ false
unfolding is_plain is_name_byte
plain_byte b h = rw (differ is_plain b 44 h refl, differ is_plain b 34 h refl, differ is_plain b 13 h refl, differ is_plain b 10 h refl) refl

none_needs : (xs : List ℕ) → list_all is_plain xs ≡ true → list_any (needs_byte default_writer) xs ≡ false
none_needs [] h = refl
none_needs (x ∷ xs) h = let parts = both (is_plain x) (list_all is_plain xs) h in rw (plain_byte x parts.0) (none_needs xs parts.1)

-- ---- names

pub name-bytes : (name : List ℕ) → is_name_text name ≡ true → list_all is_name_byte name ≡ true
unfolding is_name_text
name-bytes name h = (both (nat_le 1 (length name) && nat_le (length name) 64) (list_all is_name_byte name) h).1

name-some : (name : List ℕ) → is_name_text name ≡ true → 1 ≤ length name
unfolding is_name_text
name-some name h = most_is 1 (length name) (both (nat_le 1 (length name)) (nat_le (length name) 64) (both (nat_le 1 (length name) && nat_le (length name) 64) (list_all is_name_byte name) h).0).0

bytes_plain : (xs : List ℕ) → list_all is_name_byte xs ≡ true → list_all is_plain xs ≡ true
unfolding is_plain
bytes_plain [] h = refl
bytes_plain (x ∷ xs) h = let parts = both (is_name_byte x) (list_all is_name_byte xs) h in join (is_plain x) (list_all is_plain xs) (or_left (is_name_byte x) (x == 124) parts.0) (bytes_plain xs parts.1)

name_plain : (name : List ℕ) → is_name_text name ≡ true → list_all is_plain name ≡ true
name_plain name h = bytes_plain name (name-bytes name h)

bar_plain : is_plain 124 ≡ true
unfolding is_plain is_name_byte
bar_plain = refl

joined_plain : (labels : List (List ℕ)) → list_all is_name_text labels ≡ true → list_all is_plain (join_with_byte 124 labels) ≡ true
joined_plain [] h = refl
joined_plain (x ∷ []) h = name_plain x (both (is_name_text x) true h).0
joined_plain (x ∷ y ∷ ys) h =
    let parts = both (is_name_text x) (list_all is_name_text (y ∷ ys)) h in
    list_all-put is_plain x (124 ∷ join_with_byte 124 (y ∷ ys)) (name_plain x parts.0) (join (is_plain 124) _ bar_plain (joined_plain (y ∷ ys) parts.1))

-- ---- labels

bar_apart : (b : ℕ) → is_name_byte b ≡ true → is_bar b ≡ false
unfolding is_name_byte
bar_apart b h = differ is_name_byte b 124 h refl

no_bar : (xs : List ℕ) → list_all is_name_byte xs ≡ true → slice_split is_bar xs ≡ xs ∷ []
no_bar [] h = refl
no_bar (x ∷ xs) h = let parts = both (is_name_byte x) (list_all is_name_byte xs) h in rw (bar_apart x parts.0, no_bar xs parts.1) refl

to_bar : (xs ys : List ℕ) → list_all is_name_byte xs ≡ true → slice_split is_bar (xs ++ 124 ∷ ys) ≡ xs ∷ slice_split is_bar ys
to_bar [] ys h = refl
to_bar (x ∷ xs) ys h = let parts = both (is_name_byte x) (list_all is_name_byte xs) h in rw (bar_apart x parts.0, to_bar xs ys parts.1) refl

split_joined : (labels : List (List ℕ)) → 1 ≤ length labels → list_all is_name_text labels ≡ true → slice_split is_bar (join_with_byte 124 labels) ≡ labels
split_joined [] some h = absurd (omega arith)
split_joined (x ∷ []) some h = no_bar x (name-bytes x (both (is_name_text x) true h).0)
split_joined (x ∷ y ∷ ys) some h =
    let parts = both (is_name_text x) (list_all is_name_text (y ∷ ys)) h in
    to_bar x (join_with_byte 124 (y ∷ ys)) (name-bytes x parts.0) ∙ ap (λ rest. x ∷ rest) (split_joined (y ∷ ys) (omega arith) parts.1)

not_empty : (xs : List ℕ) → 1 ≤ length xs → is_empty_field xs ≡ false
not_empty [] h = absurd (omega arith)
not_empty (x ∷ xs) h = otherwise (length (x ∷ xs) == 0) (λ e. let none : length (x ∷ xs) ≡ 0 = same _ _ e in omega arith)

joined_some : (labels : List (List ℕ)) → 1 ≤ length labels → list_all is_name_text labels ≡ true → 1 ≤ length (join_with_byte 124 labels)
joined_some [] some h = absurd (omega arith)
joined_some (x ∷ []) some h = name-some x (both (is_name_text x) true h).0
joined_some ([] ∷ y ∷ ys) some h = omega arith
joined_some ((b ∷ bs) ∷ y ∷ ys) some h = omega arith

labels_joined : (labels : List (List ℕ)) → 1 ≤ length labels → list_all is_name_text labels ≡ true → labels_in (join_with_byte 124 labels) ≡ labels
labels_joined labels some h =
    ap (λ b. cond b [] (slice_split is_bar (join_with_byte 124 labels))) (not_empty (join_with_byte 124 labels) (joined_some labels some h))
    ∙ split_joined labels some h

-- ---- lines

-- an alarm's names are names, and it has a label
pub record IsPrintable (a : Alarm) : Type 0 where
  pub name : is_name_text a.name ≡ true
  pub labels : list_all is_name_text a.labels ≡ true
  pub some : 1 ≤ length a.labels

abbrev pub alarm_fields : Alarm → List (List ℕ)
alarm_fields a = alarm_word a.doubtful ∷ a.name ∷ join_with_byte 124 a.labels ∷ []

abbrev pub pair_fields : List Alarm → ℕ × ℕ → List (List ℕ)
pair_fields alarms pair = codes "before" ∷ id_of alarms pair.0 ∷ id_of alarms pair.1 ∷ []

row_of_three : (x y z : List ℕ) → list_any (needs_byte default_writer) x ≡ false → list_any (needs_byte default_writer) y ≡ false → list_any (needs_byte default_writer) z ≡ false
    → row_text default_writer (x ∷ y ∷ z ∷ []) ≡ (x ++ 44 ∷ (y ++ 44 ∷ (z ++ []))) ++ 10 ∷ []
unfolding is_blank fields_text
row_of_three x y z h k l = rw (h, k, l) refl

word_plain : (maybe : Bool) → list_any (needs_byte default_writer) (alarm_word maybe) ≡ false
word_plain true = refl
word_plain false = refl

alarm-row : (a : Alarm) → IsPrintable a → alarm_line a ≡ row_text default_writer (alarm_fields a)
unfolding alarm_line
alarm-row a h =
    whole
    ∙ sym (row_of_three (alarm_word a.doubtful) a.name (join_with_byte 124 a.labels) (word_plain a.doubtful) (none_needs a.name (name_plain a.name h.name)) (none_needs _ (joined_plain a.labels h.labels)))
  where
    whole : alarm_line a ≡ (alarm_word a.doubtful ++ 44 ∷ (a.name ++ 44 ∷ (join_with_byte 124 a.labels ++ []))) ++ 10 ∷ []
    whole = simp (append_assoc, append-nil)

pair-row : (first second : List ℕ) → is_name_text first ≡ true → is_name_text second ≡ true → line_of_ids first second ≡ row_text default_writer (codes "before" ∷ first ∷ second ∷ [])
unfolding line_of_ids
pair-row first second h k =
    simp append_assoc
    (sym (row_of_three (codes "before") first second refl (none_needs first (name_plain first h)) (none_needs second (name_plain second k))
    ∙ simp (append_assoc, append-nil)))

-- ---- records

one_row : (line : List ℕ) (field : List ℕ) (fields : List (List ℕ)) (tail : List ℕ) → line ≡ row_text default_writer (field ∷ fields) → records_in st.StartRecord (line ++ tail) ≡ (field ∷ fields) ∷ records_in st.StartRecord tail
one_row line field fields tail e =
    ap (λ t. records_in st.StartRecord (t ++ tail)) e
    ∙ records_in-some st.StartRecord (row_text default_writer (field ∷ fields) ++ tail) (field ∷ fields, st.StartRecord, tail) (read-write (field ∷ fields) tail)

no_rows : records_in st.StartRecord [] ≡ []
unfolding next_record
no_rows = records_in-none st.StartRecord [] refl

alarm_rows : (alarms : List Alarm) (tail : List ℕ) → AllByRecursion IsPrintable alarms → records_in st.StartRecord (flat_map alarm_line alarms ++ tail) ≡ map alarm_fields alarms ++ records_in st.StartRecord tail
alarm_rows [] tail h = refl
alarm_rows (a ∷ as') tail h =
    ap (records_in st.StartRecord) (append_assoc (alarm_line a) (flat_map alarm_line as') tail)
    ∙ one_row (alarm_line a) (alarm_word a.doubtful) (a.name ∷ join_with_byte 124 a.labels ∷ []) (flat_map alarm_line as' ++ tail) (alarm-row a h.0)
    ∙ ap (λ rest. alarm_fields a ∷ rest) (alarm_rows as' tail h.1)

-- the ids of a pair are names
pub record HasNames (alarms : List Alarm) (pair : ℕ × ℕ) : Type 0 where
  pub first : is_name_text (id_of alarms pair.0) ≡ true
  pub second : is_name_text (id_of alarms pair.1) ≡ true

pair_rows : (alarms : List Alarm) (pairs : List (ℕ × ℕ)) → AllByRecursion (HasNames alarms) pairs → records_in st.StartRecord (flat_map (pair_line alarms) pairs) ≡ map (pair_fields alarms) pairs
pair_rows alarms [] h = no_rows
pair_rows alarms (pair ∷ pairs) h =
    one_row (pair_line alarms pair) (codes "before") (id_of alarms pair.0 ∷ id_of alarms pair.1 ∷ []) (flat_map (pair_line alarms) pairs) (pair-row (id_of alarms pair.0) (id_of alarms pair.1) h.0.first h.0.second)
    ∙ ap (λ rest. pair_fields alarms pair ∷ rest) (pair_rows alarms pairs h.1)

word_first : (maybe : Bool) (rest : List ℕ) → strip_bom (alarm_word maybe ++ rest) ≡ alarm_word maybe ++ rest
unfolding strip_bom
word_first true rest = refl
word_first false rest = refl

no_mark : (alarms : List Alarm) (pairs : List (ℕ × ℕ)) (all : List Alarm) → strip_bom (flat_map alarm_line alarms ++ flat_map (pair_line all) pairs) ≡ flat_map alarm_line alarms ++ flat_map (pair_line all) pairs
unfolding strip_bom alarm_line line_of_ids
no_mark [] [] all = refl
no_mark [] (pair ∷ pairs) all = refl
no_mark (a ∷ as') pairs all = ap strip_bom whole ∙ word_first a.doubtful behind ∙ sym whole
  where
    behind : List ℕ
    behind = codes "," ++ a.name ++ codes "," ++ join_with_byte 124 a.labels ++ codes "\n" ++ flat_map alarm_line as' ++ flat_map (pair_line all) pairs

    whole : flat_map alarm_line (a ∷ as') ++ flat_map (pair_line all) pairs ≡ alarm_word a.doubtful ++ behind
    whole = simp append_assoc

-- ---- what they say

fields_said : (maybe : Bool) (id labels : List ℕ) → record_of (alarm_word maybe ∷ id ∷ labels ∷ []) ≡ alarm maybe id (labels_in labels)
unfolding record_of
fields_said true id labels = refl
fields_said false id labels = refl

alarm-said : (a : Alarm) → IsPrintable a → record_of (alarm_fields a) ≡ alarm a.doubtful a.name a.labels
alarm-said a h = fields_said a.doubtful a.name (join_with_byte 124 a.labels) ∙ ap (alarm a.doubtful a.name) (labels_joined a.labels h.some h.labels)

pair-said : (first second : List ℕ) → record_of (codes "before" ∷ first ∷ second ∷ []) ≡ before first second
unfolding record_of
pair-said first second = refl

abbrev pub alarm_record_of : Alarm → Record
alarm_record_of a = alarm a.doubtful a.name a.labels

abbrev pub pair_record_of : List Alarm → ℕ × ℕ → Record
pair_record_of alarms pair = before (id_of alarms pair.0) (id_of alarms pair.1)

alarms_said : (alarms : List Alarm) (others : List (List (List ℕ))) → AllByRecursion IsPrintable alarms → map record_of (map alarm_fields alarms ++ others) ≡ map alarm_record_of alarms ++ map record_of others
alarms_said [] others h = refl
alarms_said (a ∷ as') others h = ap (λ x. x ∷ map record_of (map alarm_fields as' ++ others)) (alarm-said a h.0) ∙ ap (λ rest. alarm_record_of a ∷ rest) (alarms_said as' others h.1)

pairs_said : (alarms : List Alarm) (pairs : List (ℕ × ℕ)) → map record_of (map (pair_fields alarms) pairs) ≡ map (pair_record_of alarms) pairs
pairs_said alarms [] = refl
pairs_said alarms (pair ∷ pairs) = ap (λ x. x ∷ map record_of (map (pair_fields alarms) pairs)) (pair-said (id_of alarms pair.0) (id_of alarms pair.1)) ∙ ap (λ rest. pair_record_of alarms pair ∷ rest) (pairs_said alarms pairs)

-- the records of a printed log
abbrev pub printed : Log → List Record
printed log = map alarm_record_of log.alarms ++ map (pair_record_of log.alarms) log.pairs

pub records_of-printed : (log : Log) → AllByRecursion IsPrintable log.alarms → AllByRecursion (HasNames log.alarms) log.pairs → records_of (log_text log) ≡ printed log
records_of-printed log h k =
    let pairs = flat_map (pair_line log.alarms) log.pairs in
    ap (λ text. map record_of (records_in st.StartRecord text)) (no_mark log.alarms log.pairs log.alarms)
    ∙ ap (map record_of) (alarm_rows log.alarms pairs h ∙ ap (λ rest. map alarm_fields log.alarms ++ rest) (pair_rows log.alarms log.pairs k))
    ∙ alarms_said log.alarms (map (pair_fields log.alarms) log.pairs) h
    ∙ ap (λ rest. map alarm_record_of log.alarms ++ rest) (pairs_said log.alarms log.pairs)
