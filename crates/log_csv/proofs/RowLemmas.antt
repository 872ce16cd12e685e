-- The row of a record, and its code.
use Rattle.std.proofs.Common.{◌≡◌, ℕ, Bool, true, false, cond, not, ◌&&◌, List, Option, Some, None, Ok, Err, refl, ap, sym, ◌∙◌}
use Rattle.std.specs.List.{list_all}
use Rattle.std.specs.Option.{option_map_or}
use Rattle.des_base.specs.Names.{is_name_text}
use Rattle.log_csv.specs.declared.row.Row.{Row}
use Rattle.log_csv.specs.declared.row.Row.TheVariants as row
use Rattle.log_csv.specs.declared.refusal.RowRefusal.{RowRefusal}
use Rattle.log_csv.specs.declared.refusal.RowRefusal.TheVariants.{Shape, Name, Memory}
use Rattle.log_csv.specs.Records.{alarm, before, ask, nothing, malformed, alarm_record, are_empty, ask_record, before_record, labels_in, record_by_word, record_of, two_fields}
use Rattle.log_csv.specs.ScriptText.{alarm_row, row_code, row_of}
use Rattle.log_csv.specs.Reading.{AreNamed, IsNamedInRow, Reads, ReadsRecord}

-- ---- codes

not_first : (a b : Bool) → a ≡ false → ◌≡◌ {A = Option ℕ} (cond (not (a && b)) (Some 7) None) (Some 7)
not_first true b h = cc
not_first false b h = refl

not_second : (a b : Bool) → b ≡ false → ◌≡◌ {A = Option ℕ} (cond (not (a && b)) (Some 7) None) (Some 7)
not_second true true h = cc
not_second true false h = refl
not_second false b h = refl

both_are : (a b : Bool) → a ≡ true → b ≡ true → ◌≡◌ {A = Option ℕ} (cond (not (a && b)) (Some 7) None) None
both_are true true h k = refl
both_are true false h k = cc
both_are false b h k = cc

id_refused : (maybe : Bool) (id : List ℕ) (labels : List (List ℕ)) → is_name_text id ≡ false → row_code (alarm maybe id labels) ≡ Some 7
unfolding row_code
id_refused maybe id labels h = not_first (is_name_text id) (list_all is_name_text labels) h

labels_refused : (maybe : Bool) (id : List ℕ) (labels : List (List ℕ)) → list_all is_name_text labels ≡ false → row_code (alarm maybe id labels) ≡ Some 7
unfolding row_code
labels_refused maybe id labels h = not_second (is_name_text id) (list_all is_name_text labels) h

pub alarm_accepted : (maybe : Bool) (id : List ℕ) (labels : List (List ℕ)) → is_name_text id ≡ true → list_all is_name_text labels ≡ true → row_code (alarm maybe id labels) ≡ None
unfolding row_code
alarm_accepted maybe id labels h k = both_are (is_name_text id) (list_all is_name_text labels) h k

first_refused : (first second : List ℕ) → is_name_text first ≡ false → row_code (before first second) ≡ Some 7
unfolding row_code
first_refused first second h = not_first (is_name_text first) (is_name_text second && true) h

second_refused : (first second : List ℕ) → is_name_text second ≡ false → row_code (before first second) ≡ Some 7
unfolding row_code
second_refused first second h = not_second (is_name_text first) (is_name_text second && true) (ap (λ b. b && true) h)

pub before_accepted : (first second : List ℕ) → is_name_text first ≡ true → is_name_text second ≡ true → row_code (before first second) ≡ None
unfolding row_code
before_accepted first second h k = both_are (is_name_text first) (is_name_text second && true) h (ap (λ b. b && true) k)

pub malformed_refused : row_code malformed ≡ Some 6
unfolding row_code
malformed_refused = refl

ask_accepted : row_code ask ≡ None
unfolding row_code
ask_accepted = refl

-- ---- alarms

alarm_is : (maybe : Bool) (fields : List (List ℕ)) (id labels : List ℕ) → two_fields fields ≡ Some (id, labels) → alarm_record maybe fields ≡ alarm maybe id (labels_in labels)
alarm_is maybe fields id labels h = ap (λ o. option_map_or (λ pair. alarm maybe pair.0 (labels_in pair.1)) o malformed) h

pub alarm-none : (maybe : Bool) (fields : List (List ℕ)) → two_fields fields ≡ None → row_code (alarm_record maybe fields) ≡ Some 6
alarm-none maybe fields h = ap (λ o. row_code (option_map_or (λ pair. alarm maybe pair.0 (labels_in pair.1)) o malformed)) h ∙ malformed_refused

pub alarm-id : (maybe : Bool) (fields : List (List ℕ)) (id labels : List ℕ) (e : RowRefusal) → two_fields fields ≡ Some (id, labels) → IsNamedInRow id (Err e) → Reads (alarm_record maybe fields) (Err e)
alarm-id maybe fields id labels Shape h n = absurd n
alarm-id maybe fields id labels Name h n = ap row_code (alarm_is maybe fields id labels h) ∙ id_refused maybe id (labels_in labels) n
alarm-id maybe fields id labels Memory h n = tt

pub alarm-labels : (maybe : Bool) (fields : List (List ℕ)) (id labels : List ℕ) (e : RowRefusal) → two_fields fields ≡ Some (id, labels) → AreNamed (labels_in labels) (Err e) → Reads (alarm_record maybe fields) (Err e)
alarm-labels maybe fields id labels Shape h n = absurd n
alarm-labels maybe fields id labels Name h n = ap row_code (alarm_is maybe fields id labels h) ∙ labels_refused maybe id (labels_in labels) n
alarm-labels maybe fields id labels Memory h n = tt

pub alarm-read : (maybe : Bool) (fields : List (List ℕ)) (id labels name : List ℕ) (names : List (List ℕ)) → two_fields fields ≡ Some (id, labels) → IsNamedInRow id (Ok name) → AreNamed (labels_in labels) (Ok names) → Reads (alarm_record maybe fields) (Ok (alarm_row maybe name names))
alarm-read maybe fields id labels name names h n ns =
    let is = alarm_is maybe fields id labels h in
    (ap row_code is ∙ alarm_accepted maybe id (labels_in labels) n.1 ns.1, ap row_of is ∙ ap (λ x. Some (alarm_row maybe x (labels_in labels))) (sym n.0) ∙ ap (λ xs. Some (alarm_row maybe name xs)) (sym ns.0))

-- ---- pairs

before_is : (fields : List (List ℕ)) (first second : List ℕ) → two_fields fields ≡ Some (first, second) → before_record fields ≡ before first second
before_is fields first second h = ap (λ o. option_map_or (λ pair. before pair.0 pair.1) o malformed) h

pub before-none : (fields : List (List ℕ)) → two_fields fields ≡ None → row_code (before_record fields) ≡ Some 6
before-none fields h = ap (λ o. row_code (option_map_or (λ pair. before pair.0 pair.1) o malformed)) h ∙ malformed_refused

pub before-first : (fields : List (List ℕ)) (first second : List ℕ) (e : RowRefusal) → two_fields fields ≡ Some (first, second) → IsNamedInRow first (Err e) → Reads (before_record fields) (Err e)
before-first fields first second Shape h n = absurd n
before-first fields first second Name h n = ap row_code (before_is fields first second h) ∙ first_refused first second n
before-first fields first second Memory h n = tt

pub before-second : (fields : List (List ℕ)) (first second : List ℕ) (e : RowRefusal) → two_fields fields ≡ Some (first, second) → IsNamedInRow second (Err e) → Reads (before_record fields) (Err e)
before-second fields first second Shape h n = absurd n
before-second fields first second Name h n = ap row_code (before_is fields first second h) ∙ second_refused first second n
before-second fields first second Memory h n = tt

pub before-read : (fields : List (List ℕ)) (first second a b : List ℕ) → two_fields fields ≡ Some (first, second) → IsNamedInRow first (Ok a) → IsNamedInRow second (Ok b) → Reads (before_record fields) (Ok (row.Before a b))
before-read fields first second a b h n m =
    let is = before_is fields first second h in
    (ap row_code is ∙ before_accepted first second n.1 m.1, ap row_of is ∙ ap (λ x. Some (row.Before x second)) (sym n.0) ∙ ap (λ x. Some (row.Before a x)) (sym m.0))

-- ---- questions

ask_is : (fields : List (List ℕ)) (b : Bool) → are_empty fields ≡ b → ask_record fields ≡ cond b ask malformed
ask_is fields b h = ap (λ t. cond t ask malformed) h

pub ask-read : (fields : List (List ℕ)) → are_empty fields ≡ true → Reads (ask_record fields) (Ok row.Ask)
ask-read fields h = (ap row_code (ask_is fields true h) ∙ ask_accepted, ap row_of (ask_is fields true h))

pub ask-not : (fields : List (List ℕ)) → are_empty fields ≡ false → row_code (ask_record fields) ≡ Some 6
ask-not fields h = ap row_code (ask_is fields false h) ∙ malformed_refused

-- ---- records

blank_is : (fields : List (List ℕ)) → are_empty fields ≡ true → record_of fields ≡ nothing
unfolding record_of
blank_is fields h = ap (λ b. cond b nothing (record_by_word fields)) h

said_is : (fields : List (List ℕ)) → are_empty fields ≡ false → record_of fields ≡ record_by_word fields
unfolding record_of
said_is fields h = ap (λ b. cond b nothing (record_by_word fields)) h

nothing_accepted : row_code nothing ≡ None
unfolding row_code
nothing_accepted = refl

pub record-blank : (fields : List (List ℕ)) → are_empty fields ≡ true → ReadsRecord (record_of fields) (Ok None)
record-blank fields h = (ap row_code (blank_is fields h) ∙ nothing_accepted, ap row_of (blank_is fields h))

pub record-row : (fields : List (List ℕ)) (said : Row) → are_empty fields ≡ false → Reads (record_by_word fields) (Ok said) → ReadsRecord (record_of fields) (Ok (Some said))
record-row fields said h r = (ap row_code (said_is fields h) ∙ r.0, ap row_of (said_is fields h) ∙ r.1)

pub record-refused : (fields : List (List ℕ)) (e : RowRefusal) → are_empty fields ≡ false → Reads (record_by_word fields) (Err e) → ReadsRecord (record_of fields) (Err e)
record-refused fields Shape h r = ap row_code (said_is fields h) ∙ r
record-refused fields Name h r = ap row_code (said_is fields h) ∙ r
record-refused fields Memory h r = tt

pub ruleset read_records = (record-blank, record-row, record-refused)

pub ruleset row_records = (malformed_refused)

pub ruleset alarm_records = (alarm-none, alarm-id, alarm-labels, alarm-read)

pub ruleset before_records = (before-none, before-first, before-second, before-read)

pub ruleset ask_records = (ask-read, ask-not)
