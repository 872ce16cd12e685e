-- What a record of a log or a script says.
use Rattle.std.specs.Prelude.{ℕ, Bool, ◌==◌, List, [], ◌∷◌, map, length, Option, Some, None, bytes_eq, codes, if◌then◌else◌}
use Rattle.std.specs.List.{list_all, slice_split}
use Rattle.std.specs.Option.{option_map_or}
use Rattle.csv.specs.Reading.{default_config, records, strip_bom}
use Rattle.log_order.specs.Certainty.{leaves_doubt}
use Rattle.log_order.specs.declared.certainty.Certainty.TheVariants.{Certain, Doubtful}
use Rattle.log_csv.specs.declared.keyword.RecordKeyword.{RecordKeyword}
use Rattle.log_csv.specs.declared.keyword.RecordKeyword.TheVariants as word

-- An alarm, whether it is doubtful, and the labels that are written for it; two alarms of which the first comes before the
-- second; a question; no field that isn't empty; or none of these.
pub data Record : Type 0 where
  alarm : (maybe : Bool) (id : List ℕ) (labels : List (List ℕ)) → Record
  before : List ℕ → List ℕ → Record
  ask : Record
  nothing : Record
  malformed : Record

-- the field has no byte
abbrev pub is_empty_field : List ℕ → Bool
is_empty_field field = length field == 0

-- no field has a byte: so also where there are no fields
abbrev pub are_empty : List (List ℕ) → Bool
are_empty fields = list_all is_empty_field fields

-- the labels in a field: its pieces between bars, and none if it is empty
abbrev pub labels_in : List ℕ → List (List ℕ)
labels_in field = if is_empty_field field then [] else slice_split (λ byte. byte == 124) field

-- two fields, behind which no other has a byte
abbrev pub two_fields : List (List ℕ) → Option (List ℕ × List ℕ)
two_fields [] = None
two_fields (first ∷ []) = None
two_fields (first ∷ second ∷ others) = if are_empty others then Some (first, second) else None

-- what the fields behind the keyword of an alarm say: an id, labels, and empty fields, or it has no shape
abbrev pub alarm_record : Bool → List (List ℕ) → Record
alarm_record maybe fields = option_map_or (λ pair. alarm maybe pair.0 (labels_in pair.1)) (two_fields fields) malformed

-- what the fields behind `before` say: two ids, and empty fields, or it has no shape
abbrev pub before_record : List (List ℕ) → Record
before_record fields = option_map_or (λ pair. before pair.0 pair.1) (two_fields fields) malformed

-- what the fields behind `ask` say: they are all empty, or it has no shape
abbrev pub ask_record : List (List ℕ) → Record
ask_record fields = if are_empty fields then ask else malformed

-- the word that begins a record
abbrev pub record_keyword : List ℕ → Option RecordKeyword
record_keyword text =
    if bytes_eq text (codes "alarm") then Some (word.Alarm Certain)
    else if bytes_eq text (codes "maybe") then Some (word.Alarm Doubtful)
    else if bytes_eq text (codes "before") then Some word.Before
    else if bytes_eq text (codes "ask") then Some word.Ask
    else None

-- what the fields behind a keyword say; without a keyword they have no shape
abbrev pub record_with : Option RecordKeyword → List (List ℕ) → Record
record_with None fields = malformed
record_with (Some (word.Alarm certainty)) fields = alarm_record (leaves_doubt certainty) fields
record_with (Some word.Before) fields = before_record fields
record_with (Some word.Ask) fields = ask_record fields

-- what the first field and those behind it say
abbrev pub record_by_word : List (List ℕ) → Record
record_by_word [] = malformed
record_by_word (text ∷ fields) = record_with (record_keyword text) fields

-- what a record says by its fields; where all are empty, nothing
unfoldable pub record_of : List (List ℕ) → Record
record_of fields = if are_empty fields then nothing else record_by_word fields

-- The records of a text of comma-separated fields. A byte order mark at its front is taken off, quotes are double, no row
-- is a header, and records may differ in length.
abbrev pub records_of : List ℕ → List Record
records_of bytes = map record_of (records default_config (strip_bom bytes))
