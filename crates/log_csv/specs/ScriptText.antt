-- The rows of a script, and its first fault.
use Rattle.std.specs.Prelude.{ℕ, ◌+◌, Bool, true, false, not, List, [], ◌∷◌, filter_map, Option, Some, None, if◌then◌else◌}
use Rattle.std.specs.List.{list_all}
use Rattle.std.specs.Option.{option_or}
use Rattle.des_base.specs.Names.{is_name_text}
use Rattle.log_csv.specs.declared.fault.LogFault.{LogFault}
use Rattle.log_csv.specs.declared.row.Row.{Row}
use Rattle.log_csv.specs.declared.row.Row.TheVariants.{Alarm, Maybe, Before, Ask}
use Rattle.log_csv.specs.Records.{Record, alarm, before, ask, nothing, malformed, records_of}
use Rattle.log_csv.specs.Faults.{log_fault_at}

-- the record has no shape
abbrev pub is_malformed : Record → Bool
is_malformed (alarm maybe id labels) = false
is_malformed (before first second) = false
is_malformed ask = false
is_malformed nothing = false
is_malformed malformed = true

-- the texts that must be names
abbrev pub names_of_record : Record → List (List ℕ)
names_of_record (alarm maybe id labels) = id ∷ labels
names_of_record (before first second) = first ∷ second ∷ []
names_of_record ask = []
names_of_record nothing = []
names_of_record malformed = []

-- 6: the record has no shape. 7: an id or a label isn't a name.
unfoldable pub row_code : Record → Option ℕ
row_code said =
    if is_malformed said then Some 6
    else if not (list_all is_name_text (names_of_record said)) then Some 7
    else None

-- the first fault of the records, where the first of them has this row
abbrev pub first_row_fault : ℕ → List Record → Option LogFault
first_row_fault row [] = None
first_row_fault row (said ∷ others) = option_or (log_fault_at row (row_code said)) (first_row_fault (row + 1) others)

-- rows are counted from 1, the blank ones too
abbrev pub first_script_fault : List ℕ → Option LogFault
first_script_fault bytes = first_row_fault 1 (records_of bytes)

-- the row of an alarm, certain or doubtful
abbrev pub alarm_row : Bool → List ℕ → List (List ℕ) → Row
alarm_row false id labels = Alarm id labels
alarm_row true id labels = Maybe id labels

-- the row that a record says, with its labels as they are written; a blank or malformed record says none
abbrev pub row_of : Record → Option Row
row_of (alarm maybe id labels) = Some (alarm_row maybe id labels)
row_of (before first second) = Some (Before first second)
row_of ask = Some Ask
row_of nothing = None
row_of malformed = None

-- the rows of a text without a fault
abbrev pub script_of : List ℕ → List Row
script_of bytes = filter_map row_of (records_of bytes)
