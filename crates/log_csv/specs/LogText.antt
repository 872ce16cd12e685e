-- The log of a text, and its first fault.
use Rattle.std.specs.Prelude.{ℕ, ◌+◌, Bool, true, false, not, ◌&&◌, ◌||◌, List, [], ◌∷◌, ◌++◌, filter_map, length, nat_le, nat_lt, is_none, is_some, Option, Some, None, option_map, option_and_then, if◌then◌else◌}
use Rattle.std.specs.List.{list_all}
use Rattle.std.specs.Option.{option_map_or, option_or}
use Rattle.des_base.specs.Names.{is_name_text, place_of}
use Rattle.log_order.specs.Log.{Alarm, Log, closes_cycle, has_pair, a_log, an_alarm}
use Rattle.log_order.specs.Adding.{names_of, with_pair, with_texts}
use Rattle.log_order.specs.declared.TheConstants.{MOST_ALARMS, MOST_LABELS, MOST_PAIRS}
use Rattle.log_csv.specs.declared.fault.LogFault.{LogFault}
use Rattle.log_csv.specs.Records.{Record, alarm, before, ask, nothing, malformed, records_of}
use Rattle.log_csv.specs.ScriptText.{is_malformed, names_of_record}
use Rattle.log_csv.specs.Faults.{log_fault_at}

-- ---- the log of records

-- an alarm, doubtful or not, and its labels, each once and at its first place
abbrev pub recorded_alarm : Record → Option Alarm
recorded_alarm (alarm maybe id labels) = Some (an_alarm id (with_texts [] labels) maybe)
recorded_alarm (before first second) = None
recorded_alarm ask = None
recorded_alarm nothing = None
recorded_alarm malformed = None

-- the alarms of the records, in order
abbrev pub recorded_alarms : List Record → List Alarm
recorded_alarms records = filter_map recorded_alarm records

-- the ids of the alarms of the records, in order
abbrev pub ids_of : List Record → List (List ℕ)
ids_of records = names_of (recorded_alarms records)

-- two alarms by the places of their ids, if both are known
abbrev pub recorded_pair : List (List ℕ) → Record → Option (ℕ × ℕ)
recorded_pair ids (alarm maybe id labels) = None
recorded_pair ids (before first second) = option_and_then (λ i. option_map (λ j. (i, j)) (place_of second ids)) (place_of first ids)
recorded_pair ids ask = None
recorded_pair ids nothing = None
recorded_pair ids malformed = None

-- the pairs as often as they are written, where both ids are of alarms of the records
abbrev pub written_pairs : List Record → List (ℕ × ℕ)
written_pairs records = filter_map (recorded_pair (ids_of records)) records

-- these pairs, and behind them the others that are new
abbrev pub with_pairs : List (ℕ × ℕ) → List (ℕ × ℕ) → List (ℕ × ℕ)
with_pairs pairs [] = pairs
with_pairs pairs (other ∷ others) = with_pairs (with_pair pairs other.0 other.1) others

-- each pair once, and at its first place
abbrev pub pairs_of : List Record → List (ℕ × ℕ)
pairs_of records = with_pairs [] (written_pairs records)

-- the alarms and the pairs that the records say; a record that says neither adds nothing
abbrev pub log_of_records : List Record → Log
log_of_records records = a_log (recorded_alarms records) (pairs_of records)

-- the log of a text without a fault
abbrev pub log_of : List ℕ → Log
log_of bytes = log_of_records (records_of bytes)

-- ---- its first fault

-- the record is a question, which scripts have and logs do not
abbrev pub is_question_record : Record → Bool
is_question_record (alarm maybe id labels) = false
is_question_record (before first second) = false
is_question_record ask = true
is_question_record nothing = false
is_question_record malformed = false

-- an earlier alarm has the id
abbrev pub is_double_record : List Record → Record → Bool
is_double_record earlier (alarm maybe id labels) = is_some (place_of id (ids_of earlier))
is_double_record earlier (before first second) = false
is_double_record earlier ask = false
is_double_record earlier nothing = false
is_double_record earlier malformed = false

-- one of two alarms isn't among the earlier
abbrev pub has_unknown_alarm : List Record → Record → Bool
has_unknown_alarm earlier (alarm maybe id labels) = false
has_unknown_alarm earlier (before first second) = is_none (place_of first (ids_of earlier)) || is_none (place_of second (ids_of earlier))
has_unknown_alarm earlier ask = false
has_unknown_alarm earlier nothing = false
has_unknown_alarm earlier malformed = false

-- the earlier pairs lead from the second alarm to the first
abbrev pub is_cycle : List Record → Record → Bool
is_cycle earlier said = option_map_or (λ pair. closes_cycle (pairs_of earlier) pair.0 pair.1) (recorded_pair (ids_of earlier) said) false

-- the record is an alarm whose label field is empty
abbrev pub lacks_labels : Record → Bool
lacks_labels (alarm maybe id labels) = nat_le (length labels) 0
lacks_labels (before first second) = false
lacks_labels ask = false
lacks_labels nothing = false
lacks_labels malformed = false

-- the pair is new, and there are as many as there may be
abbrev pub is_pair_past_limit : List (ℕ × ℕ) → ℕ × ℕ → Bool
is_pair_past_limit pairs pair = not (has_pair pairs pair.0 pair.1) && nat_le MOST_PAIRS (length pairs)

-- a limit would be passed: by one more alarm, by the labels as they are written, or by a pair that is new
abbrev pub is_record_past_limit : List Record → Record → Bool
is_record_past_limit earlier (alarm maybe id labels) = nat_le MOST_ALARMS (length (recorded_alarms earlier)) || nat_lt MOST_LABELS (length labels)
is_record_past_limit earlier (before first second) = option_map_or (is_pair_past_limit (pairs_of earlier)) (recorded_pair (ids_of earlier) (before first second)) false
is_record_past_limit earlier ask = false
is_record_past_limit earlier nothing = false
is_record_past_limit earlier malformed = false

-- the first code, in this order, whose condition holds of a record and the accepted records before it
unfoldable pub record_code : List Record → Record → Option ℕ
record_code earlier said =
    if is_malformed said || is_question_record said then Some 6
    else if not (list_all is_name_text (names_of_record said)) then Some 7
    else if is_double_record earlier said then Some 1
    else if has_unknown_alarm earlier said then Some 2
    else if is_cycle earlier said then Some 3
    else if lacks_labels said then Some 4
    else if is_record_past_limit earlier said then Some 5
    else None

-- the first fault of the records behind these, where the first of them has this row
abbrev pub first_record_fault : ℕ → List Record → List Record → Option LogFault
first_record_fault row earlier [] = None
first_record_fault row earlier (said ∷ others) =
    option_or (log_fault_at row (record_code earlier said)) (first_record_fault (row + 1) (earlier ++ said ∷ []) others)

-- rows are counted from 1, the blank ones too
abbrev pub first_log_fault : List ℕ → Option LogFault
first_log_fault bytes = first_record_fault 1 [] (records_of bytes)
