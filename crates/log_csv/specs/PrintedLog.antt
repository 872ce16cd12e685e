-- The text that is printed of a log.
use Rattle.std.specs.Prelude.{ℕ, Bool, true, false, List, ◌++◌, codes}
use Rattle.std.specs.List.{flat_map, join_with_byte}
use Rattle.log_order.specs.Log.{Alarm, Log, an_alarm, id_of}

-- an alarm by the parts of its line, in their order
abbrev pub alarm_with : Bool → List ℕ → List (List ℕ) → Alarm
alarm_with maybe id labels = an_alarm id labels maybe

-- the keyword of an alarm, certain or doubtful
abbrev pub alarm_word : Bool → List ℕ
alarm_word false = codes "alarm"
alarm_word true = codes "maybe"

-- an alarm: its keyword, its id, and its labels with bars between them
unfoldable pub alarm_line : Alarm → List ℕ
alarm_line alarm = alarm_word alarm.doubtful ++ codes "," ++ alarm.name ++ codes "," ++ join_with_byte 124 alarm.labels ++ codes "\n"

-- the line that the alarm of the first id comes before that of the second
unfoldable pub line_of_ids : List ℕ → List ℕ → List ℕ
line_of_ids first second = codes "before," ++ first ++ codes "," ++ second ++ codes "\n"

-- a pair: the ids of its alarms
abbrev pub pair_line : List Alarm → ℕ × ℕ → List ℕ
pair_line alarms pair = line_of_ids (id_of alarms pair.0) (id_of alarms pair.1)

-- all alarms, and then all pairs
abbrev pub log_text : Log → List ℕ
log_text log = flat_map alarm_line log.alarms ++ flat_map (pair_line log.alarms) log.pairs
