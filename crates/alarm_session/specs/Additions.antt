-- What a session adds to its question.
use Rattle.std.specs.Prelude.{ℕ, Bool, List, [], length, Option, Some, None, if◌then◌else◌}
use Rattle.question_clauses.specs.Additions.{Addition, alarm_added, pair_added}
use Rattle.log_order.specs.Adding.{with_texts}
use Rattle.log_order.specs.Log.{Log, Alarm, an_alarm, has_pair, id_of}
use Rattle.run_decode.specs.QuestionAxioms.{BuiltQuestion, added_built}

-- an alarm, with each of its labels once; which id it has, its log says
abbrev pub alarm_addition : List (List ℕ) → Bool → Addition
alarm_addition labels doubtful = alarm_added (an_alarm [] (with_texts [] labels) doubtful)

-- a pair, or nothing where the log has it already
abbrev pub pair_addition : Log → Option (ℕ × ℕ) → Option Addition
pair_addition log None = None
pair_addition log (Some pair) = if has_pair log.pairs pair.0 pair.1 then None else Some (pair_added pair.0 pair.1)

-- a question as it is built with what is added, if anything is: an alarm by this id
abbrev pub built_on : List ℕ → BuiltQuestion → Option Addition → BuiltQuestion
built_on id question None = question
built_on id question (Some (alarm_added new)) = added_built question (alarm_added (record new { name = id }))
built_on id question (Some (pair_added i j)) = added_built question (pair_added i j)

-- the id of the alarm that a longer log has behind these
abbrev pub next_id : List Alarm → Log → List ℕ
next_id alarms longer = id_of longer.alarms (length alarms)
