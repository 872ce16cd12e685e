-- A worked question with additions to its log: what it becomes is computed.
use Rattle.std.proofs.Common.{◌≡◌, true, false, [], ◌∷◌, length, drop, refl}
use Rattle.std.specs.Prelude.{codes}
use Rattle.des_net.specs.Models.{pump}
use Rattle.question_clauses.specs.Additions.{Addition, alarm_added, pair_added}
use Rattle.log_encode.specs.CodedLog.{addition_width}
use Rattle.log_order.specs.Log.{a_log, an_alarm, no_log}
use Rattle.run_decode.specs.QuestionAxioms.{BuiltQuestion, added_axioms, added_built, column_built, question_built}

-- an alarm, certain or perhaps false
abbrev certain : Addition
certain = alarm_added (an_alarm (codes "a") (codes "T" ∷ []) false)

abbrev doubtful : Addition
doubtful = alarm_added (an_alarm (codes "a") (codes "T" ∷ []) true)

abbrev begun : BuiltQuestion
begun = question_built pump no_log 1 0

-- ---- before the counter has a column, the question with an addition is that of the longer log

pub certain-is : added_built begun certain ≡ question_built pump (a_log (an_alarm (codes "a") (codes "T" ∷ []) false ∷ []) []) 1 0
certain-is = refl

pub doubtful-is : added_built begun doubtful ≡ question_built pump (a_log (an_alarm (codes "a") (codes "T" ∷ []) true ∷ []) []) 1 0
doubtful-is = refl

pub pair-is :
    added_built (added_built (added_built begun certain) certain) (pair_added 0 1)
    ≡ question_built pump (a_log (an_alarm (codes "a") (codes "T" ∷ []) false ∷ an_alarm (codes "a") (codes "T" ∷ []) false ∷ []) ((0, 1) ∷ [])) 1 0
pair-is = refl

-- ---- behind a column, a doubtful alarm is counted there too

-- The variables 0 to 13 are those of the steps and of the empty log. Number 14 is the column's, 15 to 20 are the alarm's, and 21 is the new one of the column.
abbrev counted : BuiltQuestion
counted = added_built (column_built begun) doubtful

pub counted-start : begun.vars ≡ 14
counted-start = refl

pub counted-width : addition_width begun.code doubtful ≡ 6
counted-width = refl

pub counted-vars : counted.vars ≡ 22
counted-vars = refl

pub counted-columns : counted.counter.columns ≡ (14 ∷ 21 ∷ []) ∷ []
counted-columns = refl

-- that the jam happens, and that the alarm is false
pub counted-inputs : counted.counter.inputs ≡ record { var = 6; positive = true } ∷ record { var = 20; positive = true } ∷ []
counted-inputs = refl

-- the clauses of the alarm come first, and then two of the column: it keeps what it reached, and a false alarm reaches it
pub counted-axioms :
    drop 12 (added_axioms (column_built begun) doubtful)
    ≡ (record { var = 14; positive = false } ∷ record { var = 21; positive = true } ∷ []) ∷ (record { var = 20; positive = false } ∷ record { var = 21; positive = true } ∷ []) ∷ []
counted-axioms = refl

pub counted-size : length (added_axioms (column_built begun) doubtful) ≡ 14
counted-size = refl
