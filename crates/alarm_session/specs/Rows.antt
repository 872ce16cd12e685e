-- The rows of a script, carried out one after another by a session over one book.
use Rattle.std.specs.Prelude.{◌≡◌, ◌≢◌, ℕ, List, [], ◌∷◌, drop, slice_index_or, Option, Some, None, Result, Ok, Err, is_some, true, false, if◌then◌else◌}
use Rattle.alarm_session.specs.Additions.{alarm_addition, built_on, next_id, pair_addition}
use Rattle.alarm_session.specs.Refusals.{refusal_of_alarm, refusal_of_before, log_with, numbers_of}
use Rattle.alarm_session.specs.Session.{KeepsLog, IsSessionBook, IsToldBy, IsUnanswered, Stage, first_stage}
use Rattle.alarm_session.specs.declared.refusal.SessionRefusal.{SessionRefusal}
use Rattle.alarm_session.specs.declared.refusal.SessionRefusal.TheVariants.{Double, Unknown, Cycle, NoLabels, Limit, TooLarge, Memory}
use Rattle.alarm_session.specs.declared.rows.RowTold.{RowTold}
use Rattle.alarm_session.specs.declared.rows.RowTold.TheVariants.{Made, Refused, Answered}
use Rattle.des_base.specs.Lists.{Extends}
use Rattle.des_base.specs.declared.memory.Memory.{Memory as NoMemory}
use Rattle.des_net.specs.Network.{Net}
use Rattle.least_faults.specs.Adding.{AddsFew}
use Rattle.least_faults.specs.Columns.{columns_built}
use Rattle.answers.specs.declared.found.Found.{Found}
use Rattle.question_clauses.specs.Additions.{Addition}
use Rattle.log_csv.specs.declared.row.Row.{Row}
use Rattle.log_csv.specs.declared.row.Row.TheVariants.{Alarm, Maybe, Before, Ask}
use Rattle.log_order.specs.Adding.{with_alarm}
use Rattle.log_order.specs.Log.{Log, no_log}
use Rattle.run_decode.specs.QuestionAxioms.{BuiltQuestion, question_built}

-- ---- the log of some rows

-- why a row is refused on a log, if it is; a question never is
abbrev pub row_refusal : Net → ℕ → Log → Row → Option SessionRefusal
row_refusal net n log (Alarm id labels) = refusal_of_alarm net n log id labels false
row_refusal net n log (Maybe id labels) = refusal_of_alarm net n log id labels true
row_refusal net n log (Before first second) = refusal_of_before net n log first second
row_refusal net n log Ask = None

-- the log with a row that is accepted
abbrev pub with_row : Log → Row → Log
with_row log (Alarm id labels) = with_alarm log id labels false
with_row log (Maybe id labels) = with_alarm log id labels true
with_row log (Before first second) = log_with log (numbers_of log first second)
with_row log Ask = log

-- the log after a row, which is the same where the row is refused,
abbrev pub after_row : Net → ℕ → Log → Row → Log
after_row net n log row = if is_some (row_refusal net n log row) then log else with_row log row

-- and after these rows, one after another
abbrev pub log_after_rows : Net → ℕ → Log → List Row → Log
log_after_rows net n log [] = log
log_after_rows net n log (row ∷ rows) = log_after_rows net n (after_row net n log row) rows

-- ---- the question of some rows, as it is built

-- what a row that is accepted adds; a question adds nothing
abbrev pub row_addition : Log → Row → Option Addition
row_addition log (Alarm id labels) = Some (alarm_addition labels false)
row_addition log (Maybe id labels) = Some (alarm_addition labels true)
row_addition log (Before first second) = pair_addition log (numbers_of log first second)
row_addition log Ask = None

-- with a row that is accepted: with what it adds, and where it asks with this many further columns
abbrev pub built_with_row : Log → BuiltQuestion → Row → ℕ → BuiltQuestion
built_with_row log question (Alarm id labels) columns = built_on (next_id log.alarms (with_row log (Alarm id labels))) question (row_addition log (Alarm id labels))
built_with_row log question (Maybe id labels) columns = built_on (next_id log.alarms (with_row log (Maybe id labels))) question (row_addition log (Maybe id labels))
built_with_row log question (Before first second) columns = built_on (next_id log.alarms (with_row log (Before first second))) question (row_addition log (Before first second))
built_with_row log question Ask columns = columns_built question columns

-- after a row, which is the same where the row is refused,
abbrev pub built_after : Net → ℕ → Log → BuiltQuestion → Row → ℕ → BuiltQuestion
built_after net n log question row columns = if is_some (row_refusal net n log row) then question else built_with_row log question row columns

-- and after these rows, one after another, with one number of columns for each
abbrev pub rows_built : Net → ℕ → Log → BuiltQuestion → List Row → List ℕ → BuiltQuestion
rows_built net n log question [] columns = question
rows_built net n log question (row ∷ rows) columns = rows_built net n (after_row net n log row) (built_after net n log question row (slice_index_or columns 0 0)) rows (drop 1 columns)

-- The question of a script: network, n, its rows, and how many columns each question added determine it.
abbrev pub script_built : Net → ℕ → List Row → List ℕ → BuiltQuestion
script_built net n rows columns = rows_built net n no_log (question_built net no_log n 0) rows columns

-- ---- what comes of a row

-- The row is an addition that nothing is against. It is made: a few axioms were put, or nothing where it is in the log already.
pub record IsAdditionMade (net : Net) (n : ℕ) (old : Stage) (row : Row) (new : Stage) : Type 0 where
  pub addition : row ≢ Ask
  pub accepted : row_refusal net n old.log row ≡ None
  pub few : AddsFew net n old.log (with_row old.log row) old.book new.book
  pub again : with_row old.log row ≡ old.log → new ≡ old

-- The row is refused for this, which isn't `Memory`, and all is as it was.
pub record IsRefused (net : Net) (n : ℕ) (old : Stage) (row : Row) (new : Stage) (refusal : SessionRefusal) : Type 0 where
  pub why : row_refusal net n old.log row ≡ Some refusal
  pub known : refusal ≢ Memory
  pub same : new ≡ old

-- The row is a question, and this was found of the log as it stands, with the whole budget.
pub record IsAsked (net : Net) (n budget : ℕ) (old : Stage) (row : Row) (new : Stage) (found : Found) : Type 0 where
  pub question : row ≡ Ask
  pub told : IsToldBy net n budget old new found

-- what it means that this came of a row: an addition was made or refused, or a question was answered
abbrev pub TellsOfRow : Net → ℕ → ℕ → Stage → Row → Stage → RowTold → Type 0
TellsOfRow net n budget old row new Made = IsAdditionMade net n old row new
TellsOfRow net n budget old row new (Refused refusal) = IsRefused net n old row new refusal
TellsOfRow net n budget old row new (Answered found) = IsAsked net n budget old row new found

-- What came of a row, and how far the session has come with it: log and question are those after the row, the question with some further columns if the row asks. The book has its axioms, is valid and lean, and asks what explains the log.
pub record IsRowTold (net : Net) (n budget : ℕ) (old : Stage) (row : Row) (new : Stage) (told : RowTold) : Type 0 where
  pub tells : TellsOfRow net n budget old row new told
  pub log : new.log ≡ after_row net n old.log row
  pub columns : ℕ
  pub built : new.built ≡ built_after net n old.log old.built row columns
  pub book : IsSessionBook net n new

-- Out of memory. The log is as it was, and question and book got no more than by a search that learns as many clauses as the budget says; by an addition they got nothing. A question is open at most, behind a mark 0, and no mark closes it.
-- The book has the axioms of the question as it is built so far, is valid and lean, and asks what explains the log.
pub record IsLeftUndone (net : Net) (n budget : ℕ) (old : Stage) (row : Row) (new : Stage) : Type 0 where
  pub goes_on : KeepsLog budget old new
  pub addition : row ≢ Ask → new ≡ old
  pub unanswered : IsUnanswered net n budget old new
  pub book : IsSessionBook net n new

-- what came of an addition: it was made, or refused for this; running out of memory is handed on
abbrev pub told_by : {X : Type 0} → Result X SessionRefusal → Result RowTold NoMemory
told_by (Ok x) = Ok Made
told_by (Err Double) = Ok (Refused Double)
told_by (Err Unknown) = Ok (Refused Unknown)
told_by (Err Cycle) = Ok (Refused Cycle)
told_by (Err NoLabels) = Ok (Refused NoLabels)
told_by (Err Limit) = Ok (Refused Limit)
told_by (Err (TooLarge size)) = Ok (Refused (TooLarge size))
told_by (Err Memory) = Err (record {})

-- ---- what comes of all rows

-- This came of the rows one after another, each from where the session had come to by those before it.
abbrev pub AreRowsTold : Net → ℕ → ℕ → Stage → List Row → Stage → List RowTold → Type 0
AreRowsTold net n budget old [] new told = (new ≡ old) × (told ≡ [])
AreRowsTold net n budget old (row ∷ rows) new told =
    (mid : Stage) × (here : RowTold) × (rest : List RowTold) × IsRowTold net n budget old row mid here × AreRowsTold net n budget mid rows new rest × (told ≡ here ∷ rest)

-- A session carried out these rows from its beginning, with these outcomes, and came so far. Its log is that of all the rows, and its question is the one that network, n, rows and numbers of columns determine.
-- The book goes on from the axioms of the empty log's question. It has the axioms of the question that it came to, as a list, is valid and lean, and asks what explains the log.
pub record HasCarriedOut (net : Net) (n budget : ℕ) (rows : List Row) (left : Stage) (told : List RowTold) : Type 0 where
  pub each : AreRowsTold net n budget (first_stage net n) rows left told
  pub log : left.log ≡ log_after_rows net n no_log rows
  pub columns : List ℕ
  pub built : left.built ≡ script_built net n rows columns
  pub front : Extends (first_stage net n).book left.book
  pub book : IsSessionBook net n left
