-- One naming for a question whose steps, log and counter are coded on variables of their own: each part names its own, and the events of the log are those of the steps.
use Rattle.std.specs.Prelude.{◌≡◌, ◌≢◌, ◌↔◌, ◌⊎◌, ℕ, ◌+◌, ◌-◌, ◌<◌, ◌≤◌, true, if◌then◌else◌, List, [], ◌∷◌, ◌++◌, length, Contains, None, Some}
use Rattle.card_counter.specs.CounterState.{CounterState, IsCounter, IsMade, IsPlace, variable, counter_meanings, counter_clauses, next_clauses, input_clauses, bound_literal, without_columns, with_column, with_input, with_room, AreAlike, IsFull}
use Rattle.card_counter.specs.Counting.{IsNamedBy}
use Rattle.des_base.specs.declared.TheConstants.{VAR_LIMIT, MOST_COLUMNS}
use Rattle.question_clauses.specs.Additions.{Addition, alarm_added, pair_added}
use Rattle.question_clauses.specs.LogClauses.{guard_literals}
use Rattle.question_clauses.specs.LogCodes.{AreAmong}
use Rattle.log_order.specs.Log.{Log, Alarm}
use Rattle.replay.specs.QuestionSize.{variable_bound}
use Rattle.log_encode.specs.CodedLog.{CodedLog, log_meanings, read_meanings, code_after, addition_width}
use Rattle.log_encode.specs.Drafted.{DraftState, IsDraftOf}
use Rattle.log_encode.specs.WrittenLog.{IsWritten, Follows}
use Rattle.prop_core.specs.Clauses.{Clause}
use Rattle.prop_core.specs.NamedClauses.{IsCode}
use Rattle.prop_core.specs.VariableNames.{Meaning, HasEachOnce, ReadsAs}
use Rattle.prop_core.specs.declared.lit.Lit.{Lit}
use Rattle.question_clauses.specs.StepCodes.{IsNamedStep}
use Rattle.run_decode.specs.DecodedRuns.{AreFaultLiterals}
use Rattle.run_decode.specs.Drawn.{fault_inputs}
use Rattle.run_decode.specs.Question.{Asks}
use Rattle.run_decode.specs.RunNaming.{AreFalseLiterals, IsCodedBeside}
use Rattle.step_encode.specs.Coded.{CodedSteps, code_meanings, code_grid, variable_count}
use Rattle.step_encode.specs.FaultInputs.{fault_literals}

-- the variables of the steps, of the log, and of the counter, each with its meaning
abbrev pub whole_meanings : CodedSteps → CodedLog → CounterState → List (ℕ × Meaning)
whole_meanings steps code counter = code_meanings steps ++ (log_meanings code ++ counter_meanings counter)

-- no variable of the log is one of the counter
abbrev pub IsApartFromCounter : CodedLog → CounterState → Type 0
IsApartFromCounter code counter = (entry : ℕ × Meaning) (i j : ℕ) → Contains (log_meanings code) entry → IsPlace counter i j → entry.0 ≢ variable counter i j

-- The inputs are the faults of the steps, and then that alarms of the log are false.
pub record AreInputs (steps : CodedSteps) (code : CodedLog) (inputs : List Lit) : Type 0 where
  pub false_lits : List Lit
  pub whole : inputs ≡ fault_literals steps.net (code_grid steps) ++ false_lits
  pub read : AreFalseLiterals code false_lits

-- The log is coded beside the events of the steps, in the same network; the counter counts the faults of the steps and the false alarms, on later variables; and log and counter have no variable in common.
pub record AreCodedTogether (steps : CodedSteps) (code : CodedLog) (counter : CounterState) : Type 0 where
  pub beside : IsCodedBeside steps code
  pub counted : IsCounter counter
  pub inputs : AreInputs steps code counter.inputs
  pub later : (i j : ℕ) → IsPlace counter i j → steps.first + variable_count steps.net steps.steps ≤ variable counter i j
  pub apart : IsApartFromCounter code counter

-- No meaning and no variable stands twice; the parts keep their meanings, and the inputs of the counter read as the fault events in all steps and the false alarms.
pub record HaveOneNaming (steps : CodedSteps) (code : CodedLog) (counter : CounterState) : Type 0 where
  pub once : HasEachOnce (whole_meanings steps code counter)
  pub of_steps : AreAmong (code_meanings steps) (whole_meanings steps code counter)
  pub of_log : AreAmong (read_meanings code) (whole_meanings steps code counter)
  pub of_faults : AreFaultLiterals (whole_meanings steps code counter) steps.net code.log steps.steps counter.inputs
  pub of_counter : IsNamedBy (whole_meanings steps code counter) (fault_inputs steps.net code.log steps.steps) counter

-- What is coded together has one naming.
abbrev pub TogetherOneNaming : Type 0
TogetherOneNaming = (steps : CodedSteps) (code : CodedLog) (counter : CounterState) → AreCodedTogether steps code counter → HaveOneNaming steps code counter

-- ---- how it grows

-- A counter without columns has no variables of its own.
abbrev pub TogetherBegins : Type 0
TogetherBegins = (steps : CodedSteps) (code : CodedLog) (counter : CounterState) (false_lits : List Lit) → IsCodedBeside steps code → AreFalseLiterals code false_lits →
    counter ≡ without_columns (fault_literals steps.net (code_grid steps) ++ false_lits) → AreCodedTogether steps code counter

-- the literal that says that a new alarm is false: its variable is the last of those of the addition
abbrev pub false_input : CodedLog → Alarm → ℕ → Lit
false_input code new first = record { var = first + (addition_width code (alarm_added new) - 1); positive = true }

-- the counter after an addition whose variables begin at a number: it counts a doubtful alarm, in each column on a variable after them
abbrev pub counter_after : CodedLog → CounterState → Addition → ℕ → CounterState
counter_after code counter (alarm_added new) first =
    if new.doubtful then with_input counter (false_input code new first) (first + addition_width code (alarm_added new)) else counter
counter_after code counter (pair_added i j) first = counter

-- and the clauses that the counter gets with it
abbrev pub counted_after : CodedLog → CounterState → Addition → ℕ → List Clause
counted_after code counter (alarm_added new) first =
    if new.doubtful then input_clauses counter (false_input code new first) (first + addition_width code (alarm_added new)) else []
counted_after code counter (pair_added i j) first = []

-- The log may get an addition, and the counter the input that comes with it, on variables after those of both, and the counter a column on variables after those of the log.
pub record GrowTogether (steps : CodedSteps) (code : CodedLog) (counter : CounterState) (first : ℕ) : Type 0 where
  pub by_addition : (addition : Addition) → first + addition_width code addition ≤ VAR_LIMIT → AreCodedTogether steps (code_after code addition first) (counter_after code counter addition first)
  pub by_column : 0 < length counter.inputs → AreCodedTogether steps code (with_column counter first)

-- What is coded together may grow so, on variables from a number on that is above those of log and counter.
abbrev pub TogetherGrow : Type 0
TogetherGrow = (steps : CodedSteps) (code : CodedLog) (counter : CounterState) (first : ℕ) → AreCodedTogether steps code counter → code.vars ≤ first → IsMade first counter → GrowTogether steps code counter first

-- ---- the question

-- the clauses are those of the three parts, in whatever order
pub record AreClausesOf (steps : CodedSteps) (code : CodedLog) (counter : CounterState) (clauses : List Clause) : Type 0 where
  pub stepped : List Clause
  pub written : List Clause
  pub step_code : IsCode (code_meanings steps) (IsNamedStep steps.net steps.steps) stepped
  pub log_code : IsWritten code written
  pub same : (clause : Clause) → Contains clauses clause ↔ Contains stepped clause ⊎ (Contains written clause ⊎ Contains (counter_clauses counter) clause)

-- Before the counter has a column, those of the steps and of the log are all.
abbrev pub ClausesBegin : Type 0
ClausesBegin = (steps : CodedSteps) (code : CodedLog) (counter : CounterState) (stepped written : List Clause) → counter.columns ≡ [] →
    IsCode (code_meanings steps) (IsNamedStep steps.net steps.steps) stepped → IsWritten code written → AreClausesOf steps code counter (stepped ++ written)

-- The clauses of a draft, with those of the counter's new input, and those of a further column, come behind them.
pub record AreJoinedBy (steps : CodedSteps) (code : CodedLog) (counter : CounterState) (clauses : List Clause) : Type 0 where
  pub drafts : (addition : Addition) (draft : DraftState) → IsDraftOf code addition draft.first draft → Follows code draft →
      AreClausesOf steps (code_after code addition draft.first) (counter_after code counter addition draft.first) ((clauses ++ draft.clauses) ++ counted_after code counter addition draft.first)
  pub columns : (first : ℕ) → AreClausesOf steps code (with_column counter first) (clauses ++ next_clauses counter first)

-- This holds for the clauses of the three parts, where each column of the counter has a variable for each input.
abbrev pub ClausesGrow : Type 0
ClausesGrow = (steps : CodedSteps) (code : CodedLog) (counter : CounterState) (clauses : List Clause) → IsFull counter → AreClausesOf steps code counter clauses → AreJoinedBy steps code counter clauses

-- ---- room for further inputs

-- Room for further inputs changes nothing else: what is coded together stays so, with the same clauses, and with an addition the counter is alike and gets the same clauses.
pub record StaysWithRoom (steps : CodedSteps) (code : CodedLog) (counter : CounterState) (more : ℕ) : Type 0 where
  pub together : AreCodedTogether steps code (with_room counter more)
  pub clauses : (clauses : List Clause) → AreClausesOf steps code counter clauses → AreClausesOf steps code (with_room counter more) clauses
  pub after : (addition : Addition) (first : ℕ) → AreAlike (counter_after code counter addition first) (counter_after code (with_room counter more) addition first)
  pub counted : (addition : Addition) (first : ℕ) → counted_after code (with_room counter more) addition first ≡ counted_after code counter addition first

-- This holds for all that is coded together, and however many inputs there is room for.
abbrev pub RoomIsFree : Type 0
RoomIsFree = (steps : CodedSteps) (code : CodedLog) (counter : CounterState) (more : ℕ) → AreCodedTogether steps code counter → StaysWithRoom steps code counter more

-- ---- what they ask

-- With the guards they ask without a bound, and with the counter's literal for at most k besides, they ask within k.
pub record AskTogether (steps : CodedSteps) (code : CodedLog) (counter : CounterState) (clauses : List Clause) (guards : List Lit) : Type 0 where
  pub unbounded : Asks steps.net code.log steps.steps None (whole_meanings steps code counter) clauses guards
  pub bounded : (k : ℕ) → k < length counter.columns → Asks steps.net code.log steps.steps (Some k) (whole_meanings steps code counter) clauses (guards ++ bound_literal counter k ∷ [])

-- So do the clauses of what is coded together, with literals that read as the guards of the log.
abbrev pub TogetherAsk : Type 0
TogetherAsk = (steps : CodedSteps) (code : CodedLog) (counter : CounterState) (clauses : List Clause) (guards : List Lit) → AreCodedTogether steps code counter → AreClausesOf steps code counter clauses →
    ReadsAs (read_meanings code) guards (guard_literals code.net code.log) → AskTogether steps code counter clauses guards

-- Up to the most columns it has no more variables than the bound on the variables of a question says.
abbrev pub TogetherAreFew : Type 0
TogetherAreFew = (steps : CodedSteps) (code : CodedLog) (counter : CounterState) (log : Log) → AreCodedTogether steps code counter → code.log ≡ log → length counter.columns ≤ MOST_COLUMNS →
    length (whole_meanings steps code counter) ≤ variable_bound steps.net log steps.steps
