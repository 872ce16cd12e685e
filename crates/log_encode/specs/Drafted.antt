-- A draft of an addition to the log, and what stands ready for it.
use Rattle.std.specs.Prelude.{◌≡◌, ℕ, suc, Bool, true, false, ◌+◌, ◌*◌, ◌<◌, ◌≤◌, List, Some, length, slice_get}
use Rattle.question_clauses.specs.Additions.{Addition, alarm_added, pair_added, with_addition}
use Rattle.question_clauses.specs.Drafts.{added_list}
use Rattle.question_clauses.specs.LogClauses.{IsLink, matching_events}
use Rattle.log_encode.specs.CodedLog.{CodedLog, code_after, addition_width, log_meanings, read_meanings}
use Rattle.prop_core.specs.Clauses.{Clause}
use Rattle.prop_core.specs.Listings.{IsListed}
use Rattle.prop_core.specs.VariableNames.{Meaning, done, meaning_of, unmatched}
use Rattle.prop_core.specs.declared.lit.Lit.{Lit}
use Rattle.replay.specs.QuestionSize.{question_size}

-- a code, and for how many more alarms and pairs there is room in it
pub record LogCodeState : Type 0 where
  pub coded : CodedLog
  pub spare_alarms : ℕ
  pub spare_pairs : ℕ

-- the code that it was made by, what it adds, its first variable, how many it takes, and its clauses
pub record DraftState : Type 0 where
  pub code : CodedLog
  pub addition : Addition
  pub first : ℕ
  pub vars : ℕ
  pub clauses : List Clause

-- a draft of this addition to the code: its variables are those of the new meanings, and by the meanings of the longer log its clauses are those that the addition brings, in the order of their listing
pub record IsDraftOf (code : CodedLog) (addition : Addition) (first : ℕ) (draft : DraftState) : Type 0 where
  pub made_by : draft.code ≡ code
  pub adds : draft.addition ≡ addition
  pub begins : draft.first ≡ first
  pub width : draft.vars ≡ addition_width code addition
  pub listed : IsListed (read_meanings (code_after code addition first)) (added_list code.net code.log code.grid.steps addition) draft.clauses
  pub small : length draft.clauses + 12 * question_size code.net code.log code.grid.steps ≤ 12 * question_size code.net (with_addition code.log addition) code.grid.steps + 12

-- there is room for what the addition adds
abbrev pub HasRoomFor : LogCodeState → Addition → Type 0
HasRoomFor state (alarm_added new) = 1 ≤ state.spare_alarms
HasRoomFor state (pair_added i j) = 1 ≤ state.spare_pairs

-- the least number of steps within which alarm i is done
pub record IsStepOfAlarm (n : ℕ) (value : Meaning → Bool) (i step : ℕ) : Type 0 where
  pub within : step ≤ n
  pub is : value (done i step) ≡ true
  pub least : (t : ℕ) → t < step → value (done i t) ≡ false

-- It says of the event of this link of alarm i that the chain up to this alarm doesn't pass it on in the step after t steps.
pub record IsUnpassed (code : CodedLog) (i link t : ℕ) (l : Lit) : Type 0 where
  pub event : ℕ
  pub linked : slice_get (matching_events code.net code.log i) link ≡ Some event
  pub before : ℕ
  pub stands : IsLink code.net code.log i event before
  pub name : meaning_of (log_meanings code) l.var ≡ Some (unmatched event (suc before) (suc t))
  pub sign : l.positive ≡ false
