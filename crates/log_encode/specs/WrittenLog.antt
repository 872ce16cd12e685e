-- The clauses that were written for a log, from the first on, and what they are good for.
use Rattle.std.specs.Prelude.{◌≡◌, ℕ, ◌+◌, ◌*◌, ◌≤◌, List, ◌++◌, length}
use Rattle.des_base.specs.declared.TheConstants.{VAR_LIMIT}
use Rattle.des_net.specs.Network.{Net}
use Rattle.des_net.specs.QuestionSize.{observable_count}
use Rattle.log_order.specs.Log.{no_log}
use Rattle.question_clauses.specs.Additions.{Addition}
use Rattle.question_clauses.specs.Drafts.{first_list}
use Rattle.question_clauses.specs.LogClauses.{guard_literals}
use Rattle.question_clauses.specs.LogCodeLaws.{IsExactLogCode}
use Rattle.question_clauses.specs.LogCodes.{IsNamedLog}
use Rattle.log_encode.specs.CodedLog.{CodedLog, read_meanings, code_after, IsCodedLog}
use Rattle.log_encode.specs.Drafted.{DraftState, IsDraftOf}
use Rattle.prop_core.specs.declared.lit.Lit.{Lit}
use Rattle.prop_core.specs.Clauses.{Clause}
use Rattle.prop_core.specs.Listings.{IsListed}
use Rattle.prop_core.specs.NamedClauses.{IsCode}
use Rattle.prop_core.specs.VariableNames.{Meaning, ReadsAs}

-- Further clauses are those of the empty log, by these meanings, one after another in the order of their listing: for each event that can be seen one in each step.
pub record AppendsFirst (net : Net) (n : ℕ) (meanings : List (ℕ × Meaning)) (old new : List Clause) : Type 0 where
  pub more : List Clause
  pub whole : new ≡ old ++ more
  pub listed : IsListed meanings (first_list net n) more
  pub few : length more ≡ observable_count net * n
  pub code : IsCode meanings (IsNamedLog net no_log n) more

-- by the meanings of the code's variables the clauses are those of its log
pub record IsWritten (code : CodedLog) (written : List Clause) : Type 0 where
  pub coded : IsCodedLog code
  pub clauses : IsCode (read_meanings code) (IsNamedLog code.net code.log code.grid.steps) written

-- the variables of the draft come after those of the code, within the limit
pub record Follows (code : CodedLog) (draft : DraftState) : Type 0 where
  pub above : code.vars ≤ draft.first
  pub few : draft.first + draft.vars ≤ VAR_LIMIT

-- With the clauses of a draft that is committed they are those of the longer log.
abbrev pub WrittenGrows : Type 0
WrittenGrows = (code : CodedLog) (addition : Addition) (draft : DraftState) (written : List Clause) → IsWritten code written → IsDraftOf code addition draft.first draft → Follows code draft →
    IsWritten (code_after code addition draft.first) (written ++ draft.clauses)

-- With the guards they are exact: the explanations of the log, and without the guards every run.
abbrev pub WrittenIsExact : Type 0
WrittenIsExact = (code : CodedLog) (written : List Clause) (guards : List Lit) → IsWritten code written → ReadsAs (read_meanings code) guards (guard_literals code.net code.log) →
    IsExactLogCode code.net code.log code.grid.steps (read_meanings code) written guards
