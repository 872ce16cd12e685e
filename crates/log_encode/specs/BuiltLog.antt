-- The code of a whole log and its clauses, built addition by addition: network, grid, first variable and log determine both.
use Rattle.std.specs.Prelude.{◌≡◌, ◌+◌, ◌≤◌, ℕ, List, ◌++◌, map, fold}
use Rattle.des_base.specs.declared.TheConstants.{VAR_LIMIT}
use Rattle.des_net.specs.Network.{Net}
use Rattle.question_clauses.specs.Additions.{Addition, alarm_added, pair_added}
use Rattle.question_clauses.specs.Drafts.{added_list, first_list}
use Rattle.log_encode.specs.CodedLog.{CodedLog, empty_code, code_after, read_meanings, IsCodedLog}
use Rattle.log_encode.specs.Drafted.{DraftState, IsDraftOf}
use Rattle.log_encode.specs.WrittenLog.{AppendsFirst}
use Rattle.log_order.specs.Log.{Log}
use Rattle.prop_core.specs.Clauses.{Clause}
use Rattle.prop_core.specs.Listings.{written_by}
use Rattle.prop_core.specs.declared.grid.Grid.{Grid}

-- the alarms of a log in order, and then its pairs
abbrev pub additions_of : Log → List Addition
additions_of log = map (λ alarm. alarm_added alarm) log.alarms ++ map (λ pair. pair_added pair.0 pair.1) log.pairs

-- the code of a log, and all clauses that were written for it, in order
pub record BuiltLog : Type 0 where
  pub code : CodedLog
  pub clauses : List Clause

-- the clauses of the empty log, by the meanings of its code
abbrev pub first_written : CodedLog → List Clause
first_written code = written_by (read_meanings code) (first_list code.net code.grid.steps)

-- the clauses of an addition whose variables come next after those of the code, by the meanings of the longer log
abbrev pub added_written : CodedLog → Addition → List Clause
added_written code addition = written_by (read_meanings (code_after code addition code.vars)) (added_list code.net code.log code.grid.steps addition)

-- the empty log, on variables from `first` on
abbrev pub built_empty : Net → Grid → ℕ → BuiltLog
built_empty net grid first = record { code = empty_code net grid first; clauses = first_written (empty_code net grid first) }

-- the same with one addition more, on the next variables
abbrev pub built_with : BuiltLog → Addition → BuiltLog
built_with built addition = record { code = code_after built.code addition built.code.vars; clauses = built.clauses ++ added_written built.code addition }

-- the whole log, on variables from `first` on: its alarms and then its pairs, added one after another
abbrev pub built_log : Net → Grid → ℕ → Log → BuiltLog
built_log net grid first log = fold built_with (built_empty net grid first) (additions_of log)

-- A draft on the next variables has the clauses that code and addition determine,
abbrev pub DraftIsBuilt : Type 0
DraftIsBuilt = (code : CodedLog) (addition : Addition) (draft : DraftState) → IsCodedLog code → IsDraftOf code addition code.vars draft → code.vars + draft.vars ≤ VAR_LIMIT →
    draft.clauses ≡ added_written code addition

-- and the empty log those that its code determines.
abbrev pub FirstIsBuilt : Type 0
FirstIsBuilt = (code : CodedLog) (old new : List Clause) → IsCodedLog code → AppendsFirst code.net code.grid.steps (read_meanings code) old new → new ≡ old ++ first_written code
