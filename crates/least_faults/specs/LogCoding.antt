-- The code of a log as it grows, alarm by alarm and then pair by pair.
use Rattle.std.specs.Prelude.{◌≡◌, ℕ, List, [], fold, map}
use Rattle.des_net.specs.Network.{Net}
use Rattle.question_clauses.specs.Additions.{Addition, alarm_added, pair_added}
use Rattle.log_encode.specs.BuiltLog.{BuiltLog, built_with}
use Rattle.log_encode.specs.CodedLog.{CodedLog}
use Rattle.log_encode.specs.WrittenLog.{IsWritten}
use Rattle.log_order.specs.Log.{Log, Alarm}
use Rattle.prop_core.specs.Clauses.{Clause}
use Rattle.prop_core.specs.declared.grid.Grid.{Grid}

-- the alarms of the log, and no pairs
abbrev pub alarms_alone : Log → Log
alarms_alone log = record log { pairs = [] }

-- the code is that of the log in the network, beside the events of the grid
pub record IsCodeOf (net : Net) (log : Log) (grid : Grid) (code : CodedLog) : Type 0 where
  pub net_is : code.net ≡ net
  pub log_is : code.log ≡ log
  pub grid_is : code.grid ≡ grid

-- what is added for alarms, one after another
abbrev pub alarms_added : List Alarm → List Addition
alarms_added alarms = map (λ alarm. alarm_added alarm) alarms

-- what is added for pairs of alarms, one after another
abbrev pub pairs_added : List (ℕ × ℕ) → List Addition
pairs_added pairs = map (λ pair. pair_added pair.0 pair.1) pairs

-- the code and its clauses
abbrev pub written_of : CodedLog → List Clause → BuiltLog
written_of code clauses = record { code = code; clauses = clauses }

-- they are those that some additions make of earlier ones
abbrev pub AreBuiltBy : List Addition → CodedLog → List Clause → CodedLog → List Clause → Type 0
AreBuiltBy additions old old_clauses new new_clauses = written_of new new_clauses ≡ fold built_with (written_of old old_clauses) additions

-- the clauses are those of the code, and its variables are the last that were made
pub record IsWrittenUpTo (vars : ℕ) (clauses : List Clause) (code : CodedLog) : Type 0 where
  pub vars_are : code.vars ≡ vars
  pub written : IsWritten code clauses
