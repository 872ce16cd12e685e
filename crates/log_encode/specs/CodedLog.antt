-- The code of an alarm log: which variables stand for the meanings of the log.
use Rattle.std.specs.Prelude.{ℕ, ◌+◌, ◌*◌, ◌≡◌, ◌≤◌, List, [], ◌∷◌, ◌++◌, map, length}
use Rattle.std.specs.List.{AllByRecursion}
use Rattle.des_base.specs.declared.TheConstants.{VAR_LIMIT}
use Rattle.des_net.specs.Network.{Net}
use Rattle.log_order.specs.Log.{Log, Alarm, no_log}
use Rattle.question_clauses.specs.Additions.{Addition, alarm_added, pair_added, with_addition}
use Rattle.question_clauses.specs.BesideEvents.{with_events}
use Rattle.question_clauses.specs.LogClauses.{doubtful_alarms, guard_literals}
use Rattle.question_clauses.specs.LogNames.{added_meanings, first_meanings, AreLogMeanings}
use Rattle.prop_core.specs.Listings.{literal_by}
use Rattle.prop_core.specs.declared.grid.Grid.{Grid}
use Rattle.prop_core.specs.declared.lit.Lit.{Lit}
use Rattle.prop_core.specs.VariableNames.{Meaning, NamedLiteral, yes, dropped}
use Rattle.question_clauses.specs.LaidOut.{laid_out}

-- The network, the variables of its events, and the log; the variable that asks for the log, which is its first, the first variable of each alarm, and a number above all its variables.
pub record CodedLog : Type 0 where
  pub net : Net
  pub grid : Grid
  pub log : Log
  pub asked : ℕ
  pub starts : List ℕ
  pub vars : ℕ

-- ---- its variables

-- those of alarms that are added to a log, each beginning at its first
abbrev pub meanings_from : Net → ℕ → Log → List Alarm → List ℕ → List (ℕ × Meaning)
meanings_from net n log [] starts = []
meanings_from net n log (alarm ∷ alarms) [] = []
meanings_from net n log (alarm ∷ alarms) (start ∷ starts) =
    laid_out start (added_meanings net log n (alarm_added alarm)) ++ meanings_from net n (with_addition log (alarm_added alarm)) alarms starts

-- the variables that the code made, and what they stand for
abbrev pub log_meanings : CodedLog → List (ℕ × Meaning)
log_meanings code = laid_out code.asked (first_meanings code.net) ++ meanings_from code.net code.grid.steps no_log code.log.alarms code.starts

-- those that its clauses have: of the events too
abbrev pub read_meanings : CodedLog → List (ℕ × Meaning)
read_meanings code = with_events code.net code.grid.steps code.grid.first (log_meanings code)

-- the guards of the log, as literals in their order
abbrev pub log_guards : CodedLog → List Lit
log_guards code = map (literal_by (read_meanings code)) (guard_literals code.net code.log)

-- that an alarm is false, for each doubtful one
abbrev pub false_literals : Log → List NamedLiteral
false_literals log = map (λ i. yes (dropped i)) (doubtful_alarms log)

-- ---- how it grows

-- of no alarms
abbrev pub empty_code : Net → Grid → ℕ → CodedLog
empty_code net grid asked = record { net = net; grid = grid; log = no_log; asked = asked; starts = []; vars = asked + length (first_meanings net) }

-- how many variables an addition takes
abbrev pub addition_width : CodedLog → Addition → ℕ
addition_width code addition = length (added_meanings code.net code.log code.grid.steps addition)

-- the first variables of the alarms after an addition whose variables begin at `first`: a pair has none
abbrev pub starts_after : List ℕ → Addition → ℕ → List ℕ
starts_after starts (alarm_added new) first = starts ++ first ∷ []
starts_after starts (pair_added i j) first = starts

-- with an addition whose variables begin at a number
abbrev pub code_after : CodedLog → Addition → ℕ → CodedLog
code_after code addition first = record code {
  log = with_addition code.log addition;
  starts = starts_after code.starts addition first;
  vars = first + addition_width code addition;
}

-- ---- what always holds

-- The grid is that of the network's events, made before. Exactly the meanings of the log have variables, each one, and no variable stands twice; they are made after those of the grid. Each alarm has its first variable, and alarms are no more than variables.
pub record IsCodedLog (code : CodedLog) : Type 0 where
  pub events : code.grid.events ≡ length code.net.events
  pub made : code.grid.first + code.grid.events * code.grid.steps ≤ code.asked
  pub meanings : AreLogMeanings code.net code.log code.grid.steps code.vars (log_meanings code)
  pub after : AllByRecursion (λ entry. code.asked ≤ entry.0) (log_meanings code)
  pub few : code.vars ≤ VAR_LIMIT
  pub each : length code.starts ≡ length code.log.alarms
  pub alarms : length code.log.alarms ≤ code.vars
