-- What assignments of variables make the code of a log true: with its guards exactly explanations, and without them every run.
use Rattle.std.specs.Prelude.{◌≡◌, ℕ, Bool, false, List, length, option_map, unwrap_or}
use Rattle.des_net.specs.Network.{Net, IsNetwork}
use Rattle.des_net.specs.Run.{IsRun}
use Rattle.des_net.specs.Width.{joined, IsCutInto}
use Rattle.log_order.specs.Log.{Log, ListsOnce, Keeps, IsValidLog}
use Rattle.question_clauses.specs.Decoded.{decoded, decoded_order}
use Rattle.question_clauses.specs.LogClauses.{guard_literals}
use Rattle.question_clauses.specs.LogCodes.{IsNamedLog}
use Rattle.question_clauses.specs.LogLaws.{IsArranged, AreMatched, HasFalse}
use Rattle.question_clauses.specs.LogTruth.{is_of_log}
use Rattle.prop_core.specs.Clauses.{Clause, AllClausesTrue, AllLiteralsTrue}
use Rattle.prop_core.specs.NamedClauses.{IsCode, value_by}
use Rattle.prop_core.specs.VariableNames.{Meaning, meaning_of, HasEachOnce, ReadsAs}
use Rattle.prop_core.specs.declared.lit.Lit.{Lit}
use Rattle.replay.specs.Explanation.{Entry, Linearises, Explains}
use Rattle.question_clauses.specs.StepCodes.{IsNamedStep}
use Rattle.question_clauses.specs.Steps.{AreSteps}

-- by these meanings, each with one variable, the clauses are those of the log, and what is assumed are its guards
pub record IsLogCode (net : Net) (log : Log) (n : ℕ) (meanings : List (ℕ × Meaning)) (written : List Clause) (assumed : List Lit) : Type 0 where
  pub once : HasEachOnce meanings
  pub clauses : IsCode meanings (IsNamedLog net log n) written
  pub guards : ReadsAs meanings assumed (guard_literals net log)

-- the variable is one of the log alone
abbrev pub is_log_variable : List (ℕ × Meaning) → ℕ → Bool
is_log_variable meanings var = unwrap_or (option_map is_of_log (meaning_of meanings var)) false

-- the same truth for all variables but those of the log alone
abbrev pub DifferInLogVariables : List (ℕ × Meaning) → (ℕ → Bool) → (ℕ → Bool) → Type 0
DifferInLogVariables meanings given assignment = (var : ℕ) → is_log_variable meanings var ≡ false → assignment var ≡ given var

-- the assignment makes the clauses of a log and its guards true
pub record MakesLogTrue (assignment : ℕ → Bool) (written : List Clause) (assumed : List Lit) : Type 0 where
  pub clauses : AllClausesTrue assignment written
  pub guards : AllLiteralsTrue assignment assumed

-- by these meanings clauses and guards say exactly which steps linearise the log, and the clauses alone allow whatever events happen
pub record IsExactLogCode (net : Net) (log : Log) (n : ℕ) (meanings : List (ℕ × Meaning)) (written : List Clause) (assumed : List Lit) : Type 0 where
  -- If clauses and guards are true, the sets of the steps, arranged by any order of the alarms that keeps the pairs, linearise the log.
  pub sound : (assignment : ℕ → Bool) (pieces : List (List ℕ)) (alarms : List ℕ) → IsValidLog log → ListsOnce (length log.alarms) alarms → Keeps alarms log.pairs →
      AreSteps net n (value_by meanings assignment) pieces → MakesLogTrue assignment written assumed → IsArranged net log n (value_by meanings assignment) alarms pieces
  -- If the sets of the steps in some order linearise the log, clauses and guards can be made true by a change of variables of the log alone, with as many false alarms.
  pub complete : (given : ℕ → Bool) (pieces : List (List ℕ)) (order : List Entry) → AreSteps net n (value_by meanings given) pieces → Linearises net log (joined pieces) order →
      (assignment : ℕ → Bool) × DifferInLogVariables meanings given assignment × MakesLogTrue assignment written assumed × HasFalse log (value_by meanings assignment) order
  -- True alarms and events that happen go together one by one.
  pub matched : (assignment : ℕ → Bool) → MakesLogTrue assignment written assumed → AreMatched net log n (value_by meanings assignment)
  -- Whatever events happen, the clauses can be made true by such a change where no guard is assumed.
  pub unguarded : (given : ℕ → Bool) → (assignment : ℕ → Bool) × DifferInLogVariables meanings given assignment × AllClausesTrue assignment written

-- The code of a log is exact.
abbrev pub LogCodeIsExact : Type 0
LogCodeIsExact = (net : Net) (log : Log) (n : ℕ) (meanings : List (ℕ × Meaning)) (written : List Clause) (assumed : List Lit) →
    IsLogCode net log n meanings written assumed → IsExactLogCode net log n meanings written assumed

-- ---- together with the steps

-- by the same meanings the clauses of the steps and of the log, with its guards: a question that sets no bound on faults
pub record IsUnboundedQuestion (net : Net) (log : Log) (n : ℕ) (meanings : List (ℕ × Meaning)) (stepped written : List Clause) (assumed : List Lit) : Type 0 where
  pub steps : IsCode meanings (IsNamedStep net n) stepped
  pub log_code : IsLogCode net log n meanings written assumed

-- the assignment makes the clauses of the steps, of the log, and its guards true
pub record MakesQuestionTrue (assignment : ℕ → Bool) (stepped written : List Clause) (assumed : List Lit) : Type 0 where
  pub steps : AllClausesTrue assignment stepped
  pub log_true : MakesLogTrue assignment written assumed

-- Each explanation, cut into pieces, has an assignment that makes all true, and whose event variables are those of the pieces, and as many alarms are false by it.
abbrev pub ExplanationsAreCoded : Type 0
ExplanationsAreCoded = (net : Net) (log : Log) (n : ℕ) (meanings : List (ℕ × Meaning)) (stepped written : List Clause) (assumed : List Lit) (word : List ℕ) (order : List Entry) (pieces : List (List ℕ)) →
    IsNetwork net → IsUnboundedQuestion net log n meanings stepped written assumed →
    IsRun net word → length pieces ≡ n → IsCutInto net word pieces → Linearises net log word order →
    (assignment : ℕ → Bool) × AreSteps net n (value_by meanings assignment) pieces × MakesQuestionTrue assignment stepped written assumed × HasFalse log (value_by meanings assignment) order

-- the pieces and the order that a truth of meanings gives explain the log, and are its steps
pub record IsDecoded (net : Net) (log : Log) (n : ℕ) (value : Meaning → Bool) (alarms : List ℕ) : Type 0 where
  pub steps : AreSteps net n value (decoded net log value alarms n)
  pub explains : Explains net log n (joined (decoded net log value alarms n)) (decoded_order net log value alarms n)
  pub false_alarms : HasFalse log value (decoded_order net log value alarms n)

-- Each assignment that makes all true gives an explanation, by any order of the alarms that keeps the pairs.
abbrev pub AssignmentsExplain : Type 0
AssignmentsExplain = (net : Net) (log : Log) (n : ℕ) (meanings : List (ℕ × Meaning)) (stepped written : List Clause) (assumed : List Lit) (assignment : ℕ → Bool) (alarms : List ℕ) →
    IsNetwork net → IsUnboundedQuestion net log n meanings stepped written assumed → IsValidLog log → ListsOnce (length log.alarms) alarms → Keeps alarms log.pairs →
    MakesQuestionTrue assignment stepped written assumed → IsDecoded net log n (value_by meanings assignment) alarms

-- Each run that fits n steps, whatever events of it can be seen, has an assignment that makes all clauses true where no guard is assumed.
abbrev pub RunsStayOpen : Type 0
RunsStayOpen = (net : Net) (log : Log) (n : ℕ) (meanings : List (ℕ × Meaning)) (stepped written : List Clause) (assumed : List Lit) (word : List ℕ) (pieces : List (List ℕ)) →
    IsNetwork net → IsUnboundedQuestion net log n meanings stepped written assumed → IsRun net word → length pieces ≡ n → IsCutInto net word pieces →
    (assignment : ℕ → Bool) × AreSteps net n (value_by meanings assignment) pieces × AllClausesTrue assignment stepped × AllClausesTrue assignment written
