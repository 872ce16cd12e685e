-- Clauses and assumptions that ask a question say what it asks, and are drawn from its families.
use Rattle.std.specs.Prelude.{◌↔◌, ◌⊎◌, ℕ, ◌<◌, Bool, List, [], ◌∷◌, ◌++◌, length, Option, Some, Contains}
use Rattle.des_net.specs.Network.{Net, IsNetwork}
use Rattle.replay.specs.Explanation.{faults_of}
use Rattle.des_net.specs.Width.{joined}
use Rattle.card_counter.specs.CounterClauses.{IsNamedCount}
use Rattle.card_counter.specs.CounterState.{CounterState, IsCounter, bound_literal}
use Rattle.card_counter.specs.Counting.{IsNamedBy}
use Rattle.question_clauses.specs.Additions.{Addition, with_addition}
use Rattle.question_clauses.specs.Decoded.{decoded, decoded_order}
use Rattle.question_clauses.specs.LogClauses.{guard_literals}
use Rattle.question_clauses.specs.LogCodes.{IsNamedLog, AreAmong}
use Rattle.log_order.specs.Log.{Log, ListsOnce, Keeps, IsValidLog}
use Rattle.prop_core.specs.Clauses.{Clause}
use Rattle.prop_core.specs.NamedClauses.{value_by}
use Rattle.prop_core.specs.VariableNames.{Meaning, HasEachOnce, ReadsAs}
use Rattle.prop_core.specs.declared.lit.Lit.{Lit}
use Rattle.question_clauses.specs.StepCodes.{IsNamedStep}
use Rattle.run_decode.specs.DecodedRuns.{GivesExplanation}
use Rattle.run_decode.specs.Drawn.{IsInstance, IsDrawn, fault_inputs, bound_literals, assumption_literals}
use Rattle.run_decode.specs.Faithful.{IsWithin, MakesTrue, IsFaithful}
use Rattle.run_decode.specs.Question.{IsQuestion, Asks, IsCodeAmong, IsReadAmong}

-- What asks a question over a network and a valid log is faithful.
abbrev pub QuestionIsFaithful : Type 0
QuestionIsFaithful = (net : Net) (log : Log) (n : ℕ) (bound : Option ℕ) (meanings : List (ℕ × Meaning)) (clauses : List Clause) (assumed : List Lit) →
    IsNetwork net → IsValidLog log → Asks net log n bound meanings clauses assumed → IsFaithful clauses assumed net log n bound

-- It is drawn from the families.
abbrev pub QuestionIsDrawn : Type 0
QuestionIsDrawn = (net : Net) (log : Log) (n : ℕ) (bound : Option ℕ) (meanings : List (ℕ × Meaning)) (clauses : List Clause) (assumed : List Lit) →
    Asks net log n bound meanings clauses assumed → IsDrawn clauses assumed net log n bound

-- The assignment gives an explanation within the bound, with this order of the alarms.
pub record GivesWithin (net : Net) (log : Log) (n : ℕ) (bound : Option ℕ) (meanings : List (ℕ × Meaning)) (assignment : ℕ → Bool) (alarms : List ℕ) : Type 0 where
  pub explanation : GivesExplanation net log n meanings assignment alarms
  pub within : IsWithin bound (faults_of net (joined (decoded net log (value_by meanings assignment) alarms n)) (decoded_order net log (value_by meanings assignment) alarms n))

-- So does one that makes clauses and assumptions of a question true, by any order of the alarms that keeps the pairs.
abbrev pub QuestionGivesExplanations : Type 0
QuestionGivesExplanations = (net : Net) (log : Log) (n : ℕ) (bound : Option ℕ) (meanings : List (ℕ × Meaning)) (clauses : List Clause) (assumed : List Lit) (assignment : ℕ → Bool) (alarms : List ℕ) →
    IsNetwork net → IsValidLog log → ListsOnce (length log.alarms) alarms → Keeps alarms log.pairs →
    Asks net log n bound meanings clauses assumed → MakesTrue assignment clauses assumed → GivesWithin net log n bound meanings assignment alarms

-- ---- growth

-- An instance stays one when the log gets a further alarm or pair, and further variables get meanings.
abbrev pub InstancesStay : Type 0
InstancesStay = (net : Net) (log : Log) (n : ℕ) (addition : Addition) (meanings more : List (ℕ × Meaning)) (clause : Clause) → HasEachOnce more → AreAmong meanings more →
    IsInstance net log n meanings clause → IsInstance net (with_addition log addition) n more clause

-- ---- parts

-- Clauses that are those of the three parts, each by some of the meanings, are those of the question,
abbrev pub PartsMakeQuestion : Type 0
PartsMakeQuestion = (net : Net) (log : Log) (n columns : ℕ) (meanings : List (ℕ × Meaning)) (clauses stepped logged counted : List Clause) → HasEachOnce meanings →
    IsCodeAmong meanings (IsNamedStep net n) stepped → IsCodeAmong meanings (IsNamedLog net log n) logged → IsCodeAmong meanings (IsNamedCount (fault_inputs net log n) columns) counted →
    ((clause : Clause) → Contains clauses clause ↔ Contains stepped clause ⊎ (Contains logged clause ⊎ Contains counted clause)) →
    IsQuestion net log n columns meanings clauses

-- and guards and bound are assumed together.
abbrev pub PartsAreAssumed : Type 0
PartsAreAssumed = (net : Net) (log : Log) (n : ℕ) (bound : Option ℕ) (meanings : List (ℕ × Meaning)) (guards bounds : List Lit) → HasEachOnce meanings →
    IsReadAmong meanings guards (guard_literals net log) → IsReadAmong meanings bounds (bound_literals net log n bound) →
    ReadsAs meanings (guards ++ bounds) (assumption_literals net log n bound)

-- the literal for at most k, by a counter of the faults, is the bound
abbrev pub BoundIsRead : Type 0
BoundIsRead = (net : Net) (log : Log) (n : ℕ) (meanings : List (ℕ × Meaning)) (state : CounterState) (k : ℕ) → IsCounter state → IsNamedBy meanings (fault_inputs net log n) state → k < length state.columns →
    ReadsAs meanings (bound_literal state k ∷ []) (bound_literals net log n (Some k))
