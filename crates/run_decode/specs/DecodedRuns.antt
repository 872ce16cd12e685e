-- The run that an assignment gives, and its faults.
use Rattle.std.specs.Prelude.{◌≡◌, ℕ, Bool, List, length, Some, count_by}
use Rattle.card_counter.specs.Counting.{true_count}
use Rattle.des_net.specs.Network.{Net, IsNetwork}
use Rattle.des_net.specs.Width.{joined}
use Rattle.question_clauses.specs.Decoded.{decoded, decoded_order}
use Rattle.question_clauses.specs.LogCodes.{AreAmong}
use Rattle.question_clauses.specs.LogLaws.{HasFalse}
use Rattle.replay.specs.Explanation.{Entry, faults_of}
use Rattle.question_clauses.specs.LogCodeLaws.{IsDecoded, IsUnboundedQuestion, MakesQuestionTrue}
use Rattle.log_order.specs.Log.{Log, ListsOnce, Keeps, IsValidLog}
use Rattle.prop_core.specs.Clauses.{Clause}
use Rattle.prop_core.specs.NamedClauses.{named_true, value_by}
use Rattle.prop_core.specs.VariableNames.{Meaning, HasEachOnce, named_clause}
use Rattle.prop_core.specs.declared.lit.Lit.{Lit}
use Rattle.question_clauses.specs.Steps.{AreSteps}
use Rattle.run_decode.specs.Drawn.{fault_inputs}

-- how many fault events happen in the steps, and doubtful alarms are false, by the truth of their meanings
abbrev pub true_faults : Net → Log → ℕ → (Meaning → Bool) → ℕ
true_faults net log n value = count_by (named_true value) (fault_inputs net log n)

-- The events of the steps, each step in whatever order, with an order of alarms have as many faults as meanings of fault events and of false alarms are true.
abbrev pub FaultsAreInputs : Type 0
FaultsAreInputs = (net : Net) (log : Log) (n : ℕ) (value : Meaning → Bool) (pieces : List (List ℕ)) (order : List Entry) → AreSteps net n value pieces → HasFalse log value order → faults_of net (joined pieces) order ≡ true_faults net log n value

-- the literals are, by these meanings, the inputs of the counter
abbrev pub AreFaultLiterals : List (ℕ × Meaning) → Net → Log → ℕ → List Lit → Type 0
AreFaultLiterals meanings net log n inputs = named_clause meanings inputs ≡ Some (fault_inputs net log n)

-- The pieces and the order of alarms that the assignment gives explain the log, with as many faults as inputs of the counter are true.
pub record GivesExplanation (net : Net) (log : Log) (n : ℕ) (meanings : List (ℕ × Meaning)) (assignment : ℕ → Bool) (alarms : List ℕ) : Type 0 where
  pub gives : IsDecoded net log n (value_by meanings assignment) alarms
  pub faults : faults_of net (joined (decoded net log (value_by meanings assignment) alarms n)) (decoded_order net log (value_by meanings assignment) alarms n) ≡ true_faults net log n (value_by meanings assignment)
  pub fault_variables : (inputs : List Lit) → AreFaultLiterals meanings net log n inputs →
      faults_of net (joined (decoded net log (value_by meanings assignment) alarms n)) (decoded_order net log (value_by meanings assignment) alarms n) ≡ true_count assignment inputs

-- So it does where it makes the clauses of the steps and of the log true, and the guards, by any order of the alarms that keeps the pairs.
abbrev pub DecodedExplains : Type 0
DecodedExplains = (net : Net) (log : Log) (n : ℕ) (meanings : List (ℕ × Meaning)) (stepped written : List Clause) (assumed : List Lit) (assignment : ℕ → Bool) (alarms : List ℕ) →
    IsNetwork net → IsUnboundedQuestion net log n meanings stepped written assumed → IsValidLog log → ListsOnce (length log.alarms) alarms → Keeps alarms log.pairs →
    MakesQuestionTrue assignment stepped written assumed → GivesExplanation net log n meanings assignment alarms

-- Literals that are the inputs of the counter by some of the meanings still are by all.
abbrev pub FaultLiteralsStay : Type 0
FaultLiteralsStay = (own meanings : List (ℕ × Meaning)) (net : Net) (log : Log) (n : ℕ) (inputs : List Lit) → HasEachOnce meanings → AreAmong own meanings → AreFaultLiterals own net log n inputs → AreFaultLiterals meanings net log n inputs
