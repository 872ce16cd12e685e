-- What the parts of a question ask, with what is assumed: it is faithful and drawn from its families, whatever the names of the log's alarms.
use Rattle.std.proofs.Common.{◌≡◌, ℕ, ◌<◌, ◌≤◌, List, ◌++◌, length, Option, Some, None, IfSome, sym, subst, append-nil}
use Rattle.card_counter.specs.CounterState.{CounterState}
use Rattle.des_base.proofs.Elements.{all_from as all_of}
use Rattle.least_faults.specs.Asking.{AreAssumptions, Pose, bound_part}
use Rattle.least_faults.specs.Evidence.{IsPosed}
use Rattle.least_faults.specs.Parts.{AreParts, AreReady, BelongTo, meanings_of_parts}
use Rattle.des_net.specs.Network.{Net, IsNetwork}
use Rattle.question_clauses.proofs.Lists.{all_at}
use Rattle.log_encode.specs.CodedLog.{CodedLog, read_meanings}
use Rattle.log_order.specs.Log.{Log, IsValidLog}
use Rattle.prop_core.specs.Clauses.{Clause}
use Rattle.prop_core.specs.VariableNames.{Meaning, NamedLiteral, ReadsAs}
use Rattle.prop_core.specs.declared.lit.Lit.{Lit}
use Rattle.replay.specs.QuestionSize.{variable_bound}
use Rattle.run_decode.proofs.FewNames.{together_are_few}
use Rattle.run_decode.proofs.Questions.{instances_of, question_is_faithful}
use Rattle.run_decode.proofs.WholeNames.{together_ask}
use Rattle.run_decode.specs.Drawn.{IsInstance}
use Rattle.run_decode.specs.Question.{Asks, IsNamedQuestion}
use Rattle.run_decode.specs.WholeNaming.{AreClausesOf, AreCodedTogether, whole_meanings, AskTogether}
use Rattle.step_encode.specs.Coded.{CodedSteps}
use Rattle.least_faults.specs.declared.parts.Parts.{Parts}
use Rattle.question_clauses.specs.LogClauses.{guard_literals}
use Rattle.proof_ledger.specs.Book.{BookEntry, axioms_of}

-- what asks a question poses it by the same names
pub asks_poses : (net : Net) (log : Log) (n : ℕ) (bound : Option ℕ) (names : List (ℕ × Meaning)) (clauses : List Clause) (assumed : List Lit) →
    IsNetwork net → IsValidLog log → Asks net log n bound names clauses assumed → IsPosed names clauses assumed net log n bound
asks_poses net log n bound names clauses assumed network valid asks = record {
  faithful = question_is_faithful net log n bound names clauses assumed network valid asks;
  once = asks.question.once;
  instances = all_of (IsInstance net log n names) clauses (λ clause here.
      let found = all_at (λ c. (named : List NamedLiteral) × IsNamedQuestion net log n asks.columns named × ReadsAs names c named) clauses asks.question.code.only clause here in
      (found.0, instances_of net log n asks.columns found.0 found.1, found.2));
  assumes = asks.assumes;
}

-- clauses of the parts and assumptions ask
pub clauses_ask : (steps : CodedSteps) (code : CodedLog) (counter : CounterState) (axioms : List Clause) (bound : Option ℕ) (assumed : List Lit) → AreCodedTogether steps code counter → AreClausesOf steps code counter axioms →
    AreAssumptions code counter bound assumed → Asks steps.net code.log steps.steps bound (whole_meanings steps code counter) axioms assumed
clauses_ask steps code counter axioms bound assumed together clauses assumptions = subst (Asks steps.net code.log steps.steps bound (whole_meanings steps code counter) axioms) (sym assumptions.whole) (by bound assumptions.column)
  where
    ask : AskTogether steps code counter axioms assumptions.guards
    ask = together_ask steps code counter axioms assumptions.guards together clauses assumptions.read

    by : (b : Option ℕ) → IfSome b (λ k. k < length counter.columns) → Asks steps.net code.log steps.steps b (whole_meanings steps code counter) axioms (assumptions.guards ++ bound_part counter b)
    by None there = subst (Asks steps.net code.log steps.steps None (whole_meanings steps code counter) axioms) (sym (append-nil assumptions.guards)) ask.unbounded
    by (Some k) there = ask.bounded k there

-- and so they do of a log that is the coded one
pub clauses_ask_of : (steps : CodedSteps) (code : CodedLog) (counter : CounterState) (axioms : List Clause) (bound : Option ℕ) (assumed : List Lit) (log : Log) → AreCodedTogether steps code counter → AreClausesOf steps code counter axioms →
    AreAssumptions code counter bound assumed → code.log ≡ log → Asks steps.net log steps.steps bound (whole_meanings steps code counter) axioms assumed
clauses_ask_of steps code counter axioms bound assumed log together clauses assumptions same =
    subst (λ l. Asks steps.net l steps.steps bound (whole_meanings steps code counter) axioms assumed) same (clauses_ask steps code counter axioms bound assumed together clauses assumptions)

pub clauses_pose : (steps : CodedSteps) (code : CodedLog) (counter : CounterState) (axioms : List Clause) (bound : Option ℕ) (assumed : List Lit) → AreCodedTogether steps code counter → AreClausesOf steps code counter axioms →
    AreAssumptions code counter bound assumed → Pose steps code counter axioms bound assumed
clauses_pose steps code counter axioms bound assumed together clauses assumptions log network valid same =
    asks_poses steps.net log steps.steps bound (whole_meanings steps code counter) axioms assumed network valid (clauses_ask_of steps code counter axioms bound assumed log together clauses assumptions same)

pub poses : (steps : CodedSteps) (code : CodedLog) (counter : CounterState) (vars : ℕ) (axioms : List Clause) (bound : Option ℕ) (assumed : List Lit) → AreParts steps code counter vars axioms →
    AreAssumptions code counter bound assumed → Pose steps code counter axioms bound assumed
poses steps code counter vars axioms bound assumed parts assumptions = clauses_pose steps code counter axioms bound assumed parts.together parts.clauses assumptions

-- with its guards the parts ask a question without a bound
pub unbounded : {R : Type 0} (may : R → ℕ → Type 0) (gives : R → ℕ → ℕ → Type 0) (parts : Parts R) (book : List BookEntry) (net : Net) (log : Log) (guards : List Lit) → AreReady may gives parts book → BelongTo net log parts → IsNetwork net → IsValidLog log →
    ReadsAs (read_meanings parts.code.coded) guards (guard_literals parts.code.coded.net parts.code.coded.log) → IsPosed (meanings_of_parts parts) (axioms_of book) guards net log parts.step.steps None
unbounded may gives parts book net log guards ready belong network valid read =
    subst (λ net'. IsPosed (meanings_of_parts parts) (axioms_of book) guards net' log parts.step.steps None) belong.of_steps
    (poses parts.step parts.code.coded parts.counter parts.vars (axioms_of book) None guards ready.coded (record { guards = guards; read = read; whole = sym (append-nil guards); column = tt })
    log (subst IsNetwork (sym belong.of_steps) network) valid belong.same_log)

-- they have no more names than network, log and n allow
pub names_few : {R : Type 0} (may : R → ℕ → Type 0) (gives : R → ℕ → ℕ → Type 0) (parts : Parts R) (book : List BookEntry) (net : Net) (log : Log) → AreReady may gives parts book → BelongTo net log parts → length parts.counter.columns ≤ 256 → length (meanings_of_parts parts) ≤ variable_bound net log parts.step.steps
names_few may gives parts book net log ready belong few =
    subst (λ net'. length (meanings_of_parts parts) ≤ variable_bound net' log parts.step.steps) belong.of_steps (together_are_few parts.step parts.code.coded parts.counter log ready.coded.together belong.same_log few)
