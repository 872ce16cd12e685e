-- What each command with one reply may say over the bytes of its files.
use Rattle.std.specs.Prelude.{◌≡◌, ◌↔◌, ℕ, zero, suc, ◌+◌, ◌^◌, ◌≤◌, List, ◌++◌, length, take, codes, ◌==◌, Option, Some, None, IfSome}
use Rattle.std.specs.List.{position_or_len}
use Rattle.des_net.specs.Network.{Net}
use Rattle.gen_plant.specs.Plant.{plant_net, plant_log}
use Rattle.model_text.specs.ModelFaults.{network_of}
use Rattle.model_text.specs.PrintedModel.{model_text}
use Rattle.model_text.specs.ReadBack.{ReadsBack}
use Rattle.replay.specs.RunText.{run_of, first_run_fault}
use Rattle.answers.specs.declared.found.Found.{Found}
use Rattle.answers.specs.declared.found.Found.TheVariants.{Explained, Absent as NotExplained, Many as ManyFaults, Undecided as NotDecided}
use Rattle.log_order.specs.Adding.{names_of}
use Rattle.log_order.specs.Log.{Log as AlarmLog}
use Rattle.log_csv.specs.LogText.{log_of}
use Rattle.log_csv.specs.PrintedLog.{log_text}
use Rattle.proof_ledger.specs.Book.{BookEntry}
use Rattle.proof_ledger.specs.Checking.{check_proof}
use Rattle.proof_ledger.specs.declared.checker.ProofStep.{ProofStep}
use Rattle.proof_ledger.specs.declared.checker.Checked.{Checked}
use Rattle.proof_ledger.specs.declared.checker.Checked.TheVariants.{Verified, Rejected as Fails}
use Rattle.proof_text.specs.CnfText.{Formula, formula_of}
use Rattle.proof_text.specs.LratText.{proof_of}
use Rattle.proof_text.specs.PrintedText.{formula_text, steps_text, KeepsLimits, IsFormulaText}
use Rattle.replay.specs.QuestionSize.{question_size, variable_bound}
use Rattle.replay.specs.Replayed.{IsReplayed, IsAccepted}
use Rattle.replay.specs.declared.replaying.Replayed.{Replayed}
use Rattle.replay.specs.declared.replaying.Replayed.TheVariants.{Accepted, Stuck as AtEvent, BadAlarm, Missing, Order, TooWide}
use Rattle.replay.specs.Traced.{IsTraced}
use Rattle.replay.specs.declared.tracing.Traced.{Traced}
use Rattle.replay.specs.declared.tracing.Traced.TheVariants.{Ran, Stuck}
use Rattle.report.specs.Replies.{text_of_traced, text_of_replayed, text_of_checked, text_of_found, told_run}
use Rattle.telling.specs.Lines.{line_with_number}
use Rattle.endings.specs.declared.ending.Kind.{Kind}
use Rattle.endings.specs.declared.ending.Kind.TheVariants.{Done, Rejected, Absent, Undecided, Many, Nothing}
use Rattle.inquiries.specs.Diagnosed.{IsDiagnosed}
use Rattle.inquiries.specs.Formula.{IsFormulaOf, question_formula}
use Rattle.inquiries.specs.Refuted.{IsVerifiedRefutation}
use Rattle.diagnose_cli.specs.ProofText.{IsCheckedText, proof_head}
use Rattle.endings.specs.Texts.{limit_of, run}
use Rattle.replay.specs.declared.TheConstants.{MOST_FAULTS}

-- a run that the network can perform is the yes of `trace`; one that gets stuck is rejected
abbrev pub kind_of_traced : Traced → Kind
kind_of_traced (Ran faults) = Done
kind_of_traced (Stuck at) = Rejected

-- the reply of `trace` to what tracing a run tells
abbrev pub reply_of_traced : Traced → Kind × List ℕ
reply_of_traced traced = (kind_of_traced traced, text_of_traced traced)

-- the reply tells what tracing the word of the run text on the network of the model text tells
pub record SaysTraced (text steps : List ℕ) (reply : Kind × List ℕ) : Type 0 where
  pub traced : Traced
  pub holds : IsTraced (network_of text) (run_of (network_of text) steps) traced
  pub is : reply ≡ reply_of_traced traced

-- the plain form of a network
abbrev pub reply_of_model : Net → Kind × List ℕ
reply_of_model net = (Done, model_text net)

-- the reply has the plain form of the network, and read again that says the same network
pub record SaysModel (net : Net) (reply : Kind × List ℕ) : Type 0 where
  pub is : reply ≡ reply_of_model net
  pub again : ReadsBack net

-- an accepted run is the yes of `replay`; any other is rejected, whatever is wrong with it
abbrev pub kind_of_replayed : Replayed → Kind
kind_of_replayed (Accepted faults) = Done
kind_of_replayed (AtEvent at) = Rejected
kind_of_replayed (BadAlarm at) = Rejected
kind_of_replayed (Missing alarm) = Rejected
kind_of_replayed (Order first second) = Rejected
kind_of_replayed (TooWide pieces) = Rejected

-- the reply of `replay` to what replaying a run tells, with the names of the log's alarms
abbrev pub reply_of_replayed : List (List ℕ) → Replayed → Kind × List ℕ
reply_of_replayed names replayed = (kind_of_replayed replayed, text_of_replayed names replayed)

-- The reply tells what replaying the run of the run text against the log of the log text tells, within this many parallel steps. The run is accepted exactly
-- if it is well matched and explains the log, with its number of faults.
pub record SaysReplayed (steps : ℕ) (text alarms events : List ℕ) (reply : Kind × List ℕ) : Type 0 where
  pub replayed : Replayed
  pub holds : IsReplayed (network_of text) (log_of alarms) (run_of (network_of text) events) steps replayed
  pub accepted : (faults : ℕ) → (replayed ≡ Accepted faults) ↔ IsAccepted (network_of text) (log_of alarms) (run_of (network_of text) events) steps faults
  pub is : reply ≡ reply_of_replayed (names_of (log_of alarms).alarms) replayed

-- a verified proof is the yes of `check`; any other is rejected
abbrev pub kind_of_checked : Checked → Kind
kind_of_checked Verified = Done
kind_of_checked (Fails line kind) = Rejected

-- the reply of `check` to what checking a proof tells
abbrev pub reply_of_checked : Checked → Kind × List ℕ
reply_of_checked checked = (kind_of_checked checked, text_of_checked checked)

-- the reply tells what checking the proof of the proof text over the clauses of the formula text gives
abbrev pub SaysChecked : List ℕ → List ℕ → (Kind × List ℕ) → Type 0
SaysChecked formula proof reply = reply ≡ reply_of_checked (check_proof (formula_of formula).clauses (proof_of proof))

-- a least number of faults is the yes of a question; the other answers have kinds of their own
abbrev pub kind_of_found : Found → Kind
kind_of_found (Explained best) = Done
kind_of_found NotExplained = Absent
kind_of_found (ManyFaults best) = Many
kind_of_found (NotDecided lo best) = Undecided

-- the reply to a question within n steps, by what was found
abbrev pub reply_of_found : Net → ℕ → Found → Kind × List ℕ
reply_of_found net n found = (kind_of_found found, text_of_found net n found)

-- The printed reply is a run text as it stands: `replay` can read it, and accepts its run with this many faults.
pub record Replays (net : Net) (alarms : AlarmLog) (n : ℕ) (reply : List ℕ) (faults : ℕ) : Type 0 where
  pub fits : length reply ≤ limit_of run
  pub well : first_run_fault net reply ≡ None
  pub accepted : IsAccepted net alarms (run_of net reply) n faults

-- where the answer tells a run
abbrev pub RunReplays : Net → AlarmLog → ℕ → Found → Type 0
RunReplays net alarms n found = IfSome (told_run found) (λ best. Replays net alarms n (text_of_found net n found) best.faults)

-- what is found of a question holds, the book that is left shows it, and a run that is found replays
pub record AnswersQuestion (net : Net) (alarms : AlarmLog) (n budget : ℕ) (book : List BookEntry) (found : Found) : Type 0 where
  pub diagnosed : IsDiagnosed net alarms n budget book found
  pub replays : RunReplays net alarms n found

-- the reply tells what is found
pub record SaysFound (net : Net) (alarms : AlarmLog) (n budget : ℕ) (book : List BookEntry) (reply : Kind × List ℕ) : Type 0 where
  pub found : Found
  pub holds : AnswersQuestion net alarms n budget book found
  pub is : reply ≡ reply_of_found net n found

-- the text of a formula
abbrev pub reply_of_formula : Formula → Kind × List ℕ
reply_of_formula f = (Done, formula_text f)

-- The reply has the text of the question's formula, which within the limits of such a file reads back as that formula.
pub record SaysFormula (net : Net) (alarms : AlarmLog) (n : ℕ) (bound : Option ℕ) (book : List BookEntry) (reply : Kind × List ℕ) : Type 0 where
  pub asked : Formula
  pub holds : IsFormulaOf net alarms n bound book asked
  pub is : reply ≡ reply_of_formula asked
  pub again : KeepsLimits asked → IsFormulaText asked (formula_text asked)

-- the steps, behind a comment that names the formula which they refute
abbrev pub reply_of_proof : Option ℕ → List ProofStep → Kind × List ℕ
reply_of_proof bound steps = (Done, proof_head bound ++ steps_text steps)

-- The reply has the refutation of the question within the bound that the book holds. Where the formula that `cnf` prints keeps the limits of such a file, `check` verifies the text of the reply over it.
pub record TellsRefutation (net : Net) (alarms : AlarmLog) (n : ℕ) (bound : Option ℕ) (book : List BookEntry) (reply : Kind × List ℕ) : Type 0 where
  pub steps : List ProofStep
  pub refuted : IsVerifiedRefutation net alarms n bound book steps
  pub is : reply ≡ reply_of_proof bound steps
  pub again : KeepsLimits (question_formula net alarms n bound) → IsCheckedText (question_formula net alarms n bound) reply.1

-- Without faults there is nothing to refute.
abbrev pub TellsBelow : Net → AlarmLog → ℕ → ℕ → List BookEntry → (Kind × List ℕ) → Type 0
TellsBelow net alarms n zero book reply = reply ≡ (Nothing, codes "NOTHING\n")
TellsBelow net alarms n (suc k) book reply = TellsRefutation net alarms n (Some k) book reply

-- by what is found: of one fault less, of any number where nothing explains, and of 255 where more are needed
abbrev pub TellsProof : Net → AlarmLog → ℕ → List BookEntry → Found → (Kind × List ℕ) → Type 0
TellsProof net alarms n book (Explained best) reply = TellsBelow net alarms n best.faults book reply
TellsProof net alarms n book NotExplained reply = TellsRefutation net alarms n None book reply
TellsProof net alarms n book (ManyFaults best) reply = TellsRefutation net alarms n (Some MOST_FAULTS) book reply
TellsProof net alarms n book (NotDecided lo best) reply = reply ≡ reply_of_found net n (NotDecided lo best)

-- the reply tells what refutes the bound below what is found
pub record SaysProved (net : Net) (alarms : AlarmLog) (n budget : ℕ) (book : List BookEntry) (reply : Kind × List ℕ) : Type 0 where
  pub found : Found
  pub holds : AnswersQuestion net alarms n budget book found
  pub tells : TellsProof net alarms n book found reply

-- the budget is at least 3 to the number of variables that network, log and steps allow
abbrev pub IsEnough : ℕ → Net → AlarmLog → ℕ → Type 0
IsEnough budget net alarms n = 3 ^ variable_bound net alarms n ≤ budget

-- the text of a log
abbrev pub reply_of_log : AlarmLog → Kind × List ℕ
reply_of_log alarms = (Done, log_text alarms)

-- up to the end of the first line
abbrev pub first_line : List ℕ → List ℕ
first_line text = take (position_or_len (λ byte. byte == 10) text + 1) text

-- how large a plant is and its question, and then the first line of the reply to the question
abbrev pub summary_of : ℕ → Net → AlarmLog → ℕ → (Kind × List ℕ) → Kind × List ℕ
summary_of units net alarms n reply = (
  reply.0,
  line_with_number (codes "units ") units ++ line_with_number (codes "alarms ") (length alarms.alarms) ++ line_with_number (codes "size ") (question_size net alarms n) ++ first_line reply.1,
)

-- the reply sums up what is found of a plant with this many units, of which the run isn't printed
pub record SaysSummary (units : ℕ) (net : Net) (alarms : AlarmLog) (n budget : ℕ) (book : List BookEntry) (reply : Kind × List ℕ) : Type 0 where
  pub found : Found
  pub holds : AnswersQuestion net alarms n budget book found
  pub is : reply ≡ summary_of units net alarms n (reply_of_found net n found)

-- of a generated plant
abbrev pub SaysBenched : ℕ → ℕ → ℕ → ℕ → List BookEntry → (Kind × List ℕ) → Type 0
SaysBenched units start steps budget book reply = SaysSummary units (plant_net units) (plant_log units start) steps budget book reply
