-- What each status of `verdicts` tells, by the words and the bytes that the shelf holds under the names of its files.
use Rattle.std.specs.Prelude.{◌≡◌, ◌⊎◌, ◌≤◌, ℕ, List, [], ◌∷◌}
use Rattle.des_base.specs.Outside.{Took}
use Rattle.des_net.specs.Network.{Net}
use Rattle.answers.specs.declared.verdict.Verdict.{Verdict}
use Rattle.answers.specs.declared.found.Found.{Found}
use Rattle.log_csv.specs.LogText.{log_of}
use Rattle.log_order.specs.Log.{Log}
use Rattle.model_text.specs.ModelFaults.{network_of}
use Rattle.replay.specs.Explanation.{IsAbsent, IsMany}
use Rattle.verdict_telling.specs.Deciding.{IsSmallFor}
use Rattle.verdict_telling.specs.Whole.{HaveReplies, events_behind, told_of}
use Rattle.endings.specs.Endings.{status_of_kind}
use Rattle.diagnose_cli.specs.Commands.{verdicts}
use Rattle.diagnose_cli.specs.Outcomes.{Outcome, IsUnbroken}
use Rattle.diagnose_cli.specs.Rows.{CallsWith, ReadsFiles}
use Rattle.diagnose_cli.specs.VerdictReplies.{kind_of_told}

-- What was taken are all replies: what was found, with the book that shows it, and the verdict on each fault event behind a least number of faults. The status is that of the first, or 11 where some event is left open.
pub record TellsInAll (o : Outcome) (net : Net) (alarms : Log) (n budget : ℕ) : Type 0 where
  pub found : Found
  pub verdicts : List Verdict
  pub texts : List (List ℕ)
  pub have : HaveReplies net alarms n budget found (events_behind net found) o.book verdicts texts
  pub shown : o.status ≡ status_of_kind (kind_of_told (told_of found verdicts))
  pub put : Took o.before o.now texts

-- the status is that of an answer
abbrev pub IsAnswerStatus : ℕ → Type 0
IsAnswerStatus status = (status ≡ 0) ⊎ ((10 ≤ status) × (status ≤ 12))

-- Where its files can be read it answers so. Over whatever two texts the shelf tells it does so by the status: nothing explains the log where it is 10, and all that explains it has more than 255 faults where it is 12. Where it is 11 the budget is below 3 to the number of the book's variables, so that one from there on leaves nothing open.
pub record VerdictRows (o : Outcome) : Type 0 where
  pub judged : (steps budget : ℕ) (text alarms : List ℕ) → ReadsFiles o verdicts (record { steps = steps; budget = budget }) (text ∷ alarms ∷ []) → IsUnbroken o.status → TellsInAll o (network_of text) (log_of alarms) steps budget
  pub told : (steps budget : ℕ) (text alarms : List ℕ) → CallsWith o verdicts (record { steps = steps; budget = budget }) (text ∷ alarms ∷ []) → IsAnswerStatus o.status → TellsInAll o (network_of text) (log_of alarms) steps budget
  pub absent : (steps budget : ℕ) (text alarms : List ℕ) → CallsWith o verdicts (record { steps = steps; budget = budget }) (text ∷ alarms ∷ []) → o.status ≡ 10 → IsAbsent (network_of text) (log_of alarms) steps
  pub many : (steps budget : ℕ) (text alarms : List ℕ) → CallsWith o verdicts (record { steps = steps; budget = budget }) (text ∷ alarms ∷ []) → o.status ≡ 12 → IsMany (network_of text) (log_of alarms) steps
  pub undecided : (steps budget : ℕ) (text alarms : List ℕ) → CallsWith o verdicts (record { steps = steps; budget = budget }) (text ∷ alarms ∷ []) → o.status ≡ 11 → IsSmallFor o.book budget
