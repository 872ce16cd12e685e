-- The reply that tells what is found replays.
use Rattle.std.proofs.Common.{◌≤◌, ℕ, List, length, Option, Some, None, IfSome, sym, subst}
use Rattle.des_net.specs.Building.{IsDraft}
use Rattle.des_net.specs.Network.{Net, IsNetwork}
use Rattle.answers.specs.declared.found.Best.{Best}
use Rattle.answers.specs.declared.found.Found.{Found}
use Rattle.answers.specs.declared.found.Found.TheVariants.{Explained, Many, Undecided}
use Rattle.answers.specs.Explanations.{IsExplanation}
use Rattle.least_faults.specs.Answers.{IsFound}
use Rattle.log_order.specs.Adding.{IsLog}
use Rattle.log_order.specs.Log.{Log}
use Rattle.proof_ledger.specs.Book.{BookEntry}
use Rattle.prop_core.specs.VariableNames.{Meaning}
use Rattle.replay.specs.Replayed.{IsAccepted}
use Rattle.replay.specs.declared.run.RunStep.{RunStep}
use Rattle.report.specs.Replies.{text_of_found, told_run}
use Rattle.run_decode.specs.QuestionAxioms.{BuiltQuestion}
use Rattle.diagnose_cli.specs.Replies.{Replays, RunReplays}
use Rattle.report.specs.ReadBack.{IsPrintable, IsRunText}
use Rattle.report.proofs.PrintedLengths.{replies_fit}
use Rattle.report.proofs.ReadsBack.{replies_read_back}
use Rattle.diagnose_cli.proofs.PrintableRuns.{explained_printable}

module _ (names : List (ℕ × Meaning)) (first : BuiltQuestion) (since : List BookEntry) (net : Net) (log : Log) (n budget : ℕ) where
  -- the run that is told explains the log,
  told_explains : (found : Found) → IsFound names first since net log n budget found → IfSome (told_run found) (IsExplanation net log n)
  told_explains (Explained best) h = h.given
  told_explains (Many best) h = h.given
  told_explains (Undecided lo (Some best)) h = h.given.0
  told_explains _ h = tt

  -- so its reply replays, which reads back as that run
  pub run_replays : (found : Found) → IsNetwork net → IsDraft net → IsLog log → n ≤ 1000 → IsFound names first since net log n budget found → RunReplays net log n found
  run_replays found network whole log_whole few h = by (told_run found) (told_explains found h) (replies_read_back net n found whole) (replies_fit net n found whole)
    where
      reply : List ℕ
      reply = text_of_found net n found

      by : (o : Option Best) → IfSome o (IsExplanation net log n) → IfSome o (λ best. IsPrintable net best.run → IsRunText net best.run reply) → IfSome o (λ best. IsPrintable net best.run → length reply ≤ 536870912) → IfSome o (λ best. Replays net log n reply best.faults)
      by None given reads fits = tt
      by (Some best) given reads fits =
          let fine = explained_printable net log n best.run network whole log_whole few given.matched given.explains in
          record {
            fits = fits fine;
            well = (reads fine).well;
            accepted = subst (λ (steps : List RunStep). IsAccepted net log steps n best.faults) (sym (reads fine).value) (record { matched = given.matched; explains = given.explains; faults_are = sym given.faults });
          }
