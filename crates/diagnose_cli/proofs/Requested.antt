-- What is answered to a question about a model and a log.
use Rattle.std.proofs.Common.{ℕ, List, [], ◌∷◌, Result}
use Rattle.des_net.specs.Network.{Net}
use Rattle.endings.specs.declared.stop.Stop.{Stop}
use Rattle.log_csv.specs.LogText.{log_of}
use Rattle.log_order.specs.Log.{Log}
use Rattle.model_text.specs.ModelFaults.{network_of}
use Rattle.proof_ledger.specs.Book.{BookEntry}
use Rattle.replay.specs.QuestionSize.{question_size}
use Rattle.diagnose_cli.specs.Commands.{asking}
use Rattle.diagnose_cli.specs.Due.{ClosesOnce, EndsBySize, MayReply}
use Rattle.diagnose_cli.specs.FilesRead.{IsCaseRead}
use Rattle.diagnose_cli.specs.Questions.{AnswersTo, NamedQuestion}
use Rattle.diagnose_cli.specs.Tasks.{Reply, Task}
use Rattle.diagnose_cli.proofs.Limits.{ends_weaker}
use Rattle.diagnose_cli.proofs.ReadOver.{over_case}

-- how it ends, by its size
pub closes_asked : (question : NamedQuestion) (steps : ℕ) (last : question.Word) (words : List (List ℕ)) (book : List BookEntry) (texts : List (List ℕ)) (net : Net) (log : Log) → IsCaseRead texts net log
    → (r : Result Reply Stop) → EndsBySize (question_size net log steps) (AnswersTo question last net log steps book) r → ClosesOnce ((asking question).task (steps, last)) words book texts r
closes_asked question steps last words book texts net log read r =
    let asked : Task Reply = (asking question).task (steps, last) in
    over_case (λ ts. ClosesOnce asked words book ts r) texts (λ n l. EndsBySize (question_size n l steps) (AnswersTo question last n l steps book) r)
    (λ text alarms. ends_weaker (question_size (network_of text) (log_of alarms) steps) (AnswersTo question last (network_of text) (log_of alarms) steps book) (MayReply asked words book (text ∷ alarms ∷ [])) r (λ reply answers. record { says = answers; decided = answers.decided })) net log read
