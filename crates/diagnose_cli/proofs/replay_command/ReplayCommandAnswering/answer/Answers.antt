-- What replaying tells.
use Rattle.std.proofs.Common.{◌≡◌, List, Ok, subst}
use Rattle.des_net.specs.Network.{Net}
use Rattle.log_csv.specs.LogText.{log_of}
use Rattle.log_order.specs.Adding.{names_of}
use Rattle.log_order.specs.Log.{Log}
use Rattle.model_text.specs.ModelFaults.{network_of}
use Rattle.replay.proofs.AcceptLemmas.{accepted_where}
use Rattle.replay.specs.Replayed.{IsReplayed}
use Rattle.replay.specs.RunText.{run_of}
use Rattle.replay.specs.declared.replaying.Replayed.{Replayed}
use Rattle.replay.specs.declared.run.RunStep.{RunStep}
use Rattle.diagnose_cli.specs.Commands.{replay}
use Rattle.diagnose_cli.specs.Due.{ClosesOnce}
use Rattle.diagnose_cli.specs.Replies.{reply_of_replayed}
use Rattle.diagnose_cli.proofs.ReadOver.{over_third}
use Rattle.diagnose_cli.proofs.replay_command.ReplayCommandAnswering.answer.Goals as goal

pub returns-clause-closes : goal.returns-clause-closes
returns-clause-closes c texts read never =
    let reply = c.in_ok-replay_run.field-0 in
    let steps = c.args.self.now.steps in
    let run = c.args.files.now.run in
    over_third (λ ts. ClosesOnce (replay.task steps) c.args._words.now c.args._book.now.entries ts (Ok reply)) texts
    (λ (net : Net) (log : Log). (replayed : Replayed) × IsReplayed net log run steps replayed × (reply ≡ reply_of_replayed (names_of log.alarms) replayed)) (λ (net : Net) events (r : List RunStep). r ≡ run_of net events) run
    (λ text alarms events is h.
    let holds : IsReplayed (network_of text) (log_of alarms) (run_of (network_of text) events) steps h.0 = subst (λ (r : List RunStep). IsReplayed (network_of text) (log_of alarms) r steps h.0) is h.1 in
    record { says = record { replayed = h.0; holds = holds; accepted = accepted_where (network_of text) (log_of alarms) (run_of (network_of text) events) steps h.0 holds; is = h.2 }; decided = λ enough. absurd enough }) c.args.files.now.case read c.in_ok-replay_run.ensures
