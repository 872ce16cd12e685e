-- The network in its plain form, which reads back.
use Rattle.std.proofs.Common.{◌≡◌, Ok}
use Rattle.des_net.specs.Network.{Net}
use Rattle.endings.proofs.Reading.{none_before}
use Rattle.model_text.proofs.ReadBackLemmas.{read_and_printed}
use Rattle.model_text.specs.ModelFaults.{first_model_fault}
use Rattle.diagnose_cli.specs.Commands.{show}
use Rattle.diagnose_cli.specs.Due.{ClosesOnce}
use Rattle.diagnose_cli.specs.Replies.{reply_of_model}
use Rattle.diagnose_cli.proofs.ReadOver.{over_model}
use Rattle.diagnose_cli.proofs.show_command.ShowCommandAnswering.answer.Goals as goal

pub returns-clause-closes : goal.returns-clause-closes
returns-clause-closes c texts read never =
    let reply = c.in_ok-reply_of_model.field-0 in
    over_model (λ ts. ClosesOnce (show.task tt) c.args._words.now c.args._book.now.entries ts (Ok reply)) texts (λ (net : Net). reply ≡ reply_of_model net)
    (λ text well is. record { says = record { is = is; again = read_and_printed text (none_before _ (first_model_fault text) well) }; decided = λ enough. absurd enough }) c.args.files.now read c.in_ok-reply_of_model.ensures.is
