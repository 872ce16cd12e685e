-- Of the empty log.
use Rattle.std.proofs.Common.{◌≡◌, ◌∙◌, Some, ap, sym}
use Rattle.log_order.specs.Log.{Log, no_log}
use Rattle.replay.specs.QuestionSize.{question_size}
use Rattle.diagnose_cli.specs.Commands.{session_speech}
use Rattle.diagnose_cli.proofs.ReadOver.{over_script}
use Rattle.diagnose_cli.proofs.session_command.SessionCommandSpeaking.size.Goals as goal

pub returns-clause-asked : goal.returns-clause-asked
returns-clause-asked c texts read =
    let n = c.args.limits.steps in
    over_script (λ ts. (session_speech c.args.limits).size ts ≡ Some c.question_size-size.result) texts (λ net rows. c.question_size-size.result ≡ question_size net no_log n) (λ text lines is. ap (λ k. Some k) (sym is))
    c.args.files.now.net c.args.files.now.script read (c.question_size-size.ensures.size ∙ ap (λ (l : Log). question_size c.args.files.now.net l n) c.new-empty.ensures)
