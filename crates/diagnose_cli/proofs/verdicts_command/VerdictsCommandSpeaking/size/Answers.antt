-- Of the log that is read.
use Rattle.std.proofs.Common.{◌≡◌, Some, ap, sym}
use Rattle.replay.specs.QuestionSize.{question_size}
use Rattle.diagnose_cli.specs.Commands.{verdicts_speech}
use Rattle.diagnose_cli.proofs.ReadOver.{over_case}
use Rattle.diagnose_cli.proofs.verdicts_command.VerdictsCommandSpeaking.size.Goals as goal

pub returns-clause-asked : goal.returns-clause-asked
returns-clause-asked c texts read =
    over_case (λ ts. (verdicts_speech c.args.limits).size ts ≡ Some c.question_size.result) texts (λ net log. c.question_size.result ≡ question_size net log c.args.limits.steps) (λ text alarms is. ap (λ k. Some k) (sym is))
    c.args.files.now.net c.args.files.now.log read c.question_size.ensures.size
