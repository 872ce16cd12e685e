-- The texts of the runs read back.
use Rattle.std.proofs.lemmas.Result.{IfOk-weaker as ok_weaker}
use Rattle.diagnose_cli.proofs.TwinAnswers.{twin_said}
use Rattle.diagnose_cli.proofs.twin_command.tell.Goals as goal

pub returns : goal.returns
returns c fault book tested =
    ok_weaker c.reply_of_twin.result _ _ (twin_said c.args.net.now c.args.limits.steps c.args.limits.after c.args.limits.budget c.args.answer.now c.is_built.ensures.network c.is_built.ensures.whole c.requires.steps fault book tested) c.reply_of_twin.ensures
