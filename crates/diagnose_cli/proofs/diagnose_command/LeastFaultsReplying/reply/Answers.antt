-- The events of what is found are known, and its run replays.
use Rattle.std.proofs.lemmas.Result.{IfOk-weaker as ok_weaker}
use Rattle.diagnose_cli.proofs.Diagnosing.{found_answers}
use Rattle.diagnose_cli.proofs.diagnose_command.LeastFaultsReplying.reply.Goals as goal
use Rattle.verdict_telling.proofs.Runs.{found_known}

pub reply_of_found-requires : goal.reply_of_found-requires
reply_of_found-requires c = found_known c.args.case.now.net c.args.case.now.log c.args.steps c.args.self.now.budget c.requires.answers.0 c.args.answer c.requires.answers.1

pub returns : goal.returns
returns c book says =
    ok_weaker c.reply_of_found.result _ _
    (found_answers c.args.case.now.net c.args.case.now.log c.args.steps c.args.self.now.budget book c.args.answer c.is_built.ensures.network c.is_built.ensures.whole c.is_whole.ensures.whole c.requires.steps says)
    c.reply_of_found.ensures
