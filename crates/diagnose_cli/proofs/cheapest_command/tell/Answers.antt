-- The text of the run reads back.
use Rattle.std.proofs.lemmas.Result.{IfOk-weaker as ok_weaker}
use Rattle.diagnose_cli.proofs.CheapAnswers.{cheap_said}
use Rattle.diagnose_cli.proofs.cheapest_command.tell.Goals as goal

pub returns : goal.returns
returns c cost budget book priced =
    ok_weaker c.reply_of_cheap.result _ _ (cheap_said c.args.case.now.net c.args.case.now.log c.args.steps c.args.cheap.now c.is_built.ensures.network c.is_built.ensures.whole c.is_whole.ensures.whole c.requires.steps cost budget book priced) c.reply_of_cheap.ensures
