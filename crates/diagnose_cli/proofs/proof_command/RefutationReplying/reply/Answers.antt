-- What was found holds, and the reply tells what refutes the bound below it.
use Rattle.std.proofs.lemmas.Result.{IfOk-weaker as ok_weaker}
use Rattle.inquiries.proofs.Refutations.{ok_both}
use Rattle.diagnose_cli.proofs.ProofAnswers.{answers_nothing, answers_undecided, answers_within, can_print, open_known}
use Rattle.diagnose_cli.proofs.proof_command.RefutationReplying.reply.Goals as goal

pub reply_of_proof-requires-clause-above : goal.reply_of_proof-requires-clause-above
reply_of_proof-requires-clause-above c =
    (can_print c.args.case.now.net c.args.case.now.log c.args.steps c.args.self.now.budget c.requires.answers.0 c.args.answer c.requires.answers.1 c.in-Within.bound c.in-Within.proof c.in-Within.is).1

pub reply_of_found-requires : goal.reply_of_found-requires
reply_of_found-requires c =
    open_known c.args.case.now.net c.args.case.now.log c.args.steps c.args.self.now.budget c.requires.answers.0 c.args.answer c.requires.answers.1 c.in-Undecided.found c.in-Undecided.is

pub returns-in-Within : goal.returns-in-Within
returns-in-Within c book says =
    ok_both c.reply_of_proof.result _ _ _
    (answers_within c.args.case.now.net c.args.case.now.log c.args.steps c.args.self.now.budget book c.args.answer says c.is_built.ensures.network c.is_built.ensures.whole c.is_whole.ensures.whole c.requires.steps c.in-Within.bound c.in-Within.proof c.in-Within.is)
    c.reply_of_proof.ensures.reply c.reply_of_proof.ensures.reads_back

pub returns-in-Nothing : goal.returns-in-Nothing
returns-in-Nothing c book says =
    ok_weaker c.nothing.result _ _
    (answers_nothing c.args.case.now.net c.args.case.now.log c.args.steps c.args.self.now.budget book c.args.answer says c.is_built.ensures.network c.is_built.ensures.whole c.is_whole.ensures.whole c.requires.steps c.in-Nothing.is)
    c.nothing.ensures

pub returns-in-Undecided : goal.returns-in-Undecided
returns-in-Undecided c book says =
    ok_weaker c.reply_of_found.result _ _
    (answers_undecided c.args.case.now.net c.args.case.now.log c.args.steps c.args.self.now.budget book c.args.answer says c.is_built.ensures.network c.is_built.ensures.whole c.is_whole.ensures.whole c.requires.steps c.in-Undecided.found c.in-Undecided.is)
    c.reply_of_found.ensures
