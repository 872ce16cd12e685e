use Rattle.std.proofs.Common.{◌∙◌, subst, sym}
use Rattle.alarm_session.proofs.adding.put_before.Goals as goal
use Rattle.alarm_session.specs.Refusals.{log_with, refusal_of_pair, refusal_with}
use Rattle.alarm_session.specs.declared.refusal.SessionRefusal.TheVariants.{Memory}
use Rattle.des_base.specs.Refusing.{SucceedsUnless}
use Rattle.replay.specs.QuestionSize.{question_size}

pub returns-in-Some-clause-refused : goal.returns-in-Some-clause-refused
returns-in-Some-clause-refused g c =
    subst (λ numbers. SucceedsUnless (refusal_with (refusal_of_pair c.args.kept.now.log numbers) (question_size c.args.setting.net.now (log_with c.args.kept.now.log numbers) c.args.setting.steps)) Memory c.put_pair.result)
    (sym c.in-Some.is ∙ c.numbers_of.ensures) c.put_pair.ensures.refused
