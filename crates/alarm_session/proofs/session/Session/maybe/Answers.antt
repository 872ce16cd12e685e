use Rattle.std.proofs.Common.{true, subst}
use Rattle.alarm_session.proofs.session.Session.maybe.Goals as goal
use Rattle.alarm_session.specs.Refusals.{refusal_of_alarm}
use Rattle.alarm_session.specs.Session.{SessionState}
use Rattle.alarm_session.specs.declared.refusal.SessionRefusal.TheVariants.{Memory}
use Rattle.des_base.specs.Refusing.{SucceedsUnless}

pub returns-clause-refused : goal.returns-clause-refused
returns-clause-refused g c = subst (λ (s : SessionState _). SucceedsUnless (refusal_of_alarm s.net s.steps s.stage.log c.args.id c.args.labels.now true) Memory c.put_alarm.result) c.self.view_is c.put_alarm.ensures.refused
