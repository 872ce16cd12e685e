use Rattle.std.proofs.Common.{subst}
use Rattle.alarm_session.proofs.session.Session.before.Goals as goal
use Rattle.alarm_session.specs.Refusals.{refusal_of_before}
use Rattle.alarm_session.specs.Session.{SessionState}
use Rattle.alarm_session.specs.declared.refusal.SessionRefusal.TheVariants.{Memory}
use Rattle.des_base.specs.Refusing.{SucceedsUnless}

pub returns-clause-refused : goal.returns-clause-refused
returns-clause-refused g c = subst (λ (s : SessionState _). SucceedsUnless (refusal_of_before s.net s.steps s.stage.log c.args.first.now c.args.second.now) Memory c.put_before.result) c.self.view_is c.put_before.ensures.refused
