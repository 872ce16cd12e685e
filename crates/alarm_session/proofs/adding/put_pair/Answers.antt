use Rattle.std.proofs.Common.{◌∙◌, Some, ap, arith, sym}
use Rattle.alarm_session.proofs.Keeping.{old_pair, paired}
use Rattle.alarm_session.proofs.Refusing.{accepted}
use Rattle.alarm_session.proofs.adding.put_pair.Goals as goal
use Rattle.alarm_session.specs.Refusals.{refusal_of_pair}
use Rattle.replay.specs.QuestionSize.{question_size}

pub returns-then-has_pair-clause-refused : goal.returns-then-has_pair-clause-refused
returns-then-has_pair-clause-refused g c =
    let net = c.args.setting.net.now in
    let log = c.args.kept.now.log in
    let there = sym c.has_pair.ensures ∙ c.if-has_pair.true in
    let same = ap (λ l. question_size net l c.args.setting.steps) (old_pair log c.args.first c.args.second there) in
    accepted (refusal_of_pair log (Some (c.args.first, c.args.second))) (question_size net (paired log c.args.first c.args.second) c.args.setting.steps) c.in_default.ensures.refused (omega (arith, same, c.requires.kept.of_log.limits.size))
