use Rattle.std.proofs.Common.{◌∙◌, arith, subst, sym}
use Rattle.alarm_session.proofs.Drafting.{alarm_drafted, alarm_room, alarm_sized}
use Rattle.alarm_session.proofs.Refusing.{accepted, refused_by_size}
use Rattle.alarm_session.proofs.adding.draft_alarm.Goals as goal
use Rattle.log_encode.specs.Drafted.{IsDraftOf}
use Rattle.question_clauses.specs.Additions.{alarm_added}
use Rattle.log_order.proofs.AlarmLemmas.{IsNewAlarm-from}
use Rattle.log_order.specs.Adding.{alarm_refusal, with_alarm}
use Rattle.log_order.specs.Log.{an_alarm}
use Rattle.replay.specs.QuestionSize.{question_size}

pub each_once-requires : goal.each_once-requires
each_once-requires g c = (IsNewAlarm-from c.args.kept.now.log c.args.id.now c.args.labels.now (sym c.test_alarm.ensures ∙ c.in_default.is)).few

pub returns-then-size-gt-MOST_SIZE-clause-refused : goal.returns-then-size-gt-MOST_SIZE-clause-refused
returns-then-size-gt-MOST_SIZE-clause-refused g c =
    let net = c.args.setting.net.now in
    let log = c.args.kept.now.log in
    let sized = alarm_sized net c.args.setting.steps c.args.kept.now c.requires.of_log c.requires.coded c.is_built.ensures.whole c.args.id.now c.args.labels.now c.as_slice-labels.result.now c.args.doubtful
    (c.as_slice-labels.ensures.value ∙ c.in_ok-once.ensures.once) c.size_with_alarm-size.result c.size_with_alarm-size.ensures in
    λ _. refused_by_size (alarm_refusal log c.args.id.now c.args.labels.now) c.size_with_alarm-size.result (question_size net (with_alarm log c.args.id.now c.args.labels.now c.args.doubtful) c.args.setting.steps)
    (sym c.test_alarm.ensures ∙ c.in_default.is) (omega (arith, c.if-size-gt-MOST_SIZE.true)) (sym sized)

pub draft_named_alarm-requires-clause-few : goal.draft_named_alarm-requires-clause-few
draft_named_alarm-requires-clause-few g c =
    let new = IsNewAlarm-from c.args.kept.now.log c.args.id.now c.args.labels.now (sym c.test_alarm.ensures ∙ c.in_default.is) in
    let room = alarm_room c.args.setting.net.now c.args.setting.steps c.args.kept.now c.requires.of_log c.requires.coded c.is_built.ensures.whole c.args.id.now c.args.labels.now c.as_slice-labels.result.now c.args.doubtful
    (c.as_slice-labels.ensures.value ∙ c.in_ok-once.ensures.once) c.size_with_alarm-size.result c.size_with_alarm-size.ensures new.room (omega (arith, c.if-size-gt-MOST_SIZE.false)) in
    omega (arith, room, c.count.ensures.count)

pub returns-clause-refused : goal.returns-clause-refused
returns-clause-refused g c =
    let net = c.args.setting.net.now in
    let log = c.args.kept.now.log in
    let sized = alarm_sized net c.args.setting.steps c.args.kept.now c.requires.of_log c.requires.coded c.is_built.ensures.whole c.args.id.now c.args.labels.now c.as_slice-labels.result.now c.args.doubtful
    (c.as_slice-labels.ensures.value ∙ c.in_ok-once.ensures.once) c.size_with_alarm-size.result c.size_with_alarm-size.ensures in
    accepted (alarm_refusal log c.args.id.now c.args.labels.now) (question_size net (with_alarm log c.args.id.now c.args.labels.now c.args.doubtful) c.args.setting.steps)
    (sym c.test_alarm.ensures ∙ c.in_default.is) (omega (arith, sized, c.if-size-gt-MOST_SIZE.false))

pub returns-clause-drafted : goal.returns-clause-drafted
returns-clause-drafted g c =
    let new = IsNewAlarm-from c.args.kept.now.log c.args.id.now c.args.labels.now (sym c.test_alarm.ensures ∙ c.in_default.is) in
    alarm_drafted c.args.setting.net.now c.args.setting.steps c.args.kept.now c.requires.of_log c.requires.coded c.is_built.ensures.whole c.args.id.now c.args.labels.now c.as_slice-labels.result.now c.args.doubtful
    (c.as_slice-labels.ensures.value ∙ c.in_ok-once.ensures.once) c.size_with_alarm-size.result c.size_with_alarm-size.ensures new.room (omega (arith, c.if-size-gt-MOST_SIZE.false)) c.in_ok-draft.draft
    (subst (λ first. IsDraftOf c.args.kept.now.parts.code.coded (alarm_added (an_alarm c.args.id.now c.as_slice-labels.result.now c.args.doubtful)) first c.in_ok-draft.draft) c.count.ensures.count c.in_ok-draft.ensures)
