use Rattle.std.proofs.Common.{rules, ◌∙◌, false, true, subst, sym}
use Rattle.alarm_session.proofs.Rowing.{alarm_wanted, before_again, before_wanted, maybe_wanted, nothing_added}
use Rattle.alarm_session.proofs.rows.put_row.Goals as goal
use Rattle.alarm_session.specs.Refusals.{refusal_of_alarm, refusal_of_before}
use Rattle.alarm_session.specs.Session.{stage_of}
use Rattle.alarm_session.specs.declared.refusal.SessionRefusal.TheVariants.{Memory}
use Rattle.des_base.specs.Refusing.{SucceedsUnless}

pub returns-in_err-put_alarm-in-Alarm-clause-refused : goal.returns-in_err-put_alarm-in-Alarm-clause-refused
returns-in_err-put_alarm-in-Alarm-clause-refused g c =
    let net = c.args.setting.net.now in
    let n = c.args.setting.steps in
    let log = c.args.kept.now.log in
    let name = c.in_ok-copy-in-Alarm.field-0 in
    let labels = c.as_slice.result.now in
    let answers : SucceedsUnless (refusal_of_alarm net n log name labels false) Memory c.from_residual-in_err-put_alarm-in-Alarm.result = search rules in
    subst (λ refusal. SucceedsUnless refusal Memory c.from_residual-in_err-put_alarm-in-Alarm.result) (sym (alarm_wanted net n log c.args.row.now c.in-Alarm.id name c.in-Alarm.labels labels c.in-Alarm.is c.in_ok-copy-in-Alarm.ensures c.as_slice.ensures)) answers

pub returns-in_err-put_alarm-in-Maybe-clause-refused : goal.returns-in_err-put_alarm-in-Maybe-clause-refused
returns-in_err-put_alarm-in-Maybe-clause-refused g c =
    let net = c.args.setting.net.now in
    let n = c.args.setting.steps in
    let log = c.args.kept.now.log in
    let name = c.in_ok-copy-in-Maybe.field-0 in
    let labels = c.as_slice-in-Maybe.result.now in
    let answers : SucceedsUnless (refusal_of_alarm net n log name labels true) Memory c.from_residual-in_err-put_alarm-in-Maybe.result = search rules in
    subst (λ refusal. SucceedsUnless refusal Memory c.from_residual-in_err-put_alarm-in-Maybe.result) (sym (maybe_wanted net n log c.args.row.now c.in-Maybe.id name c.in-Maybe.labels labels c.in-Maybe.is c.in_ok-copy-in-Maybe.ensures c.as_slice-in-Maybe.ensures)) answers

pub returns-in_err-put_before-in-Before-clause-refused : goal.returns-in_err-put_before-in-Before-clause-refused
returns-in_err-put_before-in-Before-clause-refused g c =
    let net = c.args.setting.net.now in
    let n = c.args.setting.steps in
    let log = c.args.kept.now.log in
    let answers : SucceedsUnless (refusal_of_before net n log c.in-Before.first c.in-Before.second) Memory c.from_residual-in_err-put_before-in-Before.result = search rules in
    subst (λ refusal. SucceedsUnless refusal Memory c.from_residual-in_err-put_before-in-Before.result) (sym (before_wanted net n log c.args.row.now c.in-Before.first c.in-Before.second c.in-Before.is)) answers

pub returns-in_ok-put_alarm-in-Alarm-clause-refused : goal.returns-in_ok-put_alarm-in-Alarm-clause-refused
returns-in_ok-put_alarm-in-Alarm-clause-refused g c =
    alarm_wanted c.args.setting.net.now c.args.setting.steps c.args.kept.now.log c.args.row.now c.in-Alarm.id c.in_ok-copy-in-Alarm.field-0 c.in-Alarm.labels c.as_slice.result.now c.in-Alarm.is c.in_ok-copy-in-Alarm.ensures c.as_slice.ensures
    ∙ c.in_ok-put_alarm-in-Alarm.ensures.refused

pub returns-in_ok-put_alarm-in-Maybe-clause-refused : goal.returns-in_ok-put_alarm-in-Maybe-clause-refused
returns-in_ok-put_alarm-in-Maybe-clause-refused g c =
    maybe_wanted c.args.setting.net.now c.args.setting.steps c.args.kept.now.log c.args.row.now c.in-Maybe.id c.in_ok-copy-in-Maybe.field-0 c.in-Maybe.labels c.as_slice-in-Maybe.result.now c.in-Maybe.is c.in_ok-copy-in-Maybe.ensures c.as_slice-in-Maybe.ensures
    ∙ c.in_ok-put_alarm-in-Maybe.ensures.refused

pub returns-in_ok-put_before-in-Before-clause-refused : goal.returns-in_ok-put_before-in-Before-clause-refused
returns-in_ok-put_before-in-Before-clause-refused g c =
    before_wanted c.args.setting.net.now c.args.setting.steps c.args.kept.now.log c.args.row.now c.in-Before.first c.in-Before.second c.in-Before.is
    ∙ c.in_ok-put_before-in-Before.ensures.refused

pub returns-in-Ask-clause-added : goal.returns-in-Ask-clause-added
returns-in-Ask-clause-added g c = nothing_added c.args.setting.net.now c.args.setting.steps (stage_of c.args.kept.now) c.args.row.now c.in-Ask.is

pub returns-in_ok-put_before-in-Before-clause-again : goal.returns-in_ok-put_before-in-Before-clause-again
returns-in_ok-put_before-in-Before-clause-again g c =
    before_again c.args.kept.now.log c.args.row.now (stage_of c.args.kept.now) (stage_of c.put_before.new.kept) c.in-Before.first c.in-Before.second c.in_ok-put_before-in-Before.field-0 c.in-Before.is
    c.in_ok-put_before-in-Before.ensures.new c.in_ok-put_before-in-Before.ensures.again
