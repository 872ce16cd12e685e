use Rattle.std.proofs.Common.{rules, ◌≡◌, ℕ, Bool, None, [], Err, subst, sym}
use Rattle.alarm_session.proofs.Drafting.{drafted_alike}
use Rattle.alarm_session.proofs.Joining.{alarm_by_id, becomes_with, kept_roomy, kept_with, own_draft, own_fits}
use Rattle.alarm_session.proofs.Keeping.{alarm_codes}
use Rattle.alarm_session.proofs.Refusing.{refused_by_log}
use Rattle.alarm_session.proofs.adding.put_alarm.Goals as goal
use Rattle.alarm_session.specs.Additions.{alarm_addition}
use Rattle.alarm_session.specs.Refusals.{refusal_of_alarm}
use Rattle.alarm_session.specs.declared.refusal.SessionRefusal.{SessionRefusal}
use Rattle.alarm_session.specs.declared.refusal.SessionRefusal.TheVariants.{Memory}
use Rattle.des_base.specs.Refusing.{SucceedsUnless}
use Rattle.log_order.specs.Adding.{with_alarm, with_texts}
use Rattle.log_order.specs.Certainty.{leaves_doubt}
use Rattle.log_order.specs.Log.{an_alarm}
use Rattle.question_clauses.specs.Additions.{alarm_added}

pub reserve_draft-requires-clause-drafted : goal.reserve_draft-requires-clause-drafted
reserve_draft-requires-clause-drafted g c = own_draft c.args.setting.net.now c.args.setting.steps c.args.kept.now _ _ c.in_ok-drafted.drafted c.in_ok-drafted.ensures.drafted

pub reserve_draft-requires-clause-fits : goal.reserve_draft-requires-clause-fits
reserve_draft-requires-clause-fits g c = own_fits c.args.setting.net.now c.args.setting.steps c.args.kept.now _ _ c.in_ok-drafted.drafted c.in_ok-drafted.ensures.drafted

pub returns-in-Ok-clause-kept : goal.returns-in-Ok-clause-kept
returns-in-Ok-clause-kept g c =
    let kept = c.args.kept.now in
    let labels = with_texts [] c.args.labels.now in
    let doubtful = leaves_doubt c.args.certainty in
    let drafted = drafted_alike c.args.setting.net.now c.args.setting.steps kept c.args.id c.args.labels.now c.in_ok-drafted.drafted _ _ c.is_doubtful-doubtful.ensures c.in_ok-drafted.ensures.drafted in
    kept_with c.args.setting.net.now c.args.setting.steps kept (alarm_added (an_alarm c.args.id labels doubtful)) (with_alarm kept.log c.args.id c.args.labels.now doubtful) c.in_ok-drafted.drafted drafted
    c.requires.kept.of_log (alarm_codes kept.log kept.parts.code.coded.log c.args.id labels doubtful c.requires.kept.of_log.belong.same_log) c.reserve_draft.new.parts c.add_draft.new.parts c.reserve_draft.new.book c.add_draft.new.book
    c.reserve_draft.ensures.kept c.in_ok-reserved.reserved.draft c.in_ok-reserved.ensures.draft c.add_draft.ensures.added c.add.new.self c.in-Ok.ensures.ok (goal.R-pre g) (goal.R-post g) c.add_draft.ensures.ready

pub returns-in-Ok-clause-added : goal.returns-in-Ok-clause-added
returns-in-Ok-clause-added g c =
    let kept = c.args.kept.now in
    let labels = with_texts [] c.args.labels.now in
    let doubtful = leaves_doubt c.args.certainty in
    let drafted = drafted_alike c.args.setting.net.now c.args.setting.steps kept c.args.id c.args.labels.now c.in_ok-drafted.drafted _ _ c.is_doubtful-doubtful.ensures c.in_ok-drafted.ensures.drafted in
    becomes_with c.args.setting.net.now c.args.setting.steps kept (alarm_added (an_alarm c.args.id labels doubtful)) (with_alarm kept.log c.args.id c.args.labels.now doubtful) c.in_ok-drafted.drafted drafted
    c.requires.kept.of_log (alarm_codes kept.log kept.parts.code.coded.log c.args.id labels doubtful c.requires.kept.of_log.belong.same_log) c.reserve_draft.new.parts c.add_draft.new.parts c.reserve_draft.new.book c.add_draft.new.book
    c.reserve_draft.ensures.kept c.in_ok-reserved.reserved.draft c.in_ok-reserved.ensures.draft c.add_draft.ensures.added c.add.new.self c.in-Ok.ensures.ok (goal.R-pre g) (goal.R-post g) c.add_draft.ensures.ready
    c.requires.kept.ready.coded c.add_draft.ensures.few c.in_ok-drafted.drafted.size (alarm_addition c.args.labels.now doubtful) (alarm_by_id kept.log c.args.id c.args.labels.now doubtful)

pub returns-in-Err-clause-kept : goal.returns-in-Err-clause-kept
returns-in-Err-clause-kept g c =
    kept_roomy (goal.R-pre g) (goal.R-post g) c.args.setting.net.now c.args.setting.steps c.args.kept.now c.reserve_draft.new.parts c.reserve_draft.new.book c.add.new.self c.requires.kept.of_log c.reserve_draft.ensures.kept
    c.reserve_draft.ensures.ready c.in-Err.ensures.err

pub returns-in-Err-clause-refused : goal.returns-in-Err-clause-refused
returns-in-Err-clause-refused g c =
    subst (λ (r : SessionRefusal). SucceedsUnless {X = ℕ} (refusal_of_alarm c.args.setting.net.now c.args.setting.steps c.args.kept.now.log c.args.id c.args.labels.now (leaves_doubt c.args.certainty)) Memory (Err r)) (sym c.refusal_of.ensures)
    (refused_by_log ℕ ℕ c.in-Err.refusal _ _ c.in-Err.ensures.refused)

pub returns-in_err-drafted-clause-refused : goal.returns-in_err-drafted-clause-refused
returns-in_err-drafted-clause-refused g c =
    let net = c.args.setting.net.now in
    let n = c.args.setting.steps in
    let log = c.args.kept.now.log in
    let answers : SucceedsUnless (refusal_of_alarm net n log c.args.id c.args.labels.now c.is_doubtful-doubtful.result) Memory c.from_residual.result = search rules in
    subst (λ (d : Bool). SucceedsUnless (refusal_of_alarm net n log c.args.id c.args.labels.now d) Memory c.from_residual.result) c.is_doubtful-doubtful.ensures answers

pub returns-in-Ok-clause-refused : goal.returns-in-Ok-clause-refused
returns-in-Ok-clause-refused g c =
    subst (λ (d : Bool). refusal_of_alarm c.args.setting.net.now c.args.setting.steps c.args.kept.now.log c.args.id c.args.labels.now d ≡ None) c.is_doubtful-doubtful.ensures c.in_ok-drafted.ensures.refused
