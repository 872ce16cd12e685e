use Rattle.std.proofs.Common.{refl}
use Rattle.alarm_session.proofs.Joining.{becomes_pair, becomes_with, kept_roomy, kept_with, own_draft, own_fits}
use Rattle.alarm_session.proofs.Keeping.{pair_codes, paired}
use Rattle.alarm_session.proofs.adding.put_new_pair.Goals as goal
use Rattle.question_clauses.specs.Additions.{pair_added}

pub reserve_draft-requires-clause-drafted : goal.reserve_draft-requires-clause-drafted
reserve_draft-requires-clause-drafted g c = own_draft c.args.setting.net.now c.args.setting.steps c.args.kept.now _ _ c.in_ok-drafted.drafted c.in_ok-drafted.ensures.drafted

pub reserve_draft-requires-clause-fits : goal.reserve_draft-requires-clause-fits
reserve_draft-requires-clause-fits g c = own_fits c.args.setting.net.now c.args.setting.steps c.args.kept.now _ _ c.in_ok-drafted.drafted c.in_ok-drafted.ensures.drafted

pub returns-in-Ok-clause-kept : goal.returns-in-Ok-clause-kept
returns-in-Ok-clause-kept g c =
    let kept = c.args.kept.now in
    kept_with c.args.setting.net.now c.args.setting.steps kept (pair_added c.args.first c.args.second) (paired kept.log c.args.first c.args.second) c.in_ok-drafted.drafted c.in_ok-drafted.ensures.drafted
    c.requires.kept.of_log (pair_codes kept.log kept.parts.code.coded.log c.args.first c.args.second c.requires.new c.requires.kept.of_log.belong.same_log) c.reserve_draft.new.parts c.add_draft.new.parts c.reserve_draft.new.book c.add_draft.new.book
    c.reserve_draft.ensures.kept c.in_ok-reserved.reserved.draft c.in_ok-reserved.ensures.draft c.add_draft.ensures.added c.add_before.new.self c.in-Ok.ensures.ok (goal.R-pre g) (goal.R-post g) c.add_draft.ensures.ready

pub returns-in-Ok-clause-added : goal.returns-in-Ok-clause-added
returns-in-Ok-clause-added g c =
    let kept = c.args.kept.now in
    becomes_pair c.args.setting.net.now c.args.setting.steps kept.log c.args.first c.args.second _ _ c.requires.new
    (becomes_with c.args.setting.net.now c.args.setting.steps kept (pair_added c.args.first c.args.second) (paired kept.log c.args.first c.args.second) c.in_ok-drafted.drafted c.in_ok-drafted.ensures.drafted
    c.requires.kept.of_log (pair_codes kept.log kept.parts.code.coded.log c.args.first c.args.second c.requires.new c.requires.kept.of_log.belong.same_log) c.reserve_draft.new.parts c.add_draft.new.parts c.reserve_draft.new.book c.add_draft.new.book
    c.reserve_draft.ensures.kept c.in_ok-reserved.reserved.draft c.in_ok-reserved.ensures.draft c.add_draft.ensures.added c.add_before.new.self c.in-Ok.ensures.ok (goal.R-pre g) (goal.R-post g) c.add_draft.ensures.ready
    c.requires.kept.ready.coded c.add_draft.ensures.few c.in_ok-drafted.drafted.size (pair_added c.args.first c.args.second) (λ question. refl))

pub returns-in-Err-clause-kept : goal.returns-in-Err-clause-kept
returns-in-Err-clause-kept g c =
    kept_roomy (goal.R-pre g) (goal.R-post g) c.args.setting.net.now c.args.setting.steps c.args.kept.now c.reserve_draft.new.parts c.reserve_draft.new.book c.add_before.new.self c.requires.kept.of_log c.reserve_draft.ensures.kept
    c.reserve_draft.ensures.ready c.in-Err.ensures.err
