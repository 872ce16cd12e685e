use Rattle.std.proofs.Common.{Some, length, arith, subst, sym}
use Rattle.alarm_session.proofs.Drafting.{pair_drafted, pair_sized}
use Rattle.alarm_session.proofs.Keeping.{known_pair, of_coded, paired}
use Rattle.alarm_session.proofs.Refusing.{accepted, refused_by_size}
use Rattle.alarm_session.proofs.adding.draft_pair.Goals as goal
use Rattle.alarm_session.specs.Refusals.{refusal_of_pair}
use Rattle.question_clauses.specs.Additions.{pair_added}
use Rattle.log_encode.specs.Drafted.{IsDraftOf}
use Rattle.replay.specs.QuestionSize.{question_size}

pub returns-then-size-gt-MOST_SIZE-clause-refused : goal.returns-then-size-gt-MOST_SIZE-clause-refused
returns-then-size-gt-MOST_SIZE-clause-refused g c =
    let net = c.args.setting.net.now in
    let log = c.args.kept.now.log in
    let sized = pair_sized net c.args.setting.steps c.args.kept.now c.requires.of_log c.requires.coded c.is_built.ensures.whole c.args.first c.args.second c.requires.new c.size_with_pair-size.result c.size_with_pair-size.ensures in
    λ _. refused_by_size (refusal_of_pair log (Some (c.args.first, c.args.second))) c.size_with_pair-size.result (question_size net (paired log c.args.first c.args.second) c.args.setting.steps)
    c.requires.accepted (omega (arith, c.if-size-gt-MOST_SIZE.true)) (sym sized)

pub draft_before-requires-clause-first : goal.draft_before-requires-clause-first
draft_before-requires-clause-first g c =
    let log = c.args.kept.now.log in
    let alarms = of_coded c.args.kept.now.log c.args.kept.now.parts.code.coded.log c.requires.of_log.belong.same_log in
    omega (arith, (known_pair (length log.alarms) log.pairs c.args.first c.args.second c.requires.accepted).0, alarms)

pub draft_before-requires-clause-second : goal.draft_before-requires-clause-second
draft_before-requires-clause-second g c =
    let log = c.args.kept.now.log in
    let alarms = of_coded c.args.kept.now.log c.args.kept.now.parts.code.coded.log c.requires.of_log.belong.same_log in
    omega (arith, (known_pair (length log.alarms) log.pairs c.args.first c.args.second c.requires.accepted).1, alarms)

pub returns-clause-refused : goal.returns-clause-refused
returns-clause-refused g c =
    let net = c.args.setting.net.now in
    let log = c.args.kept.now.log in
    let sized = pair_sized net c.args.setting.steps c.args.kept.now c.requires.of_log c.requires.coded c.is_built.ensures.whole c.args.first c.args.second c.requires.new c.size_with_pair-size.result c.size_with_pair-size.ensures in
    accepted (refusal_of_pair log (Some (c.args.first, c.args.second))) (question_size net (paired log c.args.first c.args.second) c.args.setting.steps) c.requires.accepted (omega (arith, sized, c.if-size-gt-MOST_SIZE.false))

pub returns-clause-drafted : goal.returns-clause-drafted
returns-clause-drafted g c =
    pair_drafted c.args.setting.net.now c.args.setting.steps c.args.kept.now c.requires.of_log c.requires.coded c.is_built.ensures.whole c.args.first c.args.second c.requires.new c.size_with_pair-size.result c.size_with_pair-size.ensures
    c.is_whole.ensures.whole.few_alarms (omega (arith, c.if-size-gt-MOST_SIZE.false)) c.in_ok-draft.draft
    (subst (λ first. IsDraftOf c.args.kept.now.parts.code.coded (pair_added c.args.first c.args.second) first c.in_ok-draft.draft) c.count.ensures.count c.in_ok-draft.ensures)
