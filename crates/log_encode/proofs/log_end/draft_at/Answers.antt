use Rattle.std.proofs.Common.{refl, sym, ap, subst, arith, All}
use Rattle.log_encode.proofs.LogEndLemmas.{ends_small, events_known, rests_there, vars_within, new_alarm, ready_draft}
use Rattle.log_encode.proofs.log_end.draft_at.Goals as goal
use Rattle.log_encode.specs.Drafted.{LogCodeState}
use Rattle.log_encode.specs.NotedId.{noted_id}
use Rattle.log_encode.specs.Written.{HasRest}
use Rattle.log_order.specs.Log.{an_alarm}
use Rattle.prop_core.specs.ClauseStore.{ClauseStore}

pub taken_by-requires : goal.taken_by-requires
taken_by-requires c = record { known = events_known c.args.code.now.coded c.args.end (an_alarm (noted_id c.args.id) c.args.labels.now c.args.maybe) c.args.first_var c.requires }

pub new-vars-requires : goal.new-vars-requires
new-vars-requires c = vars_within c.args.code.now.coded c.args.end (an_alarm (noted_id c.args.id) c.args.labels.now c.args.maybe) c.args.first_var c.len.result c.in_ok-takes.takes.items c.requires c.in_ok-takes.ensures (omega (arith, c.in_ok-takes.takes.ok, c.len.ensures))

pub alarm_change-requires-clause-closed : goal.alarm_change-requires-clause-closed
alarm_change-requires-clause-closed c = ends_small c.args.code.now.coded c.args.end (an_alarm (noted_id c.args.id) c.args.labels.now c.args.maybe) c.args.first_var c.requires

pub write_alarm-requires-clause-rest : goal.write_alarm-requires-clause-rest
write_alarm-requires-clause-rest c =
    subst (All (HasRest c.args.end.grid)) (sym c.as_slice.ensures.value)
    (rests_there c.args.code.now.coded c.args.end (an_alarm (noted_id c.args.id) c.args.labels.now c.args.maybe) c.args.first_var c.in_ok-takes.takes.items c.requires c.in_ok-takes.ensures)

pub invariant_of-result : goal.invariant_of-result
invariant_of-result c =
    let new = new_alarm c.args.code.now.coded c.args.end (an_alarm (noted_id c.args.id) c.args.labels.now c.args.maybe) c.args.first_var c.len.result c.count.result c.in_ok-takes.takes.items c.as_slice.result.now c.new-vars.result c.in_ok-change.change c.new-clauses.result.clauses c.write_alarm.new.out.clauses c.requires
    c.in_ok-takes.ensures (omega (arith, c.in_ok-takes.takes.ok, c.len.ensures)) c.new-vars.ensures.value c.count.ensures c.in_ok-change.ensures c.in_ok-write_alarm.ensures (ap (λ (s : ClauseStore). s.clauses) c.new-clauses.ensures) c.as_slice.ensures.value in
    ready_draft _ c.args.code.now.coded (an_alarm (noted_id c.args.id) c.args.labels.now c.args.maybe) new (ap (λ (s : LogCodeState). s.coded) c.of.ensures) c.requires.made c.requires.few

pub returns : goal.returns
returns c =
    let new = new_alarm c.args.code.now.coded c.args.end (an_alarm (noted_id c.args.id) c.args.labels.now c.args.maybe) c.args.first_var c.len.result c.count.result c.in_ok-takes.takes.items c.as_slice.result.now c.new-vars.result c.in_ok-change.change c.new-clauses.result.clauses c.write_alarm.new.out.clauses c.requires
    c.in_ok-takes.ensures (omega (arith, c.in_ok-takes.takes.ok, c.len.ensures)) c.new-vars.ensures.value c.count.ensures c.in_ok-change.ensures c.in_ok-write_alarm.ensures (ap (λ (s : ClauseStore). s.clauses) c.new-clauses.ensures) c.as_slice.ensures.value in
    record { made_by = ap (λ (s : LogCodeState). s.coded) c.of.ensures; adds = new.adds; begins = refl; width = new.wide; listed = new.listed; small = new.small }
