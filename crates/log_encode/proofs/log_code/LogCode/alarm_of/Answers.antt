use Rattle.std.proofs.Common.{◌∙◌, sym, arith}
use Rattle.log_encode.proofs.CallLemmas.{turned_alarm, turned_count, alarm_within, matched_is, none_more, found_first, found_none}
use Rattle.log_encode.proofs.log_code.LogCode.alarm_of.Goals as goal
use Rattle.prop_core.specs.Clauses.{value_in}

pub is_matched-requires-clause-within : goal.is_matched-requires-clause-within
is_matched-requires-clause-within c =
    let is = turned_alarm c.self.inside c.args.self.now c.deref-alarm-items.result.now c.loop-number.number c.alarm-item.result c.self.view_is c.self.invariant c.deref-alarm-items.ensures.value c.loop-number-test.true c.alarm-item.is in
    alarm_within c.args.self.now.coded c.loop-number.number c.alarm-item.result is.1 is.0

pub is_matched-requires-clause-values : goal.is_matched-requires-clause-values
is_matched-requires-clause-values c =
    let is = turned_alarm c.self.inside c.args.self.now c.deref-alarm-items.result.now c.loop-number.number c.alarm-item.result c.self.view_is c.self.invariant c.deref-alarm-items.ensures.value c.loop-number-test.true c.alarm-item.is in
    let bound = is.0.within in
    omega (arith, bound, c.requires.values)

pub returns-then-is_matched : goal.returns-then-is_matched
returns-then-is_matched c =
    let is = turned_alarm c.self.inside c.args.self.now c.deref-alarm-items.result.now c.loop-number.number c.alarm-item.result c.self.view_is c.self.invariant c.deref-alarm-items.ensures.value c.loop-number-test.true c.alarm-item.is in
    let count = turned_count c.self.inside c.args.self.now c.deref-alarm-items.result.now c.self.view_is c.self.invariant c.deref-alarm-items.ensures.value in
    let stands = matched_is c.args.self.now.coded c.loop-number.number c.alarm-item.result (value_in c.args.assign.now) c.args.event c.args.step is.1 is.0 c.requires.event c.requires.from_one c.requires.step in
    found_first c.args.self.now (value_in c.args.assign.now) c.args.event c.args.step c.loop-number.number c.loop-number.invariant (omega (arith, count, c.loop-number-test.true)) (sym stands ∙ sym c.is_matched.ensures ∙ c.if-is_matched.true)

pub loop-number-preserved : goal.loop-number-preserved
loop-number-preserved c =
    let is = turned_alarm c.self.inside c.args.self.now c.deref-alarm-items.result.now c.loop-number.number c.alarm-item.result c.self.view_is c.self.invariant c.deref-alarm-items.ensures.value c.loop-number-test.true c.alarm-item.is in
    let stands = matched_is c.args.self.now.coded c.loop-number.number c.alarm-item.result (value_in c.args.assign.now) c.args.event c.args.step is.1 is.0 c.requires.event c.requires.from_one c.requires.step in
    none_more c.args.self.now (value_in c.args.assign.now) c.args.event c.args.step c.loop-number.number c.loop-number.invariant (sym stands ∙ sym c.is_matched.ensures ∙ c.if-is_matched.false)

pub returns : goal.returns
returns c =
    let count = turned_count c.self.inside c.args.self.now c.deref-alarm-items.result.now c.self.view_is c.self.invariant c.deref-alarm-items.ensures.value in
    found_none c.args.self.now (value_in c.args.assign.now) c.args.event c.args.step c.loop-number.number c.loop-number.invariant (omega (arith, count, c.loop-number-test.false))
