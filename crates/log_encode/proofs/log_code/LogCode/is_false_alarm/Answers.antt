use Rattle.std.proofs.Common.{◌∙◌, arith}
use Rattle.log_encode.proofs.CallLemmas.{found_alarm, alarm_within, false_is}
use Rattle.log_encode.proofs.log_code.LogCode.is_false_alarm.Goals as goal
use Rattle.prop_core.specs.Clauses.{value_in}

pub is_dropped-requires-clause-within : goal.is_dropped-requires-clause-within
is_dropped-requires-clause-within c =
    let found = found_alarm c.self.inside c.args.self.now c.args.alarm c.index.result.now c.self.view_is c.self.invariant c.requires.alarm c.index.ensures in
    alarm_within c.args.self.now.coded c.args.alarm c.index.result.now found.1 found.0

pub is_dropped-requires-clause-values : goal.is_dropped-requires-clause-values
is_dropped-requires-clause-values c =
    let found = found_alarm c.self.inside c.args.self.now c.args.alarm c.index.result.now c.self.view_is c.self.invariant c.requires.alarm c.index.ensures in
    let bound = found.0.within in
    omega (arith, bound, c.requires.values)

pub returns : goal.returns
returns c =
    let found = found_alarm c.self.inside c.args.self.now c.args.alarm c.index.result.now c.self.view_is c.self.invariant c.requires.alarm c.index.ensures in
    c.is_dropped.ensures ∙ false_is c.args.self.now.coded c.args.alarm c.index.result.now (value_in c.args.assign.now) found.1 found.0
