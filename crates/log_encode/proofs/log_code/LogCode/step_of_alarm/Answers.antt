use Rattle.std.proofs.Common.{◌+◌, ◌≤◌, length, sym, subst, arith}
use Rattle.log_encode.proofs.CallLemmas.{found_alarm, alarm_within, first_is_step}
use Rattle.log_encode.proofs.log_code.LogCode.step_of_alarm.Goals as goal
use Rattle.log_encode.specs.AlarmVariables.{AreWithinLimit, alarm_width}
use Rattle.log_encode.specs.declared.alarm_vars.AlarmVars.{AlarmVars}
use Rattle.prop_core.specs.Clauses.{value_in}

pub vars_of-requires : goal.vars_of-requires
vars_of-requires c =
    let found = found_alarm c.self.inside c.args.self.now c.args.alarm c.index.result.now c.self.view_is c.self.invariant c.requires.alarm c.index.ensures in
    alarm_within c.args.self.now.coded c.args.alarm c.index.result.now found.1 found.0

pub first_done-requires-clause-within : goal.first_done-requires-clause-within
first_done-requires-clause-within c =
    let found = found_alarm c.self.inside c.args.self.now c.args.alarm c.index.result.now c.self.view_is c.self.invariant c.requires.alarm c.index.ensures in
    subst AreWithinLimit (sym c.vars_of.ensures) (alarm_within c.args.self.now.coded c.args.alarm c.index.result.now found.1 found.0)

pub first_done-requires-clause-values : goal.first_done-requires-clause-values
first_done-requires-clause-values c =
    let found = found_alarm c.self.inside c.args.self.now c.args.alarm c.index.result.now c.self.view_is c.self.invariant c.requires.alarm c.index.ensures in
    let bound = found.0.within in
    subst (λ (v : AlarmVars). v.start + alarm_width v ≤ length c.args.assign.now) (sym c.vars_of.ensures) (omega (arith, bound, c.requires.values))

pub returns : goal.returns
returns c =
    let found = found_alarm c.self.inside c.args.self.now c.args.alarm c.index.result.now c.self.view_is c.self.invariant c.requires.alarm c.index.ensures in
    first_is_step c.args.self.now.coded c.args.alarm c.index.result.now (value_in c.args.assign.now) c.first_done.result c.vars_of.result found.1 found.0 c.vars_of.ensures
    c.first_done.ensures.within c.first_done.ensures.least c.first_done.ensures.is c.requires.last
