use Rattle.std.proofs.Common.{◌≡◌, ◌∙◌, Some, sym, ap, subst, arith}
use Rattle.log_encode.proofs.CallLemmas.{found_alarm, alarm_within}
use Rattle.log_encode.proofs.log_code.LogCode.done.Goals as goal
use Rattle.log_encode.specs.AlarmVariables.{AreWithinLimit, done_variable}
use Rattle.log_encode.specs.CodedLog.{log_meanings}
use Rattle.log_encode.specs.declared.alarm_vars.AlarmVars.{AlarmVars}
use Rattle.prop_core.specs.VariableNames.{meaning_of, done}

pub vars_of-requires : goal.vars_of-requires
vars_of-requires c =
    let found = found_alarm c.self.inside c.args.self.now c.args.alarm c.index.result.now c.self.view_is c.self.invariant c.requires c.index.ensures in
    alarm_within c.args.self.now.coded c.args.alarm c.index.result.now found.1 found.0

pub done-requires-clause-within : goal.done-requires-clause-within
done-requires-clause-within c =
    let found = found_alarm c.self.inside c.args.self.now c.args.alarm c.index.result.now c.self.view_is c.self.invariant c.requires c.index.ensures in
    subst AreWithinLimit (sym c.vars_of.ensures) (alarm_within c.args.self.now.coded c.args.alarm c.index.result.now found.1 found.0)

pub returns-clause-within : goal.returns-clause-within
returns-clause-within c =
    let found = found_alarm c.self.inside c.args.self.now c.args.alarm c.index.result.now c.self.view_is c.self.invariant c.requires c.index.ensures in
    let is = c.done.ensures.variable ∙ ap (λ (v : AlarmVars). done_variable v 0) c.vars_of.ensures in
    let bound = found.0.within in
    omega (arith, is, bound)

pub returns-clause-names : goal.returns-clause-names
returns-clause-names c =
    let found = found_alarm c.self.inside c.args.self.now c.args.alarm c.index.result.now c.self.view_is c.self.invariant c.requires c.index.ensures in
    let is = c.done.ensures.variable ∙ ap (λ (v : AlarmVars). done_variable v 0) c.vars_of.ensures in
    λ t within. subst (λ v. meaning_of (log_meanings c.args.self.now.coded) v ≡ Some (done c.args.alarm t)) (omega (arith, is)) (found.0.being_done t within)
