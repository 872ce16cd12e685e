use Rattle.std.proofs.Common.{◌<◌, ◌≤◌, ◌∙◌, length, sym, ap, subst, arith}
use Rattle.log_encode.proofs.CallLemmas.{found_alarm, alarm_within, both_there, links_counted, no_link, no_step, unpassed_is}
use Rattle.log_encode.proofs.log_code.LogCode.unpassed.Goals.{then-link-len-via-then-link-len, then-link-len-via-else-link-len+then-step-self}
use Rattle.log_encode.proofs.log_code.LogCode.unpassed.Goals as goal
use Rattle.log_encode.specs.AlarmState.{AlarmState}
use Rattle.log_encode.specs.AlarmVariables.{AreWithinLimit, passed_variable}
use Rattle.log_encode.specs.declared.alarm_vars.AlarmVars.{AlarmVars}
use Rattle.log_encode.specs.Drafted.{LogCodeState, IsUnpassed}

pub vars_of-requires : goal.vars_of-requires
vars_of-requires c =
    let found = found_alarm c.self.inside c.args.self.now c.args.alarm c.index-alarm.result.now c.self.view_is c.self.invariant c.requires c.index-alarm.ensures in
    alarm_within c.args.self.now.coded c.args.alarm c.index-alarm.result.now found.1 found.0

pub passed-requires-clause-within : goal.passed-requires-clause-within
passed-requires-clause-within c =
    let found = found_alarm c.self.inside c.args.self.now c.args.alarm c.index-alarm.result.now c.self.view_is c.self.invariant c.requires c.index-alarm.ensures in
    subst AreWithinLimit (sym c.vars_of.ensures) (alarm_within c.args.self.now.coded c.args.alarm c.index-alarm.result.now found.1 found.0)

pub returns-then-link-len-clause-there : goal.returns-then-link-len-clause-there
returns-then-link-len-clause-there c =
    let found = found_alarm c.self.inside c.args.self.now c.args.alarm c.index-alarm.result.now c.self.view_is c.self.invariant c.requires c.index-alarm.ensures in
    let links = links_counted c.args.self.now.coded c.args.alarm c.index-alarm.result.now found.0 in
    let kept = ap (λ (a : AlarmState). length a.takes) c.alarm.view_is in
    elim c.then-link-len.branch [
      | then-link-len-via-then-link-len w ↦ no_link c.args.link _ _ (omega (arith, links, c.len.ensures, w.if-link-len.true, c.alarm.inside.takes.ok.0, kept))
      | then-link-len-via-else-link-len+then-step-self w ↦ no_step c.args.step _ _ (subst (λ (s : LogCodeState). s.coded.grid.steps ≤ c.args.step) c.self.view_is w.if-step-self.true)
    ]

pub returns-clause-there : goal.returns-clause-there
returns-clause-there c =
    let found = found_alarm c.self.inside c.args.self.now c.args.alarm c.index-alarm.result.now c.self.view_is c.self.invariant c.requires c.index-alarm.ensures in
    let links = links_counted c.args.self.now.coded c.args.alarm c.index-alarm.result.now found.0 in
    let kept = ap (λ (a : AlarmState). length a.takes) c.alarm.view_is in
    both_there c.args.link _ c.args.step _ (omega (arith, links, c.len.ensures, c.if-link-len.false, c.alarm.inside.takes.ok.0, kept)) (subst (λ (s : LogCodeState). c.args.step < s.coded.grid.steps) c.self.view_is (omega (arith, c.if-step-self.false)))

pub returns-clause-says : goal.returns-clause-says
returns-clause-says c =
    let found = found_alarm c.self.inside c.args.self.now c.args.alarm c.index-alarm.result.now c.self.view_is c.self.invariant c.requires c.index-alarm.ensures in
    let kept = ap (λ (a : AlarmState). length a.takes) c.alarm.view_is in
    subst (IsUnpassed c.args.self.now.coded c.args.alarm c.args.link c.args.step) (sym c.new.ensures)
    (unpassed_is c.args.self.now.coded c.args.alarm c.index-alarm.result.now c.args.link c.args.step c.passed.result found.0 (omega (arith, c.len.ensures, c.if-link-len.false, c.alarm.inside.takes.ok.0, kept)) (subst (λ (s : LogCodeState). c.args.step < s.coded.grid.steps) c.self.view_is (omega (arith, c.if-step-self.false)))
    (c.passed.ensures.variable ∙ ap (λ (v : AlarmVars). passed_variable v c.args.link c.args.step) c.vars_of.ensures))
