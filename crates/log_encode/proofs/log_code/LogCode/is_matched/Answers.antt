use Rattle.std.proofs.Common.{◌∙◌, sym, ap, arith}
use Rattle.log_encode.proofs.CallLemmas.{link_below, match_below}
use Rattle.log_encode.proofs.log_code.LogCode.is_matched.Goals as goal
use Rattle.log_encode.specs.AlarmState.{variables_of}
use Rattle.log_encode.specs.AlarmVariables.{match_variable}
use Rattle.log_encode.specs.declared.alarm_vars.AlarmVars.{AlarmVars}

pub matched-requires-clause-link : goal.matched-requires-clause-link
matched-requires-clause-link c =
    let below = link_below 0 c.args.alarm.now.takes c.args.event c.in-Some.link (sym c.link_of.ensures ∙ c.in-Some.is) in
    let links = ap (λ (v : AlarmVars). v.links) c.vars_of.ensures in
    omega (arith, below, links)

pub value-requires : goal.value-requires
value-requires c =
    let below = link_below 0 c.args.alarm.now.takes c.args.event c.in-Some.link (sym c.link_of.ensures ∙ c.in-Some.is) in
    let vars = variables_of c.args.self.now.coded.grid.steps c.args.alarm.now in
    let is = c.matched.ensures.variable ∙ ap (λ (v : AlarmVars). match_variable v c.in-Some.link c.args.step) c.vars_of.ensures in
    let bound = match_below vars c.in-Some.link c.args.step (omega (arith, below)) c.requires.step in
    omega (arith, is, bound, c.requires.values)
