use Rattle.std.proofs.Common.{◌∙◌, ◌++◌, ap}
use Rattle.log_encode.proofs.LoopLemmas.{flat_more_on}
use Rattle.log_encode.proofs.writing.write_steps.Goals as goal
use Rattle.log_encode.specs.Written.{link_variables, link_written, steps_of_link}

pub loop-step-preserved : goal.loop-step-preserved
loop-step-preserved c =
    let grid = c.args.grid in
    let vars = c.args.vars in
    let old = c.args.out.now.clauses in
    let so_far = steps_of_link grid vars c.args.link c.args.taken.now c.loop-step.step in
    c.in_ok-write_link.ensures ∙ ap (λ xs. xs ++ link_written c.link_vars.result) c.loop-step.invariant
    ∙ ap (λ v. (old ++ so_far) ++ link_written v) c.link_vars.ensures.variables
    ∙ flat_more_on (λ t. link_written (link_variables grid vars c.args.link c.args.taken.now t)) c.loop-step.step old
