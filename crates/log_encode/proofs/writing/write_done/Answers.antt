use Rattle.std.proofs.Common.{◌∙◌, ◌++◌, ap}
use Rattle.log_encode.specs.Written.{ends_written, step_written}
use Rattle.log_encode.proofs.LoopLemmas.{flat_more_after}
use Rattle.log_encode.proofs.writing.write_done.Goals as goal

pub loop-step-preserved : goal.loop-step-preserved
loop-step-preserved c =
    c.in_ok-write_step.ensures ∙ ap (λ xs. xs ++ step_written c.args.vars c.loop-step.step) c.loop-step.invariant
    ∙ flat_more_after (step_written c.args.vars) c.loop-step.step c.args.out.now.clauses (ends_written c.args.asked c.args.vars)
