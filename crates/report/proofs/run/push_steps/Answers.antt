use Rattle.std.proofs.Common.{arith}
use Rattle.replay.proofs.RunLemmas.{event_known}
use Rattle.report.specs.Replies.{text_of_step}
use Rattle.des_base.proofs.Appended.{one_more}
use Rattle.report.proofs.run.push_steps.Goals as goal

pub push_step-requires : goal.push_step-requires
push_step-requires c = event_known c.args.steps.now _ _ _ (omega arith) c.step-item.is c.requires

pub loop-step-preserved : goal.loop-step-preserved
loop-step-preserved c =
    one_more (text_of_step c.args.net.now) c.args.steps.now c.loop-step.step-index c.step-item.result c.args.out.now.items _ _ c.loop-step-test.true c.step-item.is c.loop-step.invariant c.in_ok-push_step.ensures.ok
