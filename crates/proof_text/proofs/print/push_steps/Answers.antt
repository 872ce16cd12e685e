use Rattle.std.proofs.Common.{subst}
use Rattle.std.proofs.lemmas.List.Elements.{All-more}
use Rattle.des_base.proofs.Appended.{one_more}
use Rattle.proof_text.specs.PrintedText.{step_text, NumbersFit}
use Rattle.proof_text.proofs.print.push_steps.Goals as goal

pub loop-step-preserved : goal.loop-step-preserved
loop-step-preserved c = record {
  text = one_more step_text c.args.steps.now c.loop-step.step-index c.step-item.result c.args.out.now.items _ _ c.loop-step-test.true c.step-item.is c.loop-step.invariant.text c.in_ok-push_step.ensures.ok;
  fit = All-more NumbersFit c.args.steps.now c.loop-step.step-index c.step-item.result c.loop-step-test.true c.loop-step.invariant.fit (subst NumbersFit c.step-item.is c.in_ok-push_step.ensures.fit);
}
