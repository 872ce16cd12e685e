use Rattle.refine_cli.proofs.DueLemmas.{says_itself}
use Rattle.refine_cli.proofs.run.refined_reply.Goals as goal

pub returns : goal.returns
returns c = λ as_read. says_itself _ _ _ c.new-2.ensures c.in_ok-text_of.ensures.text (c.in_ok-text_of.ensures.again as_read)
