use Rattle.refined_answers.proofs.FollowLemmas.{networks_refine_themselves}
use Rattle.refined_answers.proofs.laws.networks_refine_themselves.Goals as goal

pub returns : goal.returns
returns c = networks_refine_themselves
