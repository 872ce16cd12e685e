use Rattle.refined_answers.proofs.FollowLemmas.{refinements_go_on}
use Rattle.refined_answers.proofs.laws.refinements_go_on.Goals as goal

pub returns : goal.returns
returns c = refinements_go_on
