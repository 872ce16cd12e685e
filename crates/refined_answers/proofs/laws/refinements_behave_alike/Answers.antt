use Rattle.refined_answers.proofs.RunLemmas.{refinements_behave_alike}
use Rattle.refined_answers.proofs.laws.refinements_behave_alike.Goals as goal

pub returns : goal.returns
returns c = refinements_behave_alike
