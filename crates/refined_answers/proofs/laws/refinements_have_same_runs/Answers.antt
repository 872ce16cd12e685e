use Rattle.refined_answers.proofs.RunLemmas.{refinements_have_same_runs}
use Rattle.refined_answers.proofs.laws.refinements_have_same_runs.Goals as goal

pub returns : goal.returns
returns c = refinements_have_same_runs
