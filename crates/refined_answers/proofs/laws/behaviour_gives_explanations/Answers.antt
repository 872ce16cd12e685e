use Rattle.refined_answers.proofs.BehaviourLemmas.{behaviour_gives_explanations}
use Rattle.refined_answers.proofs.laws.behaviour_gives_explanations.Goals as goal

pub returns : goal.returns
returns c = behaviour_gives_explanations
