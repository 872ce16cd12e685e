use Rattle.refined_answers.proofs.AnswerLemmas.{behaviour_gives_twins}
use Rattle.refined_answers.proofs.laws.behaviour_gives_twins.Goals as goal

pub returns : goal.returns
returns c = behaviour_gives_twins
