use Rattle.refined_answers.proofs.BehaviourLemmas.{behaviour_gives_pieces}
use Rattle.refined_answers.proofs.laws.behaviour_gives_pieces.Goals as goal

pub returns : goal.returns
returns c = behaviour_gives_pieces
