use Rattle.refined_answers.proofs.TextLemmas.{behaviour_gives_replays}
use Rattle.refined_answers.proofs.laws.behaviour_gives_replays.Goals as goal

pub returns : goal.returns
returns c = behaviour_gives_replays
