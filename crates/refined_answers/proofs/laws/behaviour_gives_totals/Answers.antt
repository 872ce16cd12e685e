use Rattle.refined_answers.proofs.AnswerLemmas.{behaviour_gives_totals}
use Rattle.refined_answers.proofs.laws.behaviour_gives_totals.Goals as goal

pub returns : goal.returns
returns c = behaviour_gives_totals
