use Rattle.refined_answers.proofs.AnswerLemmas.{refinements_answer_alike}
use Rattle.refined_answers.proofs.laws.refinements_answer_alike.Goals as goal

pub returns : goal.returns
returns c = refinements_answer_alike
