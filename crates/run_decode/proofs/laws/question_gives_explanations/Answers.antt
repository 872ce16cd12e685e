use Rattle.run_decode.proofs.Questions.{question_gives_explanations}
use Rattle.run_decode.proofs.laws.question_gives_explanations.Goals as goal

pub returns : goal.returns
returns c = question_gives_explanations
