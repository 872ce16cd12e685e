use Rattle.run_decode.proofs.Questions.{question_is_drawn}
use Rattle.run_decode.proofs.laws.question_is_drawn.Goals as goal

pub returns : goal.returns
returns c = question_is_drawn
