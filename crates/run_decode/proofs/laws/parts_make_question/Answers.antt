use Rattle.run_decode.proofs.Parts.{parts_make_question}
use Rattle.run_decode.proofs.laws.parts_make_question.Goals as goal

pub returns : goal.returns
returns c = parts_make_question
