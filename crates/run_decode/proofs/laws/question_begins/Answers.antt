use Rattle.run_decode.proofs.Built.{question_begins}
use Rattle.run_decode.proofs.laws.question_begins.Goals as goal

pub returns : goal.returns
returns c = question_begins
