use Rattle.run_decode.proofs.Decided.{question_is_decided}
use Rattle.run_decode.proofs.laws.question_is_decided.Goals as goal

pub returns : goal.returns
returns c = question_is_decided
