use Rattle.proof_text.proofs.Rechecking.{refutations_check}
use Rattle.proof_text.proofs.refuting.refutations_check.Goals as goal

pub returns : goal.returns
returns c = refutations_check
