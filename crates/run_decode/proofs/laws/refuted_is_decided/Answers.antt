use Rattle.run_decode.proofs.Decided.{refuted_is_decided}
use Rattle.run_decode.proofs.laws.refuted_is_decided.Goals as goal

pub returns : goal.returns
returns c = refuted_is_decided
