use Rattle.log_encode.proofs.WrittenLemmas.{draft_is_built}
use Rattle.log_encode.proofs.laws.draft_is_built.Goals as goal

pub returns : goal.returns
returns c = draft_is_built
