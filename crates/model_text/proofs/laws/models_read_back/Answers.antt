use Rattle.model_text.proofs.ReadBackLemmas.{models_read_back}
use Rattle.model_text.proofs.laws.models_read_back.Goals as goal

pub returns : goal.returns
returns c = models_read_back
