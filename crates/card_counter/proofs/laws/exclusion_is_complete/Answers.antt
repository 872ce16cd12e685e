use Rattle.card_counter.proofs.Exclusions.{exclusion_is_complete}
use Rattle.card_counter.proofs.laws.exclusion_is_complete.Goals as goal

pub returns : goal.returns
returns c = exclusion_is_complete
