use Rattle.card_counter.proofs.Listed.{exclusion_is_listed}
use Rattle.card_counter.proofs.laws.exclusion_is_listed.Goals as goal

pub returns : goal.returns
returns c = exclusion_is_listed
