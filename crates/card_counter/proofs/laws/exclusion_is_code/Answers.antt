use Rattle.card_counter.proofs.Listed.{exclusion_is_code}
use Rattle.card_counter.proofs.laws.exclusion_is_code.Goals as goal

pub returns : goal.returns
returns c = exclusion_is_code
