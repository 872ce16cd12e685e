use Rattle.card_counter.proofs.Chains.{exclusion_is_exact}
use Rattle.card_counter.proofs.laws.exclusion_is_exact.Goals as goal

pub returns : goal.returns
returns c = exclusion_is_exact
